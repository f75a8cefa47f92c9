use Rattle.std.proofs.Common.{◌≡◌, ◌∙◌, ℕ, true, not, [], map, sym, ap, subst, arith}
use Rattle.std.specs.List.{list_all, range_with_len}
use Rattle.std.proofs.lemmas.List.Folds.{list_all-map}
use Rattle.covering.specs.Table.{has}
use Rattle.covering.specs.Cover.{IsLeast}
use Rattle.covering.specs.Search.{marked}
use Rattle.covering.specs.Parts.{part_of, is_on_one_side}
use Rattle.covering.proofs.Lagrange.{marks_at}
use Rattle.covering.proofs.Sides.{parts_least}
use Rattle.covering.proofs.table.Table.parts.Goals as goal

pub returns : goal.returns
returns c =
    let t = c.args.self.now in
    let marks = c.in-Some.marks.items in
    let others = c.in_ok-others.others.items in
    let made : others ≡ map (λ n. not (marked marks n)) (range_with_len 0 t.columns) = c.in_ok-others.ensures ∙ ap (λ ks. map (λ n. not (marked ks n)) (range_with_len 0 c.columns-2.result)) c.deref.ensures.value ∙ ap (λ k. map (λ n. not (marked marks n)) (range_with_len 0 k)) c.columns-2.ensures.count in
    let two : (n : ℕ) → has n t.live ≡ true → marked others n ≡ not (marked marks n) = λ n l. ap (λ ks. marked ks n) made ∙ marks_at (λ m. not (marked marks m)) t.columns n (c.row_lists.ensures.table.within n l) in
    let sides : list_all (λ row. is_on_one_side marks others row) t.rows ≡ true =
    ap (list_all (λ row. is_on_one_side marks others row)) (sym c.row_lists-2.ensures.value)
    ∙ list_all-map (λ row. is_on_one_side marks others row) (λ row. row.items) c.row_lists-2.result.now
    ∙ ap (λ ks. list_all (λ row. is_on_one_side ks others row.items) c.row_lists-2.result.now) (sym c.deref-2.ensures.value)
    ∙ ap (λ ks. list_all (λ row. is_on_one_side c.deref-2.result.now ks row.items) c.row_lists-2.result.now) (sym c.deref-3.ensures.value)
    ∙ sym c.are_apart.ensures ∙ c.if-not-are_apart.false in
    let one : c.in_ok-one.one ≡ part_of (marked marks) t.taken t =
    c.in_ok-one.ensures ∙ ap (λ ks. part_of (marked ks) c.in_ok-taken.taken.items t) c.deref-4.ensures.value ∙ ap (λ ts. part_of (marked marks) ts t) (c.in_ok-taken.ensures ∙ c.taken_columns.ensures.value) in
    let other : c.in_ok-other.other ≡ part_of (marked others) [] t =
    c.in_ok-other.ensures ∙ ap (λ ks. part_of (marked ks) c.new.result.items t) c.deref-5.ensures.value ∙ ap (λ ts. part_of (marked others) ts t) c.new.ensures.items in
    record {
      least = λ choice s x h k. parts_least t (marked marks) (marked others) c.row_lists.ensures.table two sides choice s x (subst (λ g. IsLeast choice g s) one h) (subst (λ g. IsLeast choice g x) other k);
      fewer = omega (arith, c.if-row_count-larger.false, c.row_count.ensures, c.row_count-2.ensures, c.row_count-3.ensures, c.max-larger.ensures);
      other_fewer = omega (arith, c.if-row_count-larger.false, c.row_count.ensures, c.row_count-2.ensures, c.row_count-3.ensures, c.max-larger.ensures);
    }
