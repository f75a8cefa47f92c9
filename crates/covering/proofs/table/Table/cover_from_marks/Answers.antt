use Rattle.std.proofs.Common.{◌≡◌, ◌∙◌, ◌&&◌, ◌||◌, true, length, sym, ap, subst, arith}
use Rattle.std.specs.Prelude.{filter}
use Rattle.std.specs.List.{AllByRecursion, list_all, range_with_len}
use Rattle.covering.specs.Table.{has, RisesFrom}
use Rattle.covering.specs.Cover.{meets, counted, sum_over}
use Rattle.covering.specs.Search.{marked}
use Rattle.covering.proofs.Sets.{filter_rises}
use Rattle.covering.proofs.Rising.{range_rises}
use Rattle.covering.proofs.Chosen.{all_met, chosen, chosen_cover}
use Rattle.covering.proofs.table.Table.cover_from_marks.Goals as goal
use Rattle.covering.proofs.table.Table.cover_from_marks.Goals.{In_ok-cover}

made : (c : In_ok-cover) → c.in_ok-cover.cover.items ≡ filter (chosen c.args.self.now c.args.marks.now) (range_with_len 0 c.args.self.now.columns)
made c =
    c.in_ok-cover.ensures
    ∙ ap (λ ts. filter (λ n. has n ts || (marked c.args.marks.now n && has n c.live_columns.result.now)) (range_with_len 0 c.columns.result)) c.taken_columns.ensures.value
    ∙ ap (λ ls. filter (λ n. has n c.args.self.now.taken || (marked c.args.marks.now n && has n ls)) (range_with_len 0 c.columns.result)) c.live_columns.ensures.value
    ∙ ap (λ m. filter (chosen c.args.self.now c.args.marks.now) (range_with_len 0 m)) c.columns.ensures.count

pub rising_meets_all-requires : goal.rising_meets_all-requires
rising_meets_all-requires c =
    let p = (goal.at.rising_meets_all-requires c).In_ok-cover in
    subst (RisesFrom 0) (sym (c.deref-2.ensures.value ∙ made p)) (filter_rises (chosen c.args.self.now c.args.marks.now) 0 (range_with_len 0 c.args.self.now.columns) (range_rises 0 c.args.self.now.columns))

pub returns : goal.returns
returns c =
    let p = (goal.at.returns c).In_ok-cover in
    let t = c.args.self.now in
    let s = c.in_ok-cover.cover.items in
    let held : AllByRecursion (λ row. meets s row ≡ true) t.rows = subst (AllByRecursion (λ row. meets s row ≡ true)) c.row_lists.ensures.value (all_met s c.row_lists.result.now (subst (λ xs. list_all (λ row. meets xs row.items) c.row_lists.result.now ≡ true) c.deref-2.ensures.value (sym c.rising_meets_all.ensures ∙ c.if-not-rising_meets_all.false))) in
    let long : length s ≡ c.len.result = omega (arith, c.len.ensures, c.in_ok-cover.cover.ok) in
    let few = c.if-cutoff-len.false in
    let sum : c.total_cost.result ≡ sum_over (counted c.args.choice t.weights) s = c.total_cost.ensures ∙ ap (λ ws. sum_over (counted c.args.choice ws) c.deref.result.now) c.literals.ensures.value ∙ ap (sum_over (counted c.args.choice t.weights)) c.deref.ensures.value in
    let less = c.if-cutoff-total_cost.false in
    record { cover = chosen_cover t c.args.marks.now s c.taken_columns.ensures.table (made p) held; fits = omega arith; counts = omega arith }
