use Rattle.std.proofs.Common.{◌≡◌, ◌∙◌, ◌<◌, inl, inr, map, length, refl, sym, ap, subst, arith}
use Rattle.std.specs.Prelude.{filter}
use Rattle.std.specs.List.{list_all}
use Rattle.std.proofs.lemmas.Bool.{cases_lt}
use Rattle.covering.specs.declared.column_dominance.Preference.TheVariants.{NoDearer}
use Rattle.covering.specs.Table.{Table, IsTable, items_of, table_of}
use Rattle.covering.specs.Cover.{counted}
use Rattle.covering.specs.Search.{marked, keep_columns, IsServed, IsWeakStep}
use Rattle.covering.specs.Reduce.{AreDominatedByKept, IsTranspose, is_preferred}
use Rattle.covering.proofs.Made.{table_same}
use Rattle.covering.proofs.Sets.{filter_length}
use Rattle.covering.proofs.Reduced.{filter_not_full}
use Rattle.covering.proofs.WeakDominance.{served, served_lighter, undominated_table}
use Rattle.covering.proofs.table.Table.drop_weakly_dominated_columns.Goals as goal
use Rattle.covering.proofs.table.Table.drop_weakly_dominated_columns.Goals.{In_ok-keep}

-- the table that the fields show
abbrev own : (c : In_ok-keep) → Table
own c = let t = c.self.inside in table_of t.columns t.taken.items t.live.items (items_of t.rows.items) t.literals.items

marks : (c : In_ok-keep) → AreDominatedByKept (is_preferred NoDearer (counted c.args.choice (own c).weights)) (own c).live (items_of c.args.transpose.now) c.in_ok-keep.keep.items
marks c =
    subst (λ ls. AreDominatedByKept (is_preferred NoDearer (counted c.args.choice (own c).weights)) ls (items_of c.args.transpose.now) c.in_ok-keep.keep.items) c.deref-2.ensures.value
    (subst (λ ws. AreDominatedByKept (is_preferred NoDearer (counted c.args.choice ws)) c.deref-2.result.now (items_of c.args.transpose.now) c.in_ok-keep.keep.items) c.deref.ensures.value c.in_ok-keep.ensures.dominated)

rows : (c : In_ok-keep) → IsTranspose (own c).columns (own c).rows (items_of c.args.transpose.now)
rows c = subst (λ (t : Table). IsTranspose t.columns t.rows (items_of c.args.transpose.now)) (sym c.self.view_is) c.requires.transpose

pub invariant_of-self : goal.invariant_of-self
invariant_of-self c =
    let p = (goal.at.invariant_of-self c).In_ok-keep in
    let live = c.retain_marked.ensures ∙ ap (λ ks. filter (marked ks) (own p).live) c.deref-6.ensures.value in
    let kept = c.retain_marked_in_rows.ensures ∙ ap (λ ks. map (filter (marked ks)) (own p).rows) c.deref-7.ensures.value in
    subst IsTable (sym (table_same (own p).columns _ _ _ _ _ _ _ _ refl live kept refl))
    (undominated_table (is_preferred NoDearer (counted c.args.choice (own p).weights)) (own p) (items_of c.args.transpose.now) c.in_ok-keep.keep.items c.self.invariant (rows p) (marks p))

pub returns : goal.returns
returns c =
    let p = (goal.at.returns c).In_ok-keep in
    let keep = c.in_ok-keep.keep.items in
    let live = c.retain_marked.ensures ∙ ap (λ ks. filter (marked ks) (own p).live) c.deref-6.ensures.value in
    let kept = c.retain_marked_in_rows.ensures ∙ ap (λ ks. map (filter (marked ks)) (own p).rows) c.deref-7.ensures.value in
    let some = sym (c.all_kept.ensures ∙ ap (λ ks. list_all (marked ks) c.deref-4.result.now) c.deref-5.ensures.value ∙ ap (list_all (marked keep)) c.deref-4.ensures.value) ∙ c.if-all_kept.false in
    let fewer : length (filter (marked keep) (own p).live) < length (own p).live = elim (cases_lt (length (filter (marked keep) (own p).live)) (length (own p).live)) [
      | inl less ↦ less
      | inr more ↦ absurd (filter_not_full (marked keep) (own p).live some (let most = filter_length (marked keep) (own p).live in omega arith))
    ] in
    let is_served : IsServed c.args.choice (own p) keep = served c.args.choice (own p) (items_of c.args.transpose.now) keep c.self.invariant (rows p) (marks p) in
    let left = table_of (own p).columns (own p).taken c.retain_marked.new.columns.items (items_of c.retain_marked_in_rows.new.rows.items) (own p).weights in
    let same : left ≡ keep_columns (marked keep) (own p) = table_same (own p).columns _ _ _ _ _ _ _ _ refl live kept refl in
    subst (λ t. IsWeakStep c.args.choice t left) c.self.view_is
    (served_lighter c.args.choice (own p) left keep c.self.invariant is_served same (subst (λ n. n < length (own p).live) (sym (ap length live)) fewer))
