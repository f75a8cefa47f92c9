use Rattle.std.proofs.Common.{◌≡◌, ◌∙◌, ℕ, true, nat_lt, length, slice_index_or, sym, ap, subst}
use Rattle.std.proofs.lemmas.Bool.{and_parts, and_from, lt-ltb, both_ways}
use Rattle.std.specs.List.{list_any}
use Rattle.covering.specs.Table.{has, items_of}
use Rattle.covering.specs.Cover.{counted}
use Rattle.covering.specs.Search.{marked}
use Rattle.covering.specs.Reduce.{AreDominatedByKept, dominates, is_preferred}
use Rattle.covering.proofs.Dominance.{preferred_on, one_leaves}
use Rattle.covering.proofs.column_dominance.dominance_by_kept.Goals as goal
use Rattle.covering.proofs.column_dominance.dominance_by_kept.Goals.{then-any_dominates, else-any_dominates+in_ok-add}

pub loop-column-init : goal.loop-column-init
loop-column-init c =
    let live = c.args.live.now in
    let end = length c.args.transpose.now in (
      (λ a h m. absurd (both_ways _ m (c.in_ok-keep.ensures a ∙ and_from (nat_lt a end) (has a live) (lt-ltb a end (c.requires.below a h)) h))),
      (λ b m. (and_parts (nat_lt b end) (has b live) (sym (c.in_ok-keep.ensures b) ∙ m)).1),
    )

pub loop-column-preserved : goal.loop-column-preserved
loop-column-preserved c =
    let preferred = is_preferred c.args.preference (counted c.args.choice c.args.literals.now) in
    let trans = preferred_on c.args.preference (counted c.args.choice c.args.literals.now) in
    let a = slice_index_or c.deref-column-items.result.now c.loop-column.column-index 0 in
    let asked = c.any_dominates.ensures ∙ ap (λ keep. list_any (dominates preferred (items_of c.args.transpose.now) keep a) c.in_ok-among.among.now) c.deref.ensures.value in
    let live = c.args.live.now in
    let transpose = items_of c.args.transpose.now in
    elim c.if-any_dominates.branch [
      | then-any_dominates w ↦ subst (λ keep. AreDominatedByKept preferred live transpose keep.items × ((b : ℕ) → marked keep.items b ≡ true → has b live ≡ true)) (sym w.keep-is)
          (one_leaves preferred trans live transpose c.loop-column.keep.items _ _ _ c.loop-column.invariant (sym asked ∙ w.if-any_dominates.true) w.unmark.ensures)
      | else-any_dominates+in_ok-add w ↦ subst (λ keep. AreDominatedByKept preferred live transpose keep.items × ((b : ℕ) → marked keep.items b ≡ true → has b live ≡ true)) (sym w.keep-is) c.loop-column.invariant
    ]
