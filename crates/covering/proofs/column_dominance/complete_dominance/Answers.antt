use Rattle.std.proofs.Common.{◌∙◌, ◌+◌, take, slice_index_or, sym, ap, subst}
use Rattle.std.proofs.lemmas.List.{take_all}
use Rattle.std.specs.List.{list_any}
use Rattle.covering.specs.Table.{items_of}
use Rattle.covering.specs.Cover.{counted}
use Rattle.covering.specs.Search.{marked}
use Rattle.covering.specs.Reduce.{ColumnDominanceSoFar, dominates, is_preferred}
use Rattle.covering.proofs.Branches.{all_marked_at}
use Rattle.covering.proofs.Dominance.{preferred_on, keep_start, keep_hit, keep_miss, keep_done}
use Rattle.covering.proofs.column_dominance.complete_dominance.Goals as goal
use Rattle.covering.proofs.column_dominance.complete_dominance.Goals.{then-is_dominated, else-is_dominated}

pub loop-column-init : goal.loop-column-init
loop-column-init c = keep_start (is_preferred c.args.preference (counted c.args.choice c.args.literals.now)) c.args.live.now (items_of c.args.transpose.now) c.in_ok-keep.keep.items
    (λ a h. ap (λ xs. marked xs a) c.in_ok-keep.ensures ∙ all_marked_at _ a (c.requires.below a h))

pub loop-column-preserved : goal.loop-column-preserved
loop-column-preserved c =
    let preferred = is_preferred c.args.preference (counted c.args.choice c.args.literals.now) in
    let trans = preferred_on c.args.preference (counted c.args.choice c.args.literals.now) in
    let live = c.args.live.now in
    let transpose = items_of c.args.transpose.now in
    let i = c.loop-column.column-index in
    let asked = c.is_dominated.ensures ∙ ap (λ keep. list_any (dominates preferred transpose keep (slice_index_or live i 0)) live) c.deref.ensures.value in
    elim c.if-is_dominated.branch [
      | then-is_dominated w ↦ subst (λ keep. ColumnDominanceSoFar preferred live transpose (take (i + 1) live) keep.items) (sym w.keep-is)
          (keep_hit preferred trans live transpose i c.loop-column.keep.items c.loop-column-test.true c.loop-column.invariant w.unmark.new.marks.items (sym asked ∙ w.if-is_dominated.true) w.unmark.ensures)
      | else-is_dominated w ↦ subst (λ keep. ColumnDominanceSoFar preferred live transpose (take (i + 1) live) keep.items) (sym w.keep-is)
          (keep_miss preferred trans live transpose i c.loop-column.keep.items c.loop-column-test.true c.loop-column.invariant (sym asked ∙ w.if-is_dominated.false))
    ]

pub returns : goal.returns
returns c = keep_done (is_preferred c.args.preference (counted c.args.choice c.args.literals.now)) c.args.live.now (items_of c.args.transpose.now) c.loop-column.keep.items
    (subst (λ asked. ColumnDominanceSoFar (is_preferred c.args.preference (counted c.args.choice c.args.literals.now)) c.args.live.now (items_of c.args.transpose.now) asked c.loop-column.keep.items) (take_all c.loop-column.column-index c.args.live.now c.loop-column-test.false) c.loop-column.invariant)
