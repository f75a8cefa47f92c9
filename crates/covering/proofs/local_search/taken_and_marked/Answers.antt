use Rattle.std.proofs.Common.{◌∙◌, ◌&&◌, ◌||◌, sym, ap}
use Rattle.covering.specs.Table.{has}
use Rattle.covering.specs.Search.{marked}
use Rattle.covering.proofs.Pushes.{number_passes, number_fails}
use Rattle.covering.proofs.local_search.taken_and_marked.Goals as goal
use Rattle.covering.proofs.local_search.taken_and_marked.Goals.{then-is_chosen+in_ok-push, else-is_chosen}

pub loop-n-preserved : goal.loop-n-preserved
loop-n-preserved c = elim c.if-is_chosen.branch [
  | then-is_chosen+in_ok-push w ↦ number_passes (λ n. has n c.args.taken.now || (marked c.args.marks.now n && has n c.args.live.now)) c.loop-n.n c.loop-n.columns.items _
      (sym c.is_chosen.ensures ∙ w.if-is_chosen.true) c.loop-n.invariant (ap (λ v. v.items) w.columns-is ∙ w.in_ok-push.ensures.items)
  | else-is_chosen w ↦ number_fails (λ n. has n c.args.taken.now || (marked c.args.marks.now n && has n c.args.live.now)) c.loop-n.n c.loop-n.columns.items _
      (sym c.is_chosen.ensures ∙ w.if-is_chosen.false) c.loop-n.invariant (ap (λ v. v.items) w.columns-is)
]
