use Rattle.std.proofs.Common.{◌∙◌, ℕ, ◌==◌, not, ap}
use Rattle.std.proofs.lemmas.List.{take_all}
use Rattle.std.proofs.lemmas.Bool.{eq-eqb, ne_eqb}
use Rattle.covering.specs.Steps.{without}
use Rattle.covering.proofs.Pushes.{passes, fails}
use Rattle.covering.proofs.steps.without_column.Goals as goal
use Rattle.covering.proofs.steps.without_column.Goals.{then-column-x+in_ok-push, else-column-x}

pub loop-x-preserved : goal.loop-x-preserved
loop-x-preserved c = elim c.if-column-x.branch [
  | then-column-x+in_ok-push w ↦ passes (λ (x : ℕ). not (c.args.column == x)) c.args.xs.now c.loop-x.x-index 0 c.loop-x.others.items _ c.loop-x-test.true
      (ap not (ne_eqb _ _ w.if-column-x.true)) c.loop-x.invariant (ap (λ v. v.items) w.others-is ∙ w.in_ok-push.ensures.items)
  | else-column-x w ↦ fails (λ (x : ℕ). not (c.args.column == x)) c.args.xs.now c.loop-x.x-index 0 c.loop-x.others.items _ c.loop-x-test.true
      (ap not (eq-eqb _ _ w.if-column-x.false)) c.loop-x.invariant (ap (λ v. v.items) w.others-is)
]

pub returns : goal.returns
returns c = c.loop-x.invariant ∙ ap (without c.args.column) (take_all c.loop-x.x-index c.args.xs.now c.loop-x-test.false)
