use Rattle.std.proofs.Common.{◌≡◌, ap, arith, get_or, inl, inr}
use Rattle.std.proofs.lemmas.Bool.{cases_lt}
use Rattle.sums.proofs.keys.first_key_not_below.Goals as goal

pub loop-at-init : goal.loop-at-init
loop-at-init c = λ j le lt. absurd (omega arith)

pub returns-then-keys-at-clause-below : goal.returns-then-keys-at-clause-below
returns-then-keys-at-clause-below c = c.loop-at.invariant

pub loop-at-preserved : goal.loop-at-preserved
loop-at-preserved c = λ j le lt. elim (cases_lt j c.loop-at.at) [
  | inl below ↦ c.loop-at.invariant j le below
  | inr late ↦
      let here : j ≡ c.loop-at.at = omega arith in
      omega (arith, ap (λ k. get_or c.args.keys.now k 0) here, c.if-keys-at.false)
]

pub returns-clause-below : goal.returns-clause-below
returns-clause-below c = λ j le lt. c.loop-at.invariant j le (omega arith)
