use Rattle.std.proofs.Common.{subst, inl, inr}
use Rattle.std.specs.List.{Contains}
use Rattle.std.proofs.lemmas.List.Elements.{Contains-append_cases}
use Rattle.std.proofs.lemmas.Result.{IfOk-weaker}
use Rattle.cube.proofs.Members.{Contains-nil}
use Rattle.sums.proofs.OverRegion.{HasSameCubes-first}
use Rattle.sums.proofs.containing.near_rows_then_all.Goals as goal

pub loop-count-init : goal.loop-count-init
loop-count-init c = λ d k. absurd (Contains-nil d (subst (λ l. Contains l d) c.new-all.ensures.items k))

pub loop-count-preserved : goal.loop-count-preserved
loop-count-preserved c = λ d k.
    elim (Contains-append_cases c.loop-count.all.items c.in_ok-some.some.items d (subst (λ l. Contains l d) c.in_ok-all.ensures k)) [
      | inl m ↦ c.loop-count.invariant d m
      | inr m ↦ subst (λ l. Contains l d) c.deref.ensures.value (c.in_ok-some.ensures d m)
    ]

pub returns : goal.returns
returns c =
    IfOk-weaker c.rows_of_both-2.result _ _ (λ all h. HasSameCubes-first c.args.rows.items c.loop-count.all.items all.items h c.loop-count.invariant) c.rows_of_both-2.ensures
