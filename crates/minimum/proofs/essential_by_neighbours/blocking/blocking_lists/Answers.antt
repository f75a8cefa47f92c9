use Rattle.std.proofs.Common.{◌+◌, arith, ap, sym, subst, ◌∙◌, false}
use Rattle.std.proofs.lemmas.Option.{get_or_from_slice_get}
use Rattle.minimum.specs.Blocking.{AreBlocking}
use Rattle.growth.specs.declared.prime.Side.TheVariants.{Outside}
use Rattle.growth.specs.Growth.{on_side}
use Rattle.minimum.specs.Neighbours.{IsAlone, IsAloneByInputs}
use Rattle.minimum.proofs.Blocking.{OutputsSoFar, blocking_same, outputs_next, outputs_skipped, outputs_all, blocking_sorted}
use Rattle.minimum.proofs.essential_by_neighbours.blocking.blocking_lists.Goals as goal
use Rattle.minimum.proofs.essential_by_neighbours.blocking.blocking_lists.Goals.{then-not-output+in_ok-blocking_output+in_ok-push, else-not-output}

pub loop-j-preserved : goal.loop-j-preserved
loop-j-preserved c =
    let off = c.args.off.now in
    let prime = c.args.prime.now in
    let j = c.loop-j.j in
    let lists = c.loop-j.lists.items in
    let own = get_or_from_slice_get prime.outputs j c.output.result false c.output.ensures in
    elim c.if-not-output.branch [
      | then-not-output+in_ok-blocking_output+in_ok-push w ↦
          subst (λ z. AreBlocking off.size prime z (OutputsSoFar off.cubes prime (j + 1))) (sym (ap (λ z. z.items) w.lists-is))
          (outputs_next off.size off.cubes prime c.requires lists j w.in_ok-blocking_output.field-0 w.push.new.self.items c.loop-j.invariant
          (own ∙ w.if-not-output.true) w.in_ok-blocking_output.ensures w.in_ok-push.ensures.items)
      | else-not-output w ↦
          subst (λ z. AreBlocking off.size prime z (OutputsSoFar off.cubes prime (j + 1))) (sym (ap (λ z. z.items) w.lists-is))
          (outputs_skipped off.size off.cubes prime c.requires lists j c.loop-j.invariant (own ∙ w.if-not-output.false))
    ]

pub returns : goal.returns
returns c =
    let off = c.args.off.now in
    let prime = c.args.prime.now in
    let lists = c.loop-j.lists.items in
    blocking_sorted off.size prime lists c.sort_unstable_by_key.new.self.items (IsAlone (on_side Outside off.cubes) prime)
    (outputs_all off.size off.cubes prime c.requires lists c.loop-j.j (omega (arith, c.loop-j-test.false, c.loop-j.auto.j-end, c.outputs-j-end.ensures.value, ap (λ z. z.outputs) c.shape.ensures.size)) c.loop-j.invariant)
    c.sort_unstable_by_key.ensures.permutation

pub loop-j-init : goal.loop-j-init
loop-j-init c =
    let off = c.args.off.now in
    let prime = c.args.prime.now in
    blocking_same off.size prime c.in_ok-lists.lists.items (IsAloneByInputs (on_side Outside off.cubes) prime) (OutputsSoFar off.cubes prime 0) c.in_ok-lists.ensures
    (λ p a. (a, λ k lt _. absurd (omega (arith, lt)))) (λ p a. a.0)
