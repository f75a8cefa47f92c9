use Rattle.std.proofs.Common.{◌≡◌, ◌<◌, ap, sym, subst, arith}
use Rattle.growth.specs.declared.prime.Side.TheVariants.{Outside}
use Rattle.growth.specs.Growth.{on_side, IsFreed, IsSettledUpTo}
use Rattle.growth.proofs.GrowthSteps.{settled_none, settled_input}
use Rattle.growth.proofs.FirstPrimes.{freed_none, freed_more, freed_grows_all}
use Rattle.growth.proofs.columns.best_cube.first_at_inputs.Goals as goal

pub loop-i-init : goal.loop-i-init
loop-i-init c =
    let off = c.args.off.now in
    let s = on_side Outside off.cubes in
    record {
      settled = subst (λ g. IsSettledUpTo off.size s c.args.cube.now g 0 0) (sym c.in_ok-grown.ensures.value) (settled_none off.size s c.args.cube.now c.requires);
      freed = subst (λ g. IsFreed off.size s c.args.cube.now g 0) (sym c.in_ok-grown.ensures.value) (freed_none off.size s c.args.cube.now);
    }

pub loop-i-preserved : goal.loop-i-preserved
loop-i-preserved c =
    let off = c.args.off.now in
    let s = on_side Outside off.cubes in
    let old = c.loop-i.grown in
    let new = c.settle_input.new.cube in
    let i = c.loop-i.i in
    let h = c.loop-i.invariant in
    let lt : i < off.size.inputs = omega (arith, c.loop-i-test.true, c.inputs-i-end.ensures.value, ap (λ z. z.inputs) c.shape.ensures.size) in
    let step = c.in_ok-settle_input.ensures.freed in
    let here = c.in_ok-settle_input.ensures.settled c.if-not-branch.false in
    let grows = freed_grows_all off.size old new i h.settled.is_cube lt step in
    record {
      settled = settled_input off.size s c.args.cube.now old new i 0 h.settled grows.is_cube grows.over here;
      freed = freed_more off.size s c.args.cube.now old new i c.requires h.settled.is_cube lt h.freed step here;
    }

pub returns-clause-settled : goal.returns-clause-settled
returns-clause-settled c =
    let off = c.args.off.now in
    let all : c.loop-i.i ≡ off.size.inputs = omega (arith, c.loop-i-test.false, c.loop-i.auto.i-end, c.inputs-i-end.ensures.value, ap (λ z. z.inputs) c.shape.ensures.size) in
    subst (λ n. IsSettledUpTo off.size (on_side Outside off.cubes) c.args.cube.now c.loop-i.grown n 0) all c.loop-i.invariant.settled

pub returns-clause-first : goal.returns-clause-first
returns-clause-first c i lt =
    let off = c.args.off.now in
    let all : c.loop-i.i ≡ off.size.inputs = omega (arith, c.loop-i-test.false, c.loop-i.auto.i-end, c.inputs-i-end.ensures.value, ap (λ z. z.inputs) c.shape.ensures.size) in
    c.loop-i.invariant.freed.first i (omega (arith, all, lt))
