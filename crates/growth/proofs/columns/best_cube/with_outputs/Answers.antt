use Rattle.std.proofs.Common.{◌≡◌, ◌∙◌, ap, sym, subst, arith}
use Rattle.growth.specs.declared.prime.Side.TheVariants.{Outside}
use Rattle.growth.specs.Growth.{on_side, IsSettledUpTo}
use Rattle.growth.proofs.GrowthSteps.{settled_none, settled_output}
use Rattle.growth.proofs.columns.best_cube.with_outputs.Goals as goal

pub loop-j-init : goal.loop-j-init
loop-j-init c =
    let off = c.args.off.now in
    let s = on_side Outside off.cubes in
    record {
      settled = subst (λ g. IsSettledUpTo off.size s c.args.cube.now g 0 0) (sym c.in_ok-grown.ensures.value) (settled_none off.size s c.args.cube.now c.requires);
      symbols = ap (λ g. g.symbols) c.in_ok-grown.ensures.value;
    }

pub loop-j-preserved : goal.loop-j-preserved
loop-j-preserved c =
    let off = c.args.off.now in
    let h = c.loop-j.invariant in
    let more = c.in_ok-settle_output.ensures in
    record {
      settled = settled_output off.size (on_side Outside off.cubes) c.args.cube.now c.loop-j.grown c.settle_output.new.cube 0 c.loop-j.j h.settled more.cube more.over (more.settled c.if-not-branch.false);
      symbols = more.symbols ∙ h.symbols;
    }

pub returns-clause-settled : goal.returns-clause-settled
returns-clause-settled c =
    let off = c.args.off.now in
    let all : c.loop-j.j ≡ off.size.outputs = omega (arith, c.loop-j-test.false, c.loop-j.auto.j-end, c.outputs-j-end.ensures.value, ap (λ z. z.outputs) c.shape.ensures.size) in
    subst (λ n. IsSettledUpTo off.size (on_side Outside off.cubes) c.args.cube.now c.loop-j.grown 0 n) all c.loop-j.invariant.settled
