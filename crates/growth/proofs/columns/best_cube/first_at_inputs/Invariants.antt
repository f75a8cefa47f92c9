use Rattle.growth.specs.declared.prime.Side.TheVariants.{Outside}
use Rattle.growth.specs.Growth.{on_side, IsFreed, IsSettledUpTo}
use Rattle.growth.proofs.columns.best_cube.first_at_inputs.Given as goal

abbrev pub invariant-loop-i : goal.invariant-loop-i
invariant-loop-i l = record {
  settled : IsSettledUpTo l.off.size (on_side Outside l.off.cubes) l.cube l.grown l.i 0;
  freed : IsFreed l.off.size (on_side Outside l.off.cubes) l.cube l.grown l.i;
}
