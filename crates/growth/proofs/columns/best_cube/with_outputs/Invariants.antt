use Rattle.std.proofs.Common.{◌≡◌}
use Rattle.growth.specs.declared.prime.Side.TheVariants.{Outside}
use Rattle.growth.specs.Growth.{on_side, IsSettledUpTo}
use Rattle.growth.proofs.columns.best_cube.with_outputs.Given as goal

abbrev pub invariant-loop-j : goal.invariant-loop-j
invariant-loop-j l = record {
  settled : IsSettledUpTo l.off.size (on_side Outside l.off.cubes) l.cube l.grown 0 l.j;
  symbols : l.grown.symbols ≡ l.cube.symbols;
}
