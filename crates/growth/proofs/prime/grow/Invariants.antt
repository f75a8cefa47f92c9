use Rattle.std.proofs.Common.{◌≡◌}
use Rattle.growth.specs.Growth.{Grows, IsGrown, AreNear, near_or, on_side}
use Rattle.growth.proofs.prime.grow.Given as goal

abbrev pub invariant-loop-j : goal.invariant-loop-j
invariant-loop-j l = record {
  grown : IsGrown l.rows.size (on_side l.side l.rows.cubes) l.cube l.growth.cube l.rows.size.inputs l.j;
  near : AreNear l.growth.cube l.rows (near_or l.rows l.growth.near);
  symbols : l.growth.cube.symbols ≡ l.initial.growth.cube.symbols;
  since : Grows l.rows.size (on_side l.side l.rows.cubes) l.initial.growth.cube l.growth.cube;
}
