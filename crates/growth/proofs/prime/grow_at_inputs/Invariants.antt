use Rattle.growth.specs.Growth.{IsGrown, IsFreed, AreNear, near_or, on_side}
use Rattle.growth.proofs.prime.grow_at_inputs.Given as goal

abbrev pub invariant-loop-i : goal.invariant-loop-i
invariant-loop-i l = record {
  grown : IsGrown l.rows.size (on_side l.side l.rows.cubes) l.cube l.growth.cube l.i 0;
  freed : IsFreed l.rows.size (on_side l.side l.rows.cubes) l.cube l.growth.cube l.i;
  near : AreNear l.growth.cube l.rows (near_or l.rows l.growth.near);
}
