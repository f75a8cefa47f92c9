use Rattle.std.proofs.Common.{◌≡◌, ◌*◌, ◌≤◌}
use Rattle.cube.specs.Literals.{is_opposite, count_inputs}
use Rattle.cube.proofs.cube.Cube.opposites.Given as goal

abbrev pub invariant-loop-w : goal.invariant-loop-w
invariant-loop-w l = record {
  counted : l.count ≡ count_inputs (is_opposite l.self l.other) (32 * l.w);
  bounded : l.count ≤ 64 * l.w;
}
