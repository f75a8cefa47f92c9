use Rattle.std.proofs.Common.{◌≡◌, ◌++◌, take}
use Rattle.rows.proofs.copies.with_copies.Given as goal

abbrev pub invariant-loop-cube : goal.invariant-loop-cube
invariant-loop-cube l = l.all.items ≡ l.fn.list.items ++ take l.cube-index l.cubes
