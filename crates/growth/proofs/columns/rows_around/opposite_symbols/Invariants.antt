use Rattle.std.proofs.Common.{◌≡◌, map, take}
use Rattle.cube.specs.Sharp.{opposite}
use Rattle.growth.proofs.columns.rows_around.opposite_symbols.Given as goal

abbrev pub invariant-loop-i : goal.invariant-loop-i
invariant-loop-i l = l.symbols.items ≡ map opposite (take l.i l.cube.symbols)
