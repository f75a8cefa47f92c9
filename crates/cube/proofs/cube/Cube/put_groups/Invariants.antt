use Rattle.std.proofs.Common.{◌≡◌, ◌*◌, ◌++◌, map, take, drop}
use Rattle.cube.specs.Bytes.{symbol_byte}
use Rattle.cube.proofs.cube.Cube.put_groups.Given as goal

abbrev pub invariant-loop-g : goal.invariant-loop-g
invariant-loop-g l = l.row ≡ map (symbol_byte 45 48 49) (take (4 * l.g) l.self.symbols) ++ drop (4 * l.g) l.fn.row
