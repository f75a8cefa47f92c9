use Rattle.std.proofs.Common.{◌≡◌, ◌++◌, map, take, drop}
use Rattle.cube.specs.Bytes.{symbol_byte}
use Rattle.cube.proofs.cube.Cube.put_symbols.Given as goal

abbrev pub invariant-loop-i : goal.invariant-loop-i
invariant-loop-i l = l.row ≡ map (symbol_byte l.dash l.zero l.one) (take l.i l.self.symbols) ++ drop l.i l.fn.row
