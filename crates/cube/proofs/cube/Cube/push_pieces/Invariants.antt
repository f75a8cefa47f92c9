use Rattle.std.proofs.Common.{◌≡◌, ◌≤◌, ◌++◌, length}
use Rattle.cube.specs.Sharp.{pieces_below}
use Rattle.cube.proofs.cube.Cube.push_pieces.Given as goal

abbrev pub invariant-loop-i : goal.invariant-loop-i
invariant-loop-i l = record {
  within : l.i ≤ length l.self.symbols;
  rows : l.rows.items ++ pieces_below l.self l.other l.i ≡ l.fn.rows.items ++ pieces_below l.self l.other (length l.self.symbols);
}
