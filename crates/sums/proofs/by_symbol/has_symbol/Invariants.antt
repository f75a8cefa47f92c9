use Rattle.std.proofs.Common.{◌≡◌, take, false}
use Rattle.rows.specs.Parts.{has_symbol}
use Rattle.sums.proofs.by_symbol.has_symbol.Given as goal

abbrev pub invariant-loop-row : goal.invariant-loop-row
invariant-loop-row l = has_symbol l.i l.symbol (take l.row-index l.rows) ≡ false
