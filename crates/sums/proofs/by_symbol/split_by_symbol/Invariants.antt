use Rattle.std.proofs.Common.{◌≡◌, ◌++◌, drop}
use Rattle.cube.specs.declared.symbol.Symbol.TheVariants.{Dash, Zero, One}
use Rattle.rows.specs.Parts.{part}
use Rattle.sums.proofs.by_symbol.split_by_symbol.Given as goal

abbrev pub invariant-loop-row : goal.invariant-loop-row
invariant-loop-row l = record {
  dashes : l.dashes.items ++ part l.i Dash (drop l.row-index l.rows) ≡ part l.i Dash l.rows;
  zeros : l.zeros.items ++ part l.i Zero (drop l.row-index l.rows) ≡ part l.i Zero l.rows;
  ones : l.ones.items ++ part l.i One (drop l.row-index l.rows) ≡ part l.i One l.rows;
}
