use Rattle.std.proofs.Common.{◌≡◌, take, filter, get_or}
use Rattle.cube.specs.declared.symbol.Symbol.TheVariants.{Dash}
use Rattle.rows.specs.Marks.{is_symbol}
use Rattle.rows.proofs.symbols.rows_with_symbol.Given as goal

abbrev pub invariant-loop-row : goal.invariant-loop-row
invariant-loop-row l = l.kept.items ≡ filter (λ d. is_symbol l.symbol (get_or d.now.symbols l.i Dash)) (take l.row-index l.rows)
