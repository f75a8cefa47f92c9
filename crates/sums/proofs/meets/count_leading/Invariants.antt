use Rattle.std.proofs.Common.{◌≡◌, All, get_or, take}
use Rattle.cube.specs.declared.symbol.Symbol.TheVariants.{Dash}
use Rattle.sums.proofs.meets.count_leading.Given as goal

abbrev pub invariant-loop-at : goal.invariant-loop-at
invariant-loop-at l = All (λ c. get_or c.symbols l.i Dash ≡ l.symbol) (take l.at l.rows)
