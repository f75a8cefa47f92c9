use Rattle.std.proofs.Common.{◌≡◌, ◌≢◌, length, All}
use Rattle.cube.specs.declared.symbol.Symbol.TheVariants.{Dash}
use Rattle.minimum.proofs.as_needed.literals_in.Given as goal

abbrev pub invariant-loop-i : goal.invariant-loop-i
invariant-loop-i l = record {
  long : length l.symbols.items ≡ l.inputs;
  literals : All (λ s. s ≢ Dash) l.symbols.items;
}
