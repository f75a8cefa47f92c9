use Rattle.std.proofs.Common.{◌≡◌, ℕ, ◌-◌, ◌≤◌, ◌<◌, length, get_or}
use Rattle.cube.specs.declared.symbol.Symbol.TheVariants.{Dash}
use Rattle.regions.proofs.region.first_open_input.Given as goal

abbrev pub invariant-loop-at : goal.invariant-loop-at
invariant-loop-at l = record {
  within : l.at ≤ length l.row.symbols;
  none : (k : ℕ) → k < l.at → get_or l.region.symbols k Dash ≡ Dash → get_or l.row.symbols k Dash ≡ Dash;
}

abbrev pub decreases-loop-at : goal.decreases-loop-at
decreases-loop-at l = length l.row.symbols - l.at
