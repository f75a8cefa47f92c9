use Rattle.std.proofs.Common.{◌≡◌, ◌<◌, ◌≤◌, ◌-◌, ℕ, length, slice_index_or}
use Rattle.cube.specs.declared.symbol.Symbol.TheVariants.{Dash}
use Rattle.minimum.proofs.numbered_cubes.literal_inside.Given as goal

abbrev pub invariant-loop-from : goal.invariant-loop-from
invariant-loop-from l = (l.from ≤ length l.cube.symbols) × ((k : ℕ) → k < l.from → slice_index_or l.region.symbols k Dash ≡ Dash → slice_index_or l.cube.symbols k Dash ≡ Dash)

abbrev pub decreases-loop-from : goal.decreases-loop-from
decreases-loop-from l = length l.cube.symbols - l.from
