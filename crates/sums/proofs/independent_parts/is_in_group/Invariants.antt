use Rattle.std.proofs.Common.{◌≡◌, ℕ, ◌-◌, ◌<◌, ◌≤◌, ◌⊎◌, false, length, get_or}
use Rattle.cube.specs.declared.symbol.Symbol.TheVariants.{Dash}
use Rattle.sums.proofs.independent_parts.is_in_group.Given as goal

abbrev pub invariant-loop-i : goal.invariant-loop-i
invariant-loop-i l =
    (l.from ≤ length l.row.symbols)
    × ((k : ℕ) → k < l.from → (get_or l.row.symbols k Dash ≡ Dash) ⊎ (get_or l.groups k false ≡ l.group))

abbrev pub decreases-loop-i : goal.decreases-loop-i
decreases-loop-i l = length l.row.symbols - l.from
