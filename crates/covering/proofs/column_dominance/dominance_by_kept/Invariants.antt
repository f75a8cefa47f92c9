use Rattle.std.proofs.Common.{◌≡◌, ℕ, true}
use Rattle.covering.specs.Table.{has, items_of}
use Rattle.covering.specs.Cover.{counted}
use Rattle.covering.specs.Search.{marked}
use Rattle.covering.specs.Reduce.{AreDominatedByKept, is_preferred}
use Rattle.covering.proofs.column_dominance.dominance_by_kept.Given as goal

abbrev pub invariant-loop-column : goal.invariant-loop-column
invariant-loop-column l = AreDominatedByKept (is_preferred l.preference (counted l.choice l.literals)) l.live (items_of l.transpose) l.keep.items
    × ((b : ℕ) → marked l.keep.items b ≡ true → has b l.live ≡ true)
