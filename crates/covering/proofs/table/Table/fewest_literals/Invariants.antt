use Rattle.std.proofs.Common.{◌≤◌, ◌-◌, length}
use Rattle.covering.specs.declared.choice.Choice.TheVariants.{Literals}
use Rattle.covering.specs.Cover.{IsCover, counted, sum_over}
use Rattle.covering.specs.Search.{IsFewest}
use Rattle.covering.proofs.table.Table.fewest_literals.Given as goal

abbrev pub invariant-loop-low : goal.invariant-loop-low
invariant-loop-low l = record { cover : IsCover l.self l.cover.items; fits : length l.cover.items ≤ l.columns; few : IsFewest l.self l.columns l.low }

abbrev pub decreases-loop-low : goal.decreases-loop-low
decreases-loop-low l = sum_over (counted Literals l.self.weights) l.cover.items - l.low
