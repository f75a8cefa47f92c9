use Rattle.std.proofs.Common.{◌+◌, ◌*◌}
use Rattle.rows.specs.Splits.{dashes}
use Rattle.cover.proofs.outside_within_budget.+outside_rows.Given as goal

abbrev pub decreases-outside_rows : goal.decreases-outside_rows
decreases-outside_rows l = 2 * dashes l.region.now.symbols + 1

abbrev pub decreases-outside_halves : goal.decreases-outside_halves
decreases-outside_halves l = 2 * dashes l.region.now.symbols
