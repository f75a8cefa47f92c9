use Rattle.cover.specs.Splits.{dashes}
use Rattle.minimum.proofs.prime_table.split_rows.Lists.+add_rows_by_halves.Given as goal

abbrev pub decreases-add_rows_by_halves : goal.decreases-add_rows_by_halves
decreases-add_rows_by_halves l = dashes l.region.now.symbols
