use Rattle.cover.specs.Splits.{dashes}
use Rattle.minimum.proofs.prime_table.split_rows.Lists.+add_rows.Given as goal

abbrev pub decreases-add_rows : goal.decreases-add_rows
decreases-add_rows l = dashes l.region.now.symbols
