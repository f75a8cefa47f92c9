use Rattle.std.proofs.lemmas.Bool.{both_ways}
use Rattle.covering.proofs.in_order.Partial.keep_columns_marked.Goals as goal

pub unreachable-requires : goal.unreachable-requires
unreachable-requires c = both_ways _ c.requires (rw c.in-None.is at c.keep_marked.ensures)
