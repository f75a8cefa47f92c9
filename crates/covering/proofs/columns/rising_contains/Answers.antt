use Rattle.std.proofs.Common.{◌∙◌}
use Rattle.covering.proofs.Dominance.{found_has}
use Rattle.covering.proofs.columns.rising_contains.Goals as goal

pub returns : goal.returns
returns c = c.is_ok.ensures.value ∙ found_has c.args.row.now c.args.number c.binary_search.result c.requires c.binary_search.ensures.position
