use Rattle.growth.proofs.FewestLiterals.{up_to_if_less, up_to_if_equal}
use Rattle.growth.proofs.columns.fewest_literals.comes_no_earlier.Goals as goal

pub returns-in-Less : goal.returns-in-Less
returns-in-Less c _ = up_to_if_less c.args.wide.now c.args.best.now c.row_cmp.result c.row_cmp.ensures c.in-Less.is

pub returns-in-Equal : goal.returns-in-Equal
returns-in-Equal c _ = up_to_if_equal c.args.wide.now c.args.best.now c.row_cmp.result c.row_cmp.ensures c.in-Equal.is
