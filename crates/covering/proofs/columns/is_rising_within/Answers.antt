use Rattle.std.proofs.Common.{arith}
use Rattle.covering.proofs.Dominance.{longer_not_within}
use Rattle.covering.proofs.columns.is_rising_within.Goals as goal

pub returns-then-other-row : goal.returns-then-other-row
returns-then-other-row c = longer_not_within c.args.other.now c.args.row.now c.requires.row c.requires.other (omega (arith, c.if-other-row.true))
