use Rattle.std.proofs.Common.{◌*◌, arith}
use Rattle.cube.proofs.LiteralMarks.{from_on_bits, before_bits}
use Rattle.cube.proofs.words.from_pair.Goals as goal

pub returns-clause-from_on : goal.returns-clause-from_on
returns-clause-from_on c = from_on_bits c.args.word (2 * c.args.pair) (omega arith)

pub returns-clause-before : goal.returns-clause-before
returns-clause-before c = before_bits c.args.word (2 * c.args.pair) (omega arith)
