use Rattle.cube.proofs.LiteralMarks.{even_bits-even, even_bits-odd}
use Rattle.cube.proofs.words.even_bits.Goals as goal

pub returns-clause-even : goal.returns-clause-even
returns-clause-even c = even_bits-even c.args.word

pub returns-clause-odd : goal.returns-clause-odd
returns-clause-odd c = even_bits-odd c.args.word
