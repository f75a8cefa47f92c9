use Rattle.std.proofs.Common.{◌∙◌, arith}
use Rattle.cube.proofs.LiteralMarks.{empty_pairs-even}
use Rattle.cube.proofs.words.empty_pairs.Goals as goal

pub returns-clause-even : goal.returns-clause-even
returns-clause-even c = λ k lt. c.even_bits.ensures.even k lt ∙ empty_pairs-even c.args.word k (omega arith) lt
