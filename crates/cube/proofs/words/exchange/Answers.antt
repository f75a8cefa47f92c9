use Rattle.std.proofs.lemmas.Nat.{pow_pos}
use Rattle.cube.proofs.LiteralMarks.{exchange-bits}
use Rattle.cube.proofs.words.exchange.Goals as goal

pub returns : goal.returns
returns c = λ k lt. exchange-bits c.args.word c.args.width c.args.mask c.requires.mask (pow_pos c.args.width) k lt
