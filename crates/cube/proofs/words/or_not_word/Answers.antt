use Rattle.std.proofs.Common.{◌∙◌, ap, max, ◌-◌, arith}
use Rattle.std.specs.Int.{bit_at}
use Rattle.cube.proofs.WordLemmas.{widened_bits}
use Rattle.cube.proofs.words.or_not_word.Goals as goal

pub returns-clause-within : goal.returns-clause-within
returns-clause-within c k lt within =
    widened_bits c.args.a c.args.b c.full_word.result c.ranges.b.fits k lt
    ∙ ap (λ z. max (bit_at c.args.a k) (z - bit_at c.args.b k)) (c.full_word.ensures.within k lt within)

pub returns-clause-past : goal.returns-clause-past
returns-clause-past c k lt past =
    widened_bits c.args.a c.args.b c.full_word.result c.ranges.b.fits k lt
    ∙ ap (λ z. max (bit_at c.args.a k) (z - bit_at c.args.b k)) (c.full_word.ensures.past k lt past) ∙ omega arith
