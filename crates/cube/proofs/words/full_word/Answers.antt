use Rattle.std.proofs.Common.{arith, ◌%◌}
use Rattle.std.proofs.lemmas.Nat.Bits.{bit_at_ones}
use Rattle.cube.proofs.WordLemmas.{low_ones, above_low_ones}
use Rattle.cube.proofs.words.full_word.Goals as goal

pub returns-then-w-len-clause-within : goal.returns-then-w-len-clause-within
returns-then-w-len-clause-within c k lt within = bit_at_ones 64 k lt

pub returns-then-w-len-2-clause-within : goal.returns-then-w-len-2-clause-within
returns-then-w-len-2-clause-within c k lt within = low_ones (c.args.len % 64) k (omega arith) (omega arith)

pub returns-then-w-len-2-clause-past : goal.returns-then-w-len-2-clause-past
returns-then-w-len-2-clause-past c k lt past = above_low_ones (c.args.len % 64) k (omega arith) (omega arith)
