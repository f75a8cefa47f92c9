use Rattle.std.proofs.Common.{◌%◌, ◌/◌, arith}
use Rattle.cube.proofs.ShiftLemmas.{shifted_low, shifted_high}
use Rattle.cube.proofs.bytes.with_pair.Goals as goal

pub returns-clause-low : goal.returns-clause-low
returns-clause-low c = shifted_low c.args.word (c.args.word % 4611686018427387904) 2 _ c.args.pair 0 (omega arith) c.requires (omega arith)

pub returns-clause-high : goal.returns-clause-high
returns-clause-high c = shifted_low c.args.word (c.args.word % 4611686018427387904) 2 _ c.args.pair 1 (omega arith) c.requires (omega arith)

pub returns-clause-others : goal.returns-clause-others
returns-clause-others c k lt =
    shifted_high c.args.word (c.args.word / 4611686018427387904) (c.args.word % 4611686018427387904) 62 2 _ c.args.pair k (omega arith) (omega arith) c.requires lt
