use Rattle.std.proofs.Common.{◌≡◌, ◌%◌, ◌/◌, ◌<◌, Bool, true, false, refl, ◌∙◌, arith}
use Rattle.std.specs.Int.{bit_at}
use mir.Val.{bool_byte}
use Rattle.cube.specs.Packing.{bit_of}
use Rattle.cube.proofs.ShiftLemmas.{shifted_low, shifted_high}
use Rattle.cube.proofs.bytes.with_next.Goals as goal

fits : (b : Bool) → bool_byte b < 2
fits true = omega arith
fits false = omega arith

value : (b : Bool) → bit_at (bool_byte b) 0 ≡ bit_of b
value true = refl
value false = refl

pub returns-clause-first : goal.returns-clause-first
returns-clause-first c = shifted_low c.args.word (c.args.word % 9223372036854775808) 1 _ (bool_byte c.args.bit) 0 (omega arith) (fits c.args.bit) (omega arith) ∙ value c.args.bit

pub returns-clause-others : goal.returns-clause-others
returns-clause-others c k lt =
    shifted_high c.args.word (c.args.word / 9223372036854775808) (c.args.word % 9223372036854775808) 63 1 _ (bool_byte c.args.bit) k (omega arith) (omega arith) (fits c.args.bit) lt
