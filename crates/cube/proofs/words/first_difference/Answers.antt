use Rattle.std.proofs.Common.{arith}
use Rattle.std.proofs.lemmas.List.{ext_get_or}
use Rattle.std.specs.Int.{w64}
use Rattle.std.proofs.lemmas.Nat.{xor_lt}
use Rattle.std.proofs.lemmas.Nat.Bits.{bit_at-trailing_zeros}
use Rattle.cube.proofs.OrderLemmas.{DiffersFirstAt-from_word}
use Rattle.cube.proofs.words.first_difference.Goals as goal

pub overflow_shr-result : goal.overflow_shr-result
overflow_shr-result c =
    (bit_at-trailing_zeros w64 _ (omega arith) (xor_lt 64 _ _ (c.type_inv.a c.loop-w.w).fits (c.type_inv.b c.loop-w.w).fits)).0

pub returns-then-difference-ne0-clause-found : goal.returns-then-difference-ne0-clause-found
returns-then-difference-ne0-clause-found c =
    DiffersFirstAt-from_word c.args.a.now c.args.b.now c.loop-w.w (omega arith) (c.type_inv.a c.loop-w.w).fits (c.type_inv.b c.loop-w.w).fits
    c.loop-w.invariant c.if-difference-ne0.true

pub returns-clause-none : goal.returns-clause-none
returns-clause-none c = ext_get_or 0 c.args.a.now c.args.b.now c.requires (λ v lt. c.loop-w.invariant v (omega arith))
