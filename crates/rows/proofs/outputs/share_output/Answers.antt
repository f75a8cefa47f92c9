use Rattle.std.proofs.Common.{◌≡◌, ◌<◌, ◌^◌, ◌+◌, ◌*◌, ◌-◌, ◌∙◌, inl, inr, arith, refl, ap, false, get_or, bit_and}
use Rattle.std.specs.Int.{bit_at}
use Rattle.std.proofs.lemmas.Bool.{cases_lt}
use Rattle.std.proofs.lemmas.Nat.{and_le_l}
use Rattle.std.proofs.lemmas.Nat.Bits.{bit_at_and, bit_at-zero, bit_at-lt}
use Rattle.cube.specs.Packing.{bit_of}
use Rattle.cube.proofs.PackingLemmas.{true_from_bit}
use Rattle.cube.proofs.WordLemmas.{bit_from_nonzero}
use Rattle.rows.proofs.outputs.share_output.Goals as goal

pub returns-then-output_bits-ne0 : goal.returns-then-output_bits-ne0
returns-then-output_bits-ne0 c =
    let x = c.output_bits.result in
    let y = c.output_bits-in-loop-w.result in
    let fits : bit_and x y < 2 ^ 64 = omega (arith, and_le_l x y, c.output_bits.type_inv) in
    let found = bit_from_nonzero (bit_and x y) fits c.if-output_bits-ne0.true in
    let k = found.0 in
    let j = 64 * c.loop-w.w + k in
    let both = bit_at_and x y k in
    let mine = true_from_bit (get_or c.args.cube.now.outputs j false) (omega (arith, c.output_bits.ensures k found.1, both, found.2, bit_at-lt x k)) in
    let theirs = true_from_bit (get_or c.args.other.now.outputs j false) (omega (arith, c.output_bits-in-loop-w.ensures k found.1, both, found.2, bit_at-lt y k)) in
    (λ _. (j, mine, theirs), λ _. refl)

pub loop-w-preserved : goal.loop-w-preserved
loop-w-preserved c j lt mine theirs = elim (cases_lt j (64 * c.loop-w.w)) [
  | inl before ↦ c.loop-w.invariant j before mine theirs
  | inr past ↦
      let x = c.output_bits.result in
      let y = c.output_bits-in-loop-w.result in
      let k = j - 64 * c.loop-w.w in
      let at : 64 * c.loop-w.w + k ≡ j = omega (arith, past) in
      let small : k < 64 = omega (arith, past, lt) in
      let bit : bit_at x k ≡ 1 = c.output_bits.ensures k small ∙ ap (λ i. bit_of (get_or c.args.cube.now.outputs i false)) at ∙ ap (λ b. bit_of b) mine in
      let other : bit_at y k ≡ 1 = c.output_bits-in-loop-w.ensures k small ∙ ap (λ i. bit_of (get_or c.args.other.now.outputs i false)) at ∙ ap (λ b. bit_of b) theirs in
      omega (arith, bit, other, bit_at_and x y k, ap (λ w. bit_at w k) c.if-output_bits-ne0.false, bit_at-zero k)
]
