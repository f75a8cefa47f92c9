use Rattle.std.proofs.Common.{◌≡◌, ◌≢◌, ◌<◌, ◌/◌, ◌%◌, ◌^◌, ℕ, Bool, true, false, cond, bit_and, get_or, length, ◌∙◌, arith}
use Rattle.cube.specs.Packing.{bit_of}
use Rattle.cube.proofs.BytesLemmas.{put_more, output_read}
use Rattle.cube.proofs.cube.Cube.put_outputs.Goals as goal
use Rattle.cube.proofs.cube.Cube.put_outputs.Goals.{then-bit-eq1, else-bit-eq1}

set : (b : Bool) (bit present absent : ℕ) → bit ≡ bit_of b → bit ≡ 1 → present ≡ cond b present absent
set true bit present absent is one = cc
set false bit present absent is one = absurd (omega arith)

clear : (b : Bool) (bit present absent : ℕ) → bit ≡ bit_of b → bit ≢ 1 → absent ≡ cond b present absent
clear true bit present absent is other = absurd (other is)
clear false bit present absent is other = cc

pub loop-j-preserved : goal.loop-j-preserved
loop-j-preserved c =
    let outputs = c.args.self.now.outputs in
    let words = c.output_part-words.result.now in
    let j = c.loop-j.j in
    let within : j < length outputs = omega arith in
    let bit = bit_and (get_or words (j / 64) 0 / 2 ^ (j % 64)) 1 in
    let read : bit ≡ bit_of (get_or outputs j false) = output_read outputs words j c.output_part-words.ensures.packs within in
    let byte : c.if-bit-eq1.row ≡ cond (get_or outputs j false) c.args.present c.args.absent =
    elim c.if-bit-eq1.branch [
      | then-bit-eq1 w ↦ w.row-is ∙ set (get_or outputs j false) bit c.args.present c.args.absent read w.if-bit-eq1.true
      | else-bit-eq1 w ↦ w.row-is ∙ clear (get_or outputs j false) bit c.args.present c.args.absent read w.if-bit-eq1.false
    ] in
    put_more (λ b. cond b c.args.present c.args.absent) outputs j false c.args.row.now c.loop-j.row c.if-bit-eq1.row within c.requires byte c.loop-j.invariant
