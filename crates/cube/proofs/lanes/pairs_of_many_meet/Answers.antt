use Rattle.std.proofs.Common.{ℕ, ◌∙◌, ◌<◌, ◌*◌, ◌+◌, ◌/◌, length, sym, arith, bit_and}
use Rattle.std.proofs.lemmas.Bool.{false≢true}
use Rattle.cube.specs.Words.{HasNoEmptyPair}
use Rattle.cube.proofs.LaneLemmas.{empty_pairs, pairs-iff, block-iff, block_more, rest-iff}
use Rattle.cube.proofs.lanes.pairs_of_many_meet.Goals as goal

abbrev Holds : ℕ → ℕ → Type 0
Holds a b = HasNoEmptyPair (bit_and a b)

pub returns-then-not-pairs_meet_four : goal.returns-then-not-pairs_meet_four
returns-then-not-pairs_meet_four c =
    let lt : c.loop-k.k < length c.args.a.now / 4 = omega (arith, c.as_chunks.ensures.front_len) in
    let says = block-iff Holds c.args.a.now c.args.b.now c.requires empty_pairs _ _ c.loop-k.k _ c.as_chunks.ensures.front c.as_chunks-2.ensures.front lt
    (λ i. pairs-iff _ _ (c.type_inv.a i).fits (c.type_inv.b i).fits) c.pairs_meet_four.ensures in (
      λ t. absurd (false≢true t),
      λ h. absurd (false≢true (sym c.if-not-pairs_meet_four.true ∙ says.1 (λ j small. h (c.loop-k.k * 4 + j) (omega arith)))),
    )

pub loop-k-preserved : goal.loop-k-preserved
loop-k-preserved c =
    let lt : c.loop-k.k < length c.args.a.now / 4 = omega (arith, c.as_chunks.ensures.front_len) in
    let says = block-iff Holds c.args.a.now c.args.b.now c.requires empty_pairs _ _ c.loop-k.k _ c.as_chunks.ensures.front c.as_chunks-2.ensures.front lt
    (λ i. pairs-iff _ _ (c.type_inv.a i).fits (c.type_inv.b i).fits) c.pairs_meet_four.ensures in
    block_more Holds c.args.a.now c.args.b.now c.requires c.loop-k.k c.loop-k.invariant (says.0 c.if-not-pairs_meet_four.false)

pub returns : goal.returns
returns c =
    let q = length c.args.a.now / 4 in
    rest-iff Holds c.args.a.now c.args.b.now c.requires _ _ q _ c.as_chunks.ensures.back (rw c.requires c.as_chunks-2.ensures.back)
    (λ j lt. c.loop-k.invariant j (omega (arith, c.as_chunks.ensures.front_len)))
    (λ t v lt. c.pairs_meet_word_by_word.ensures.0 t v (omega arith) lt, λ h. c.pairs_meet_word_by_word.ensures.1 (λ v _ lt. h v lt))
