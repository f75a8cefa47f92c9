use Rattle.std.proofs.Common.{◌≡◌, ℕ, ◌∙◌, ◌<◌, ◌*◌, ◌+◌, ◌/◌, ◌^◌, length, get_or, refl, sym, arith, bit_and}
use Rattle.std.proofs.lemmas.Bool.{false≢true}
use Rattle.std.proofs.lemmas.Nat.{and_le_l}
use Rattle.cube.proofs.WordLemmas.{bit_from_nonzero}
use Rattle.cube.proofs.LaneLemmas.{block-iff, block_more, one_of_four, share-rest-iff}
use Rattle.cube.proofs.lanes.bits_of_many_are_shared.Goals as goal

abbrev Holds : ℕ → ℕ → Type 0
Holds a b = bit_and a b ≡ 0

pub returns-then-not-share_none_of_four : goal.returns-then-not-share_none_of_four
returns-then-not-share_none_of_four c =
    let a = c.args.a.now in
    let b = c.args.b.now in
    let lt : c.loop-k.k < length a / 4 = omega (arith, c.as_chunks.ensures.front_len) in
    let says = block-iff Holds a b c.requires bit_and _ _ c.loop-k.k _ c.as_chunks.ensures.front c.as_chunks-2.ensures.front lt
    (λ i. (λ e. e, λ e. e)) c.share_none_of_four.ensures in
    let found = one_of_four (λ j. bit_and (get_or a (c.loop-k.k * 4 + j) 0) (get_or b (c.loop-k.k * 4 + j) 0))
    (λ all. false≢true (sym c.if-not-share_none_of_four.true ∙ says.1 all)) in
    let at = c.loop-k.k * 4 + found.0 in
    let fits : bit_and (get_or a at 0) (get_or b at 0) < 2 ^ 64 = omega (arith, and_le_l (get_or a at 0) (get_or b at 0), (c.type_inv.a at).fits) in
    (λ _. (at, omega (arith, lt, found.1), bit_from_nonzero _ fits found.2), λ _. refl)

pub loop-k-preserved : goal.loop-k-preserved
loop-k-preserved c =
    let lt : c.loop-k.k < length c.args.a.now / 4 = omega (arith, c.as_chunks.ensures.front_len) in
    let says = block-iff Holds c.args.a.now c.args.b.now c.requires bit_and _ _ c.loop-k.k _ c.as_chunks.ensures.front c.as_chunks-2.ensures.front lt
    (λ i. (λ e. e, λ e. e)) c.share_none_of_four.ensures in
    block_more Holds c.args.a.now c.args.b.now c.requires c.loop-k.k c.loop-k.invariant (says.0 c.if-not-share_none_of_four.false)

pub returns : goal.returns
returns c =
    share-rest-iff c.args.a.now c.args.b.now _ _ (length c.args.a.now / 4) _ c.as_chunks.ensures.back (rw c.requires c.as_chunks-2.ensures.back)
    (λ j lt. c.loop-k.invariant j (omega (arith, c.as_chunks.ensures.front_len))) c.share_bit_word_by_word.ensures
