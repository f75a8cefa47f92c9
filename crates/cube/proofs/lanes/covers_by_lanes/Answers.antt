use Rattle.std.proofs.Common.{ℕ, ◌∙◌, ◌<◌, ◌*◌, ◌+◌, ◌/◌, length, sym, arith, rules}
use Rattle.std.proofs.lemmas.Bool.{false≢true}
use Rattle.cube.specs.Words.{IsBitSubset}
use Rattle.cube.proofs.WordLemmas.{covers_from_bits}
use Rattle.cube.proofs.LaneLemmas.{beyond, subset-iff, block-iff, block_more, rest-iff}
use Rattle.cube.proofs.lanes.covers_by_lanes.Goals as goal

abbrev Holds : ℕ → ℕ → Type 0
Holds a b = IsBitSubset b a

pub returns-then-b-a-ne0 : goal.returns-then-b-a-ne0
returns-then-b-a-ne0 c =
    let some : 0 < length c.args.a.now = search rules in (
      λ t. absurd (false≢true t),
      λ h. absurd (c.if-b-a-ne0.true (covers_from_bits _ _ (c.type_inv.a 0).fits (c.type_inv.b 0).fits (h 0 some))),
    )

pub returns-then-not-covers_four : goal.returns-then-not-covers_four
returns-then-not-covers_four c =
    let lt : c.loop-k.k < length c.args.a.now / 4 = omega (arith, c.as_chunks.ensures.front_len) in
    let says = block-iff Holds c.args.a.now c.args.b.now c.requires beyond _ _ c.loop-k.k _ c.as_chunks.ensures.front c.as_chunks-2.ensures.front lt
    (λ i. subset-iff _ _ (c.type_inv.a i).fits (c.type_inv.b i).fits) c.covers_four.ensures in (
      λ t. absurd (false≢true t),
      λ h. absurd (false≢true (sym c.if-not-covers_four.true ∙ says.1 (λ j small. h (c.loop-k.k * 4 + j) (omega arith)))),
    )

pub loop-k-preserved : goal.loop-k-preserved
loop-k-preserved c =
    let lt : c.loop-k.k < length c.args.a.now / 4 = omega (arith, c.as_chunks.ensures.front_len) in
    let says = block-iff Holds c.args.a.now c.args.b.now c.requires beyond _ _ c.loop-k.k _ c.as_chunks.ensures.front c.as_chunks-2.ensures.front lt
    (λ i. subset-iff _ _ (c.type_inv.a i).fits (c.type_inv.b i).fits) c.covers_four.ensures in
    block_more Holds c.args.a.now c.args.b.now c.requires c.loop-k.k c.loop-k.invariant (says.0 c.if-not-covers_four.false)

pub returns : goal.returns
returns c =
    let q = length c.args.a.now / 4 in
    rest-iff Holds c.args.a.now c.args.b.now c.requires _ _ q _ c.as_chunks.ensures.back (rw c.requires c.as_chunks-2.ensures.back)
    (λ j lt. c.loop-k.invariant j (omega (arith, c.as_chunks.ensures.front_len)))
    c.covers_word_by_word-2.ensures
