use Rattle.std.proofs.Common.{◌≡◌, ◌<◌, ◌≤◌, rules, length, refl, ap, sym, ◌∙◌, arith}
use Rattle.std.proofs.lemmas.Bool.{false≢true}
use Rattle.cube.specs.Cube.{holds}
use Rattle.cube.specs.Packing.{input_words, IsPacked, unpacked}
use Rattle.cube.proofs.PackingLemmas.{length-symbols, length-outputs, length-words, few_words, same_words, SameSize-of_shape}
use Rattle.cube.proofs.MeetLemmas.{InputsMeet, InputsMeet-from_words}
use Rattle.cube.proofs.StackLemmas.{stacked_row, holds-stacked_row, IsPacked-stacked_row, no_common_point}
use Rattle.cube.proofs.cube.Cube.output_consensus.Goals as goal

meets : (c : goal.After-result-1) → InputsMeet c.args.self.now c.args.other.now c.requires
meets c =
    InputsMeet-from_words _ _ c.requires _ _ c.input_part.ensures.packs c.input_part-2.ensures.packs (c.pairs_meet_by_lanes.ensures.0 c.if-not-pairs_meet_by_lanes.false)

packed : (c : goal.After-result-1)
    → IsPacked c.self.inside.shape.inputs c.self.inside.shape.outputs c.in_ok-words.words.items
    × (unpacked c.self.inside.shape.inputs c.self.inside.shape.outputs c.in_ok-words.words.items ≡ stacked_row c.args.self.now c.args.other.now)
packed c =
    let start : c.input_words-start.result ≡ input_words (length c.args.self.now.symbols) =
    c.input_words-start.ensures.value ∙ ap (λ n. input_words n) (sym (length-symbols _ _ _ _ c.self.view_is)) in
    let total = length-words _ _ c.words.ensures.packs in
    IsPacked-stacked_row _ _ c.requires _ _ _ _ _ (length-symbols _ _ _ _ c.self.view_is) (length-outputs _ _ _ _ c.self.view_is)
    c.words.ensures.packs c.words-2.ensures.packs (meets c) c.words.ensures.some_output c.in_ok-words.ensures.len
    (λ k lt.
    let within : k < length c.words.result.now = omega arith in
    let below : k < c.input_words-start.result = omega arith in
    let h = c.in_ok-words.ensures.words k within in
    search (rules, h))
    (λ k le lt.
    let above : c.input_words-start.result ≤ k = omega arith in
    let h = c.in_ok-words.ensures.words k lt in
    search (rules, h))

pub invariant_of-result : goal.invariant_of-result
invariant_of-result c = (packed c).0

pub returns-clause-places : goal.returns-clause-places
returns-clause-places c p = ap (λ v. holds v p) (packed c).1 ∙ holds-stacked_row _ _ c.requires (meets c) p

pub returns-then-not-pairs_meet_by_lanes-clause-none : goal.returns-then-not-pairs_meet_by_lanes-clause-none
returns-then-not-pairs_meet_by_lanes-clause-none c point in_a in_b =
    no_common_point _ _ c.requires _ _ c.input_part.ensures.packs c.input_part-2.ensures.packs
    (λ meet. false≢true (sym c.if-not-pairs_meet_by_lanes.true ∙ c.pairs_meet_by_lanes.ensures.1 meet)) point in_a in_b

pub zip_words-requires-clause-same_len : goal.zip_words-requires-clause-same_len
zip_words-requires-clause-same_len c = same_words _ _ _ _ c.requires c.words.ensures.packs c.words-2.ensures.packs

pub returns-in_err-words-clause-inline : goal.returns-in_err-words-clause-inline
returns-in_err-words-clause-inline c few = absurd (false≢true (c.in_err-words.ensures.inline (few_words _ _ c.words.ensures.packs few)))

pub returns-clause-size : goal.returns-clause-size
returns-clause-size c = SameSize-of_shape _ _ _ c.in_ok-words.words.items _ c.self.view_is

pub returns-clause-inline : goal.returns-clause-inline
returns-clause-inline c _ = refl
