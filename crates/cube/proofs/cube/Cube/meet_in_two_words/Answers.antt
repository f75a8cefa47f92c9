use Rattle.std.proofs.Common.{◌≡◌, refl, ap, sym, ◌∙◌, arith}
use Rattle.std.proofs.lemmas.Bool.{false≢true}
use Rattle.std.proofs.lemmas.Nat.{and_le_l}
use Rattle.cube.specs.Cube.{IsDisjoint, holds}
use Rattle.cube.specs.Packing.{IsPacked, unpacked}
use Rattle.cube.proofs.PackingLemmas.{length-symbols, length-outputs}
use Rattle.cube.proofs.MeetLemmas.{InputsMeet, SharesOutput, common_row, common_place, holds-common_row, IsDisjoint-from_first, IsDisjoint-from_second, meet-from_two_words, IsPacked-two_words}
use Rattle.cube.proofs.cube.Cube.meet_in_two_words.Goals as goal
use Rattle.cube.proofs.cube.Cube.meet_in_two_words.Goals.{then-not-has_no_empty_pair-via-then-not-has_no_empty_pair, then-not-has_no_empty_pair-via-else-not-has_no_empty_pair+then-outputs-eq0}

pub returns-then-not-has_no_empty_pair-clause-none : goal.returns-then-not-has_no_empty_pair-clause-none
returns-then-not-has_no_empty_pair-clause-none c =
    let apart : IsDisjoint (holds c.args.self.now) (holds c.args.other.now) = elim c.then-not-has_no_empty_pair.branch [
      | then-not-has_no_empty_pair-via-then-not-has_no_empty_pair w ↦
          IsDisjoint-from_first _ _ c.requires.size _ _ c.words-mine.ensures.packs c.words-theirs.ensures.packs c.requires.inputs c.requires.outputs
          _ c.has_no_empty_pair.ensures w.if-not-has_no_empty_pair.true
      | then-not-has_no_empty_pair-via-else-not-has_no_empty_pair+then-outputs-eq0 w ↦
          IsDisjoint-from_second _ _ c.requires.size _ _ c.words-mine.ensures.packs c.words-theirs.ensures.packs c.requires.inputs c.requires.outputs
          w.if-outputs-eq0.true
    ] in
    (λ _. apart, λ _. refl)

meets : (c : goal.After-result-1) → InputsMeet c.args.self.now c.args.other.now c.requires.size × SharesOutput c.args.self.now c.args.other.now c.requires.size
meets c =
    meet-from_two_words _ _ c.requires.size _ _ c.words-mine.ensures.packs c.words-theirs.ensures.packs c.requires.inputs c.requires.outputs
    (c.has_no_empty_pair.ensures.0 c.if-not-has_no_empty_pair.false) (grind (arith, and_le_l)) c.if-outputs-eq0.false

packed : (c : goal.After-result-1)
    → IsPacked c.self.inside.shape.inputs c.self.inside.shape.outputs c.push_reserved-2.new.self.items
    × (unpacked c.self.inside.shape.inputs c.self.inside.shape.outputs c.push_reserved-2.new.self.items ≡ common_row c.args.self.now c.args.other.now)
packed c =
    IsPacked-two_words _ _ c.requires.size _ _ c.words-mine.ensures.packs c.words-theirs.ensures.packs c.requires.inputs c.requires.outputs
    _ _ _ (length-symbols _ _ _ _ c.self.view_is) (length-outputs _ _ _ _ c.self.view_is) (meets c).0 (meets c).1
    (rw (c.push_reserved-2.ensures.items, c.push_reserved.ensures.items, c.new-words.ensures.items) refl)

pub invariant_of-result : goal.invariant_of-result
invariant_of-result c = (packed c).0

pub returns-clause-places : goal.returns-clause-places
returns-clause-places c p = ap (λ v. holds v p) (packed c).1 ∙ holds-common_row _ _ c.requires.size (meets c).0 p

pub returns-clause-none : goal.returns-clause-none
returns-clause-none c = (
  λ e _ _ _. false≢true (sym e),
  λ apart. let place = common_place _ _ c.requires.size (meets c).0 (meets c).1 in absurd (apart place.0 place.1 place.2),
)

pub returns-clause-size : goal.returns-clause-size
returns-clause-size c =
    let n = c.self.inside.shape.inputs in
    let m = c.self.inside.shape.outputs in
    let words = c.push_reserved-2.new.self.items in
    (length-symbols n m words _ refl ∙ sym (length-symbols _ _ _ _ c.self.view_is), length-outputs n m words _ refl ∙ sym (length-outputs _ _ _ _ c.self.view_is))
