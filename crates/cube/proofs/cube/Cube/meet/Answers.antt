use Rattle.std.proofs.Common.{refl, ap, sym, ◌∙◌}
use Rattle.std.proofs.lemmas.Bool.{false≢true}
use Rattle.cube.specs.Cube.{holds}
use Rattle.cube.specs.Packing.{input_words, output_words}
use Rattle.cube.proofs.PackingLemmas.{length-symbols, length-outputs, few_words, same_words, SameSize-of_shape}
use Rattle.cube.proofs.MeetLemmas.{meet-from_not_disjoint, IsPacked-common_row, holds-common_row}
use Rattle.cube.proofs.cube.Cube.meet.Goals as goal

pub invariant_of-result : goal.invariant_of-result
invariant_of-result c =
    let both = meet-from_not_disjoint _ _ c.requires _ c.disjoint.ensures c.if-disjoint.false in
    (IsPacked-common_row _ _ c.requires _ _ _ _ _ (length-symbols _ _ _ _ c.self.view_is) (length-outputs _ _ _ _ c.self.view_is)
    c.words.ensures.packs c.words-2.ensures.packs both.0 both.1 c.in_ok-words.ensures.words.len
    c.in_ok-words.ensures.words.each).0

pub returns-clause-places : goal.returns-clause-places
returns-clause-places c p =
    let both = meet-from_not_disjoint _ _ c.requires _ c.disjoint.ensures c.if-disjoint.false in
    ap (λ v. holds v p)
    (IsPacked-common_row _ _ c.requires _ _ _ _ _ (length-symbols _ _ _ _ c.self.view_is) (length-outputs _ _ _ _ c.self.view_is)
    c.words.ensures.packs c.words-2.ensures.packs both.0 both.1 c.in_ok-words.ensures.words.len
    c.in_ok-words.ensures.words.each).1
    ∙ holds-common_row _ _ c.requires both.0 p

pub common_words-requires : goal.common_words-requires
common_words-requires c = same_words _ _ _ _ c.requires c.words.ensures.packs c.words-2.ensures.packs

pub returns-then-disjoint-clause-none : goal.returns-then-disjoint-clause-none
returns-then-disjoint-clause-none c = (λ _. c.disjoint.ensures.0 c.if-disjoint.true, λ _. refl)

pub returns-in_err-words-clause-inline : goal.returns-in_err-words-clause-inline
returns-in_err-words-clause-inline c few = absurd (false≢true (c.in_err-words.ensures.inline (few_words _ _ c.words.ensures.packs few)))

pub returns-clause-none : goal.returns-clause-none
returns-clause-none c = (λ e _ _ _. false≢true (sym e), λ apart. sym (c.disjoint.ensures.1 apart) ∙ c.if-disjoint.false)

pub returns-clause-size : goal.returns-clause-size
returns-clause-size c = SameSize-of_shape _ _ _ c.in_ok-words.words.items _ c.self.view_is

pub returns-clause-inline : goal.returns-clause-inline
returns-clause-inline c _ = refl

pub meet_in_two_words-requires-clause-inputs : goal.meet_in_two_words-requires-clause-inputs
meet_in_two_words-requires-clause-inputs c =
    ap (λ n. input_words n) (length-symbols _ _ _ _ c.self.view_is) ∙ c.is_in_two_words.ensures.inputs c.if-is_in_two_words.true

pub meet_in_two_words-requires-clause-outputs : goal.meet_in_two_words-requires-clause-outputs
meet_in_two_words-requires-clause-outputs c =
    ap (λ m. output_words m) (length-outputs _ _ _ _ c.self.view_is) ∙ c.is_in_two_words.ensures.outputs c.if-is_in_two_words.true
