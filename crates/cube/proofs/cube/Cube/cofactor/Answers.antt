use Rattle.std.proofs.Common.{◌≡◌, length, refl, ap, sym, ◌∙◌, arith}
use Rattle.std.proofs.lemmas.Bool.{false≢true}
use Rattle.cube.specs.Cofactor.{cofactor}
use Rattle.cube.specs.Packing.{input_words, IsPacked, unpacked}
use Rattle.cube.proofs.PackingLemmas.{length-symbols, length-outputs, length-words, few_words, same_words, SameSize-of_shape}
use Rattle.cube.proofs.CofactorLemmas.{IsPacked-cofactor}
use Rattle.cube.proofs.cube.Cube.cofactor.Goals as goal

packed : (c : goal.After-result-1)
    → IsPacked c.self.inside.shape.inputs c.self.inside.shape.outputs c.in_ok-words.words.items
    × (unpacked c.self.inside.shape.inputs c.self.inside.shape.outputs c.in_ok-words.words.items ≡ cofactor c.args.self.now c.args.other.now)
packed c =
    let start : c.input_words-start.result ≡ input_words (length c.args.self.now.symbols) =
    c.input_words-start.ensures.value ∙ ap (λ n. input_words n) (sym (length-symbols _ _ _ _ c.self.view_is)) in
    let outputs : c.outputs-outputs.result ≡ c.self.inside.shape.outputs =
    c.outputs-outputs.ensures.value ∙ sym c.shape.ensures.size.1 ∙ length-outputs _ _ _ _ c.self.view_is in
    let total = length-words _ _ c.words.ensures.packs in
    IsPacked-cofactor _ _ c.requires _ _ _ _ _ (length-symbols _ _ _ _ c.self.view_is) (length-outputs _ _ _ _ c.self.view_is)
    c.words.ensures.packs c.words-2.ensures.packs c.words.ensures.some_output c.in_ok-words.ensures.len
    (λ v k in_front lt. (c.in_ok-words.ensures.words v (omega arith)).0 (omega arith) k lt)
    (λ v k in_front lt. (c.in_ok-words.ensures.words v (omega arith)).1.0 (omega arith) k lt)
    (λ v k in_back within lt less. (c.in_ok-words.ensures.words v within).1.1.0 (omega arith) k lt (omega arith))
    (λ v k in_back within lt more. (c.in_ok-words.ensures.words v within).1.1.1 (omega arith) k lt (omega arith))

pub invariant_of-result : goal.invariant_of-result
invariant_of-result c = (packed c).0

pub returns-clause-value : goal.returns-clause-value
returns-clause-value c = (packed c).1

pub zip_words-requires-clause-same_len : goal.zip_words-requires-clause-same_len
zip_words-requires-clause-same_len c = same_words _ _ _ _ c.requires c.words.ensures.packs c.words-2.ensures.packs

pub returns-then-disjoint-clause-none : goal.returns-then-disjoint-clause-none
returns-then-disjoint-clause-none c = (λ _. c.disjoint.ensures.0 c.if-disjoint.true, λ _. refl)

pub returns-in_err-words-clause-inline : goal.returns-in_err-words-clause-inline
returns-in_err-words-clause-inline c few = absurd (false≢true (c.in_err-words.ensures.inline (few_words _ _ c.words.ensures.packs few)))

pub returns-clause-none : goal.returns-clause-none
returns-clause-none c = (λ e _ _ _. false≢true (sym e), λ apart. sym (c.disjoint.ensures.1 apart) ∙ c.if-disjoint.false)

pub returns-clause-size : goal.returns-clause-size
returns-clause-size c = SameSize-of_shape _ _ _ c.in_ok-words.words.items _ c.self.view_is

pub returns-clause-inline : goal.returns-clause-inline
returns-clause-inline c _ = refl
