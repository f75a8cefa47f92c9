use Rattle.std.proofs.Common.{◌≡◌, length, refl, ap, sym, ◌∙◌, arith}
use Rattle.std.proofs.lemmas.Bool.{false≢true}
use Rattle.cube.specs.Sharp.{rest_row}
use Rattle.cube.specs.Packing.{input_words, IsPacked, unpacked}
use Rattle.cube.proofs.PackingLemmas.{length-symbols, length-outputs, length-words, few_words, same_words}
use Rattle.cube.proofs.RestLemmas.{IsPacked-rest_row}
use Rattle.cube.proofs.cube.Cube.without_outputs.Goals as goal

packed : (c : goal.After-result-1)
    → IsPacked c.self.inside.shape.inputs c.self.inside.shape.outputs c.in_ok-words.words.items
    × (unpacked c.self.inside.shape.inputs c.self.inside.shape.outputs c.in_ok-words.words.items ≡ rest_row c.args.self.now c.args.other.now)
packed c =
    let inputs_end : c.input_words-inputs_end.result ≡ input_words (length c.args.self.now.symbols) =
    c.input_words-inputs_end.ensures.value ∙ ap (λ n. input_words n) (sym (length-symbols _ _ _ _ c.self.view_is)) in
    IsPacked-rest_row _ _ _ _ _ _ _ c.requires.size (length-symbols _ _ _ _ c.self.view_is) (length-outputs _ _ _ _ c.self.view_is)
    c.words.ensures.packs c.words-2.ensures.packs c.requires.some c.in_ok-words.ensures.len
    (λ k lt. (c.in_ok-words.ensures.words k (omega (arith, length-words _ _ c.words.ensures.packs))).0 (omega arith))
    (λ k le lt. (c.in_ok-words.ensures.words k lt).1 (omega arith))

pub invariant_of-result : goal.invariant_of-result
invariant_of-result c = (packed c).0

pub returns-clause-value : goal.returns-clause-value
returns-clause-value c = (packed c).1

pub returns-in_err-words-clause-inline : goal.returns-in_err-words-clause-inline
returns-in_err-words-clause-inline c few = absurd (false≢true (c.in_err-words.ensures.inline (few_words _ _ c.words.ensures.packs few)))

pub returns-clause-inline : goal.returns-clause-inline
returns-clause-inline c _ = refl

pub zip_words-requires-clause-same_len : goal.zip_words-requires-clause-same_len
zip_words-requires-clause-same_len c = same_words _ _ _ _ c.requires.size c.words.ensures.packs c.words-2.ensures.packs
