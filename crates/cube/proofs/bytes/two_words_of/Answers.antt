use Rattle.std.proofs.Common.{◌≡◌, ℕ, ◌+◌, Bool, List, [], ◌∷◌, ◌++◌, length, map, get_or, refl, subst, ap, sym, ◌∙◌, arith}
use Rattle.std.proofs.lemmas.List.{length-map}
use Rattle.cube.specs.declared.symbol.Symbol.{Symbol}
use Rattle.cube.specs.Bytes.{byte_symbol, has_mark}
use Rattle.cube.specs.Packing.{Packs, IsInputWord, IsOutputWord, input_words, output_words}
use Rattle.cube.proofs.PackingLemmas.{Packs-from_words}
use Rattle.cube.proofs.bytes.two_words_of.Goals as goal

two_packed : (symbols : List Symbol) (outputs : List Bool) (words : List ℕ) (a b : ℕ) → input_words (length symbols) ≡ 1 → output_words (length outputs) ≡ 1 → words ≡ a ∷ b ∷ []
    → IsInputWord symbols 0 a → IsOutputWord outputs 0 b → Packs (record { symbols = symbols; outputs = outputs }) words
two_packed symbols outputs words a b inputs_end outputs_end is first second =
    Packs-from_words (record { symbols = symbols; outputs = outputs }) (length symbols) (length outputs) words 1 1 1 refl refl (sym inputs_end) (sym outputs_end) refl (ap length is ∙ omega arith)
    (λ v lt. let at : 0 ≡ v = omega arith in subst (λ x. IsInputWord symbols x (get_or words x 0)) at (subst (IsInputWord symbols 0) (sym (ap (λ l. get_or l 0 0) is)) first))
    (λ v lt. let at : 0 ≡ v = omega arith in subst (λ x. IsOutputWord outputs x (get_or words (1 + x) 0)) at (subst (IsOutputWord outputs 0) (sym (ap (λ l. get_or l 1 0) is)) second))

pub returns-clause-words : goal.returns-clause-words
returns-clause-words c =
    let mark = has_mark c.args.marks.now c.args.mask in
    two_packed (map byte_symbol c.args.inputs.now) (map mark c.args.outputs.now) c.push_reserved-2.new.self.items c.input_word_of.result c.output_word_of.result
    (ap input_words (length-map c.args.inputs.now byte_symbol) ∙ c.requires.inputs) (ap output_words (length-map c.args.outputs.now mark) ∙ c.requires.outputs)
    (c.push_reserved-2.ensures.items ∙ ap (λ l. l ++ c.output_word_of.result ∷ []) (c.push_reserved.ensures.items ∙ ap (λ l. l ++ c.input_word_of.result ∷ []) c.in_ok-words.ensures.items))
    c.input_word_of.ensures c.output_word_of.ensures
