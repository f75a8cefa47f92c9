use Rattle.std.proofs.Common.{◌≡◌, ◌+◌, ◌-◌, ◌<◌, ◌≤◌, refl, subst, ℕ, map, get_or, sym, ◌∙◌, arith}
use Rattle.std.proofs.lemmas.Bool.{false≢true}
use Rattle.std.proofs.lemmas.List.{length-map}
use Rattle.cube.specs.Cube.{Cube}
use Rattle.cube.specs.Bytes.{byte_symbol, has_mark}
use Rattle.cube.specs.Packing.{Packs, IsInputWord, IsOutputWord}
use Rattle.cube.proofs.PackingLemmas.{Packs-from_words, each_pushed}
use Rattle.cube.proofs.bytes.words_of.Goals as goal
use Rattle.cube.proofs.bytes.words_of.Goals.{then-w-inputs_end, else-w-inputs_end}

abbrev row_of : goal.After-loop-w → Cube
row_of c = record { symbols = map byte_symbol c.args.inputs.now; outputs = map (has_mark c.args.marks.now c.args.mask) c.args.outputs.now }

packs : (c : goal.After-loop-w) → Packs (row_of c) c.loop-w.words.items
packs c =
    let start = c.input_words-inputs_end.result in
    let outputs = map (has_mark c.args.marks.now c.args.mask) c.args.outputs.now in
    Packs-from_words (row_of c) _ _ _ _ _ c.output_words-outputs_end.result (length-map c.args.inputs.now byte_symbol ∙ c.requires.inputs)
    (length-map c.args.outputs.now (has_mark c.args.marks.now c.args.mask) ∙ c.requires.outputs) c.input_words-inputs_end.ensures.value
    c.output_words-outputs_end.ensures.value refl (c.loop-w.invariant.len ∙ omega arith)
    (λ v lt. c.loop-w.invariant.inputs v (omega arith) lt)
    (λ v lt.
    let at : start + v - start ≡ v = omega arith in
    let P : ℕ → Type 0 = λ x. IsOutputWord outputs x (get_or c.loop-w.words.items (start + v) 0) in
    subst P at (c.loop-w.invariant.outputs (start + v) (omega arith) (omega arith)))

pub returns-clause-words : goal.returns-clause-words
returns-clause-words c = packs c

pub overflow_add-w-end : goal.overflow_add-w-end
overflow_add-w-end c = omega arith

pub loop-w-preserved : goal.loop-w-preserved
loop-w-preserved c =
    let start = c.input_words-inputs_end.result in
    let I : ℕ → ℕ → Type 0 = λ v x. IsInputWord (map byte_symbol c.args.inputs.now) v x in
    let O : ℕ → ℕ → Type 0 = λ v x. IsOutputWord (map (has_mark c.args.marks.now c.args.mask) c.args.outputs.now) (v - start) x in
    let pushed = each_pushed (λ v x. (v < start → I v x) × (start ≤ v → O v x)) _ _ _ _ c.loop-w.invariant.len c.push_reserved.ensures.items
    (λ v lt. (c.loop-w.invariant.inputs v lt, c.loop-w.invariant.outputs v lt))
    (elim c.if-w-inputs_end.branch [
      | then-w-inputs_end w ↦ (λ _. subst (I c.loop-w.w) (sym w.push_reserved-is) w.input_word_of.ensures, λ above. absurd (omega arith))
      | else-w-inputs_end w ↦ (λ below. absurd (omega arith), λ _. subst (O c.loop-w.w) (sym w.push_reserved-is) w.output_word_of.ensures)
    ]) in
    record {
      room = omega arith;
      len = pushed.0;
      inputs = λ v lt in_front. (pushed.1 v lt).0 in_front;
      outputs = λ v lt in_back. (pushed.1 v lt).1 in_back;
    }

pub returns-in_err-words-clause-inline : goal.returns-in_err-words-clause-inline
returns-in_err-words-clause-inline c few =
    absurd (false≢true (c.in_err-words.ensures.succeeds (rw (c.input_words-inputs_end.ensures.value, c.output_words-outputs_end.ensures.value) few)))
