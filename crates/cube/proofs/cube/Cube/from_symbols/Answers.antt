use Rattle.std.proofs.Common.{◌≡◌, ◌+◌, ◌-◌, ◌<◌, ◌≤◌, refl, subst, ℕ, true, false, get_or, sym, ◌∙◌, arith, rules}
use Rattle.std.proofs.lemmas.Bool.{false≢true}
use Rattle.std.specs.List.{Contains}
use Rattle.std.proofs.lemmas.List.{get_or_default}
use Rattle.cube.specs.Cube.{Cube}
use Rattle.cube.specs.Packing.{Packs, IsInputWord, IsOutputWord}
use Rattle.cube.proofs.PackingLemmas.{unpacked-Packs_at, IsPacked-from_Packs, Packs-from_words, each_pushed}
use Rattle.cube.proofs.cube.Cube.from_symbols.Goals as goal
use Rattle.cube.proofs.cube.Cube.from_symbols.Goals.{then-w-inputs_end, else-w-inputs_end}

packs : (c : goal.After-loop-w) → Packs record { symbols = c.args.symbols.now; outputs = c.args.outputs.now } c.loop-w.words.items
packs c =
    let row : Cube = record { symbols = c.args.symbols.now; outputs = c.args.outputs.now } in
    let start = c.input_words-inputs_end.result in
    let count = c.output_words-outputs_end.result in
    Packs-from_words row _ _ _ _ _ count c.requires.inputs c.requires.outputs c.input_words-inputs_end.ensures.value
    c.output_words-outputs_end.ensures.value refl (c.loop-w.invariant.len ∙ omega arith)
    (λ v lt. c.loop-w.invariant.inputs v (omega arith) lt)
    (λ v lt.
    let at : start + v - start ≡ v = omega arith in
    let P : ℕ → Type 0 = λ x. IsOutputWord c.args.outputs.now x (get_or c.loop-w.words.items (start + v) 0) in
    subst P at (c.loop-w.invariant.outputs (start + v) (omega arith) (omega arith)))

has : (c : goal.After-loop-w) → Contains c.args.outputs.now true
has c = search rules

pub invariant_of-result : goal.invariant_of-result
invariant_of-result c =
    let row : Cube = record { symbols = c.args.symbols.now; outputs = c.args.outputs.now } in
    IsPacked-from_Packs row _ _ _ c.requires.inputs c.requires.outputs (packs c)
    (has c).0 (sym (get_or_default c.args.outputs.now (has c).0 true false (has c).1) ∙ (has c).2)

pub returns-clause-value : goal.returns-clause-value
returns-clause-value c =
    let row : Cube = record { symbols = c.args.symbols.now; outputs = c.args.outputs.now } in
    unpacked-Packs_at row _ _ _ c.requires.inputs c.requires.outputs (packs c)

pub overflow_add-w-end : goal.overflow_add-w-end
overflow_add-w-end c = omega arith

pub returns-in_err-words-clause-inline : goal.returns-in_err-words-clause-inline
returns-in_err-words-clause-inline c few =
    absurd (false≢true (c.in_err-words.ensures.succeeds (rw (c.input_words-inputs_end.ensures.value, c.output_words-outputs_end.ensures.value) few)))

pub returns-clause-found : goal.returns-clause-found
returns-clause-found c = (λ _. has c, λ _. refl)

pub loop-w-preserved : goal.loop-w-preserved
loop-w-preserved c =
    let start = c.input_words-inputs_end.result in
    let I : ℕ → ℕ → Type 0 = λ v x. IsInputWord c.args.symbols.now v x in
    let O : ℕ → ℕ → Type 0 = λ v x. IsOutputWord c.args.outputs.now (v - start) x in
    let pushed = each_pushed (λ v x. (v < start → I v x) × (start ≤ v → O v x)) _ _ _ _ c.loop-w.invariant.len c.push_reserved.ensures.items
    (λ v lt. (c.loop-w.invariant.inputs v lt, c.loop-w.invariant.outputs v lt))
    (elim c.if-w-inputs_end.branch [
      | then-w-inputs_end w ↦ (λ _. subst (I c.loop-w.w) (sym w.push_reserved-is) w.input_word.ensures, λ above. absurd (omega arith))
      | else-w-inputs_end w ↦ (λ below. absurd (omega arith), λ _. subst (O c.loop-w.w) (sym w.push_reserved-is) w.output_word.ensures)
    ]) in
    record {
      room = omega arith;
      len = pushed.0;
      inputs = λ v lt in_front. (pushed.1 v lt).0 in_front;
      outputs = λ v lt in_back. (pushed.1 v lt).1 in_back;
    }
