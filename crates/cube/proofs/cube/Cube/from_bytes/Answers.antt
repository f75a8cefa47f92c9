use Rattle.std.proofs.Common.{List, ℕ, map, sym, ◌∙◌, subst}
use Rattle.std.proofs.lemmas.List.{length-map}
use Rattle.cube.specs.Cube.{Cube}
use Rattle.cube.specs.Bytes.{byte_symbol, has_mark}
use Rattle.cube.specs.Packing.{Packs}
use Rattle.cube.proofs.PackingLemmas.{unpacked-Packs_at, IsPacked-from_Packs}
use Rattle.cube.proofs.BytesLemmas.{any_map}
use Rattle.cube.proofs.SharpLemmas.{some_true}
use Rattle.cube.proofs.cube.Cube.from_bytes.Goals as goal
use Rattle.cube.proofs.cube.Cube.from_bytes.Goals.{then-is_in_two_words+in_ok-words, else-is_in_two_words+in_ok-words-2}

abbrev row_of : (inputs outputs marks : List ℕ) (mask : ℕ) → Cube
row_of inputs outputs marks mask = record { symbols = map byte_symbol inputs; outputs = map (has_mark marks mask) outputs }

pub invariant_of-result : goal.invariant_of-result
invariant_of-result c =
    let row = row_of c.args.inputs.now c.args.outputs.now c.args.marks.now c.args.mask in
    let packs : Packs row c.if-is_in_two_words.words.items = elim c.if-is_in_two_words.branch [
      | then-is_in_two_words+in_ok-words w ↦ subst (λ v. Packs row v.items) (sym w.words-is) w.in_ok-words.ensures.words
      | else-is_in_two_words+in_ok-words-2 w ↦ subst (λ v. Packs row v.items) (sym w.words-is) w.in_ok-words-2.ensures.words
    ] in
    let has = some_true (map (has_mark c.args.marks.now c.args.mask) c.args.outputs.now) (sym (any_map (has_mark c.args.marks.now c.args.mask) c.args.outputs.now) ∙ sym c.has_any_mark.ensures ∙ c.if-not-has_any_mark.false) in
    IsPacked-from_Packs row _ _ _ (length-map c.args.inputs.now byte_symbol ∙ c.requires.inputs)
    (length-map c.args.outputs.now (has_mark c.args.marks.now c.args.mask) ∙ c.requires.outputs) packs has.0 has.1

pub returns-clause-value : goal.returns-clause-value
returns-clause-value c =
    let row = row_of c.args.inputs.now c.args.outputs.now c.args.marks.now c.args.mask in
    let packs : Packs row c.if-is_in_two_words.words.items = elim c.if-is_in_two_words.branch [
      | then-is_in_two_words+in_ok-words w ↦ subst (λ v. Packs row v.items) (sym w.words-is) w.in_ok-words.ensures.words
      | else-is_in_two_words+in_ok-words-2 w ↦ subst (λ v. Packs row v.items) (sym w.words-is) w.in_ok-words-2.ensures.words
    ] in
    unpacked-Packs_at row _ _ _ (length-map c.args.inputs.now byte_symbol ∙ c.requires.inputs)
    (length-map c.args.outputs.now (has_mark c.args.marks.now c.args.mask) ∙ c.requires.outputs) packs
