use Rattle.std.proofs.Common.{◌≡◌, ◌∙◌, ◌++◌, ◌∷◌, Bool, true, false, List, [], refl, ap, sym, length, filter, cond}
use Rattle.std.specs.List.{list_any}
use Rattle.std.proofs.lemmas.Bool.{false_from_ne_true, false≢true}
use Rattle.cube.specs.Cube.{Cube, size_of}
use Rattle.cube.specs.Sharp.{minus, rest_row, rest_rows}
use Rattle.cube.proofs.SharpLemmas.{length-minus}
use Rattle.rows.specs.Contained.{is_within}
use Rattle.sums.proofs.containing.rest_containing.Goals as goal
use Rattle.sums.proofs.containing.rest_containing.Goals.{then-has_outputs_beyond+in_ok-rest+then-contains+in_ok-push, then-has_outputs_beyond+in_ok-rest+else-contains, else-has_outputs_beyond}

module _ (test : Cube → Bool) (cube row : Cube) where
  abbrev some : Bool
  some = list_any (λ b. b) (minus cube.outputs row.outputs)

  abbrev kept : Bool → Bool → List Cube
  kept outputs passes = cond outputs (cond passes (rest_row cube row ∷ []) []) []

  rests : (outputs passes : Bool) → some ≡ outputs → (outputs ≡ true → test (rest_row cube row) ≡ passes) → kept outputs passes ≡ filter test (rest_rows cube row)
  rests true passes e h = ap (λ b. cond b (rest_row cube row ∷ []) []) (sym (h refl)) ∙ ap (λ b. filter test (cond b (rest_row cube row ∷ []) [])) (sym e)
  rests false passes e h = ap (λ b. filter test (cond b (rest_row cube row ∷ []) [])) (sym e)

pub contains-requires : goal.contains-requires
contains-requires c =
    let cube = c.args.cube.now in
    let row = c.args.row.now in (
      ap (λ x. length x.symbols) c.in_ok-rest.ensures.value ∙ c.requires.region.0,
      ap (λ x. length x.outputs) c.in_ok-rest.ensures.value ∙ length-minus cube.outputs row.outputs c.requires.row.1 ∙ c.requires.region.1,
    )

pub returns : goal.returns
returns c =
    let region = c.args.region.now in
    let cube = c.args.cube.now in
    let row = c.args.row.now in
    let test = is_within (size_of region) region in
    let start = c.new-rests.ensures.items in
    elim c.if-has_outputs_beyond.branch [
      | then-has_outputs_beyond+in_ok-rest+then-contains+in_ok-push w ↦
          ap (λ v. v.items) w.rests-is ∙ w.in_ok-push.ensures.items ∙ ap (λ l. l ++ w.in_ok-rest.rest ∷ []) start ∙ ap (λ d. d ∷ []) w.in_ok-rest.ensures.value
          ∙ rests test cube row true true (c.has_outputs_beyond.ensures.0 w.if-has_outputs_beyond.true)
          (λ _. ap test (sym w.in_ok-rest.ensures.value) ∙ sym w.contains.ensures ∙ w.if-contains.true)
      | then-has_outputs_beyond+in_ok-rest+else-contains w ↦
          ap (λ v. v.items) w.rests-is ∙ start
          ∙ rests test cube row true false (c.has_outputs_beyond.ensures.0 w.if-has_outputs_beyond.true)
          (λ _. ap test (sym w.in_ok-rest.ensures.value) ∙ sym w.contains.ensures ∙ w.if-contains.false)
      | else-has_outputs_beyond w ↦
          ap (λ v. v.items) w.rests-is ∙ start
          ∙ rests test cube row false false (false_from_ne_true (list_any (λ b. b) (minus cube.outputs row.outputs)) (λ on. false≢true (sym w.if-has_outputs_beyond.false ∙ c.has_outputs_beyond.ensures.1 on)))
          (λ on. absurd (false≢true on))
    ]
