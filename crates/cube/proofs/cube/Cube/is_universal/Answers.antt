use Rattle.std.proofs.Common.{◌∙◌, sym}
use Rattle.std.proofs.lemmas.Bool.{false≢true}
use Rattle.cube.proofs.PackingLemmas.{within_from_true}
use Rattle.cube.proofs.SharpLemmas.{some_true}
use Rattle.cube.proofs.UniversalLemmas.{dashes_from_part, part_from_dashes, outputs_from_part, part_from_outputs, places_from_IsUniversal, IsUniversal-from_places}
use Rattle.cube.proofs.cube.Cube.is_universal.Goals as goal

pub returns-then-has_all-clause-row : goal.returns-then-has_all-clause-row
returns-then-has_all-clause-row c =
    let en = c.inputs.ensures.value ∙ sym c.shape-shape.ensures.size.0 in
    let em = c.outputs.ensures.value ∙ sym c.shape-shape.ensures.size.1 in (
      λ t. record {
        no_literal = dashes_from_part _ _ _ en c.input_part.ensures.packs (c.has_all.ensures.0 c.if-has_all.true);
        all_outputs = outputs_from_part _ _ _ em c.output_part.ensures.packs (c.has_all-then-has_all.ensures.0 t);
      },
      λ u. c.has_all-then-has_all.ensures.1 (part_from_outputs _ _ _ em c.output_part.ensures.packs u.all_outputs),
    )

pub returns-then-has_all-clause-places : goal.returns-then-has_all-clause-places
returns-then-has_all-clause-places c =
    let on = some_true _ c.shape-shape.ensures.is_cube.some_output in
    let row = returns-then-has_all-clause-row c in (
      λ t. places_from_IsUniversal _ (row.0 t),
      λ all. row.1 (IsUniversal-from_places _ (on.0, within_from_true _ on.0 on.1) all),
    )

pub returns-else-has_all-clause-row : goal.returns-else-has_all-clause-row
returns-else-has_all-clause-row c =
    let en = c.inputs.ensures.value ∙ sym c.shape-shape.ensures.size.0 in (
      λ t. absurd (false≢true (sym c.if-has_all.false ∙ t)),
      λ u. c.has_all.ensures.1 (part_from_dashes _ _ _ en c.input_part.ensures.packs u.no_literal),
    )

pub returns-else-has_all-clause-places : goal.returns-else-has_all-clause-places
returns-else-has_all-clause-places c =
    let on = some_true _ c.shape-shape.ensures.is_cube.some_output in
    let row = returns-else-has_all-clause-row c in (
      λ t. places_from_IsUniversal _ (row.0 t),
      λ all. row.1 (IsUniversal-from_places _ (on.0, within_from_true _ on.0 on.1) all),
    )
