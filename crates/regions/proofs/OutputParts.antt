-- A region in two parts by outputs.
use Rattle.std.proofs.Common.{◌≡◌, ℕ, ◌&&◌, false, not, length, get_or, ap, sym, ◌∙◌, inl, inr, IsTrue}
use Rattle.std.proofs.lemmas.Bool.{cases_Bool, and_from, and_parts, or_left, or_right, not_from_false}
use Rattle.cube.specs.Pattern.{matches}
use Rattle.cube.specs.Sharp.{rest_row}
use Rattle.cube.specs.Cube.{Cube, Place, SameSize, IsSubset, holds}
use Rattle.cube.proofs.SharpLemmas.{get_or-minus, length-minus}
use Rattle.regions.specs.Reason.{HasParts}

module _ (region row rest : Cube) (size : SameSize row region) (e : rest ≡ rest_row region row) where
  -- what is left without the outputs of a row
  pub size_left : SameSize rest region
  size_left = (ap (λ x. length x.symbols) e, ap (λ x. length x.outputs) e ∙ length-minus region.outputs row.outputs (sym size.1))

  output_left : (j : ℕ) → get_or rest.outputs j false ≡ (get_or region.outputs j false && not (get_or row.outputs j false))
  output_left j = ap (λ x. get_or x.outputs j false) e ∙ get_or-minus region.outputs row.outputs j (sym size.1)

  left_within : IsSubset (holds rest) (holds region)
  left_within p in_rest =
      let parts = and_parts (matches rest.symbols p.point) (get_or rest.outputs p.output false) in_rest in
      and_from (matches region.symbols p.point) (get_or region.outputs p.output false)
      (ap (λ x. matches x.symbols p.point) (sym e) ∙ parts.0)
      (and_parts (get_or region.outputs p.output false) (not (get_or row.outputs p.output false)) (sym (output_left p.output) ∙ parts.1)).0

  -- a place of the region whose output the row lacks
  left_at : (p : Place) → IsTrue (holds region p) → get_or row.outputs p.output false ≡ false → IsTrue (holds rest p)
  left_at p h off =
      let parts = and_parts (matches region.symbols p.point) (get_or region.outputs p.output false) h in
      and_from (matches rest.symbols p.point) (get_or rest.outputs p.output false)
      (ap (λ x. matches x.symbols p.point) e ∙ parts.0)
      (output_left p.output
      ∙ and_from (get_or region.outputs p.output false) (not (get_or row.outputs p.output false)) parts.1 (not_from_false (get_or row.outputs p.output false) off))

-- the part with the outputs of a row, and that without them
pub parts_of : (region row rest part : Cube) → SameSize row region → rest ≡ rest_row region row → part ≡ rest_row region rest
    → HasParts region part rest
parts_of region row rest part size e_rest e_part =
    let rest_size = size_left region row rest size e_rest in
    record {
      part_size = size_left region rest part rest_size e_part;
      part_within = left_within region rest part rest_size e_part;
      rest_size = rest_size;
      rest_within = left_within region row rest size e_rest;
      whole = λ p h. elim (cases_Bool (get_or rest.outputs p.output false)) [
        | inl on ↦
            let inputs = (and_parts (matches region.symbols p.point) (get_or region.outputs p.output false) h).0 in
            or_right (holds part p) (holds rest p)
            (and_from (matches rest.symbols p.point) (get_or rest.outputs p.output false) (ap (λ x. matches x.symbols p.point) e_rest ∙ inputs) on)
        | inr off ↦ or_left (holds part p) (holds rest p) (left_at region rest part rest_size e_part p h off)
      ];
    }
