-- Cubes with a place in common.
use Rattle.std.proofs.Common.{◌≡◌, ℕ, ◌<◌, true, false, List, All, map, get_or, ap, sym, ◌∙◌, arith, inl, inr, ◌⊎◌}
use Rattle.std.proofs.lemmas.Bool.{cases_Bool, false≢true, and_parts}
use Rattle.cube.specs.declared.symbol.Symbol.{Symbol}
use Rattle.cube.specs.declared.symbol.Symbol.TheVariants.{Dash, Zero, One}
use Rattle.cube.specs.Size.{Size}
use Rattle.cube.specs.Pattern.{agrees, matches}
use Rattle.cube.specs.Cube.{Cube, Place, holds, IsCube}
use Rattle.cube.proofs.HoldsLemmas.{agrees_at-matches, pick}
use Rattle.cube.proofs.SharpLemmas.{some_true}
use Rattle.cube.proofs.Members.{list_any_false}
use Rattle.rows.specs.Cubes.{AreCubes}
use Rattle.rows.proofs.Lists.{all_members}
use Rattle.rows.proofs.ContainmentLemmas.{is_symbol-same}
use Rattle.rows.proofs.Regions.{place_at}
use Rattle.rows.specs.Marks.{is_symbol}
use Rattle.rows.specs.Parts.{has_symbol}

-- where all cubes have a place in common, no input has both literals
pub one_literal-from_place : (size : Size) (rows : List Cube) (p : Place) → AreCubes size rows → All (λ d. holds d p ≡ true) rows
    → (k : ℕ) → k < size.inputs → (has_symbol k Zero rows ≡ false) ⊎ (has_symbol k One rows ≡ false)
one_literal-from_place size rows p are all k lt = elim (cases_Bool (get_or p.point k false)) [
  | inl on ↦ inl (none Zero (λ e. false≢true (ap (agrees Zero) (sym on) ∙ e)))
  | inr off ↦ inr (none One (λ e. false≢true (sym off ∙ e)))
]
  where
    none : (t : Symbol) → (agrees t (get_or p.point k false) ≡ true → ⊥) → has_symbol k t rows ≡ false
    none t apart =
        list_any_false (λ c. is_symbol t (get_or c.symbols k Dash)) rows (λ c member e.
        let own = all_members (λ d. holds d p ≡ true) rows all c member in
        let long = (all_members (IsCube size) rows are c member).has_size.0 in
        apart (ap (λ s. agrees s (get_or p.point k false)) (is_symbol-same t (get_or c.symbols k Dash) e)
        ∙ agrees_at-matches c.symbols p.point k (and_parts (matches c.symbols p.point) (get_or c.outputs p.output false) own).0 (omega (arith, long))))

-- a cube has a place
pub place_of : (size : Size) (c : Cube) → IsCube size c → (p : Place) × (holds c p ≡ true)
place_of size c is =
    let j = some_true c.outputs is.some_output in
    (record { point = map pick c.symbols; output = j.0 }, place_at c j.0 j.1)
