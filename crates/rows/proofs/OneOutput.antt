-- The cube of one output.
use Rattle.std.proofs.Common.{◌≡◌, ℕ, zero, suc, ◌<◌, ◌≤◌, true, false, List, length, get_or, set, replicate, refl, ap, sym, subst, ◌∙◌, arith, inl, inr}
use Rattle.std.specs.List.{Contains}
use Rattle.std.proofs.lemmas.Bool.{cases_lt, false≢true, and_parts, and_from}
use Rattle.std.proofs.lemmas.List.{length-set, length-replicate, get_or-set_same, get_or-replicate, get_or_past}
use Rattle.cube.specs.Size.{Size}
use Rattle.cube.specs.declared.symbol.Symbol.TheVariants.{Dash}
use Rattle.cube.specs.Pattern.{matches}
use Rattle.cube.specs.Cube.{Cube, Place, holds, HasSize, IsCube, IsPlace}
use Rattle.rows.proofs.Lists.{list_any_from}
use Rattle.rows.proofs.Everywhere.{holds_universal}

none_set : (m k : ℕ) → get_or (replicate m false) k false ≡ false
none_set m k = elim (cases_lt k m) [ inl lt ↦ get_or-replicate m k false false lt | inr past ↦ get_or_past (replicate m false) k false (omega (arith, length-replicate m false)) ]

pub all_set : (m : ℕ) → 1 ≤ m → Contains (replicate m true) true
all_set m some = (0, omega (arith, some, length-replicate m true), get_or-replicate m 0 true true some)

pub one_set : (m j : ℕ) → j < m → Contains (set (replicate m false) j true) true
one_set m j lt = (j, omega (arith, length-set (replicate m false) j true, length-replicate m false), get_or-set_same (replicate m false) j true true (omega (arith, length-replicate m false)))

-- the cube of all places with an output
pub output_cube : (size : Size) (j : ℕ) (c : Cube) → j < size.outputs → c ≡ record { symbols = replicate size.inputs Dash; outputs = set (replicate size.outputs false) j true }
    → IsCube size c
output_cube size j c lt is = record {
  has_size = (
    ap (λ d. length d.symbols) is ∙ length-replicate size.inputs Dash,
    ap (λ d. length d.outputs) is ∙ length-set (replicate size.outputs false) j true ∙ length-replicate size.outputs false,
  );
  some_output = list_any_from (λ b. b) c.outputs true (subst (λ d. Contains d.outputs true) (sym is) (one_set size.outputs j lt)) refl;
}

set_one : (m j k : ℕ) → get_or (set (replicate m false) j true) k false ≡ true → k ≡ j
set_one zero j k h = absurd (false≢true h)
set_one (suc m) zero zero h = refl
set_one (suc m) zero (suc k) h = absurd (false≢true (sym (none_set m k) ∙ h))
set_one (suc m) (suc j) zero h = absurd (false≢true h)
set_one (suc m) (suc j) (suc k) h = ap suc (set_one m j k h)

module _ (size : Size) (rows : List Cube) where
  abbrev pub region_of : ℕ → Cube
  region_of j = record { symbols = replicate size.inputs Dash; outputs = set (replicate size.outputs false) j true }

  pub region-size : (j : ℕ) (region : Cube) → region ≡ region_of j → HasSize region size
  region-size j region e = subst (λ c. HasSize c size) (sym e)
      (length-replicate size.inputs Dash, length-set (replicate size.outputs false) j true ∙ length-replicate size.outputs false)

  pub held_at : (j : ℕ) (p : Place) → j < size.outputs → IsPlace size p → p.output ≡ j → holds (region_of j) p ≡ true
  held_at j p lt place e =
      and_from (matches (replicate size.inputs Dash) p.point) (get_or (set (replicate size.outputs false) j true) p.output false)
      (and_parts (matches (replicate size.inputs Dash) p.point) (get_or (replicate size.outputs true) p.output false) (holds_universal size p place.0 place.1)).0
      (ap (λ k. get_or (set (replicate size.outputs false) j true) k false) e ∙ get_or-set_same (replicate size.outputs false) j true false (omega (arith, length-replicate size.outputs false)))

  pub held_only : (j : ℕ) (p : Place) → holds (region_of j) p ≡ true → p.output ≡ j
  held_only j p h = set_one size.outputs j p.output (and_parts (matches (replicate size.inputs Dash) p.point) (get_or (set (replicate size.outputs false) j true) p.output false) h).1
