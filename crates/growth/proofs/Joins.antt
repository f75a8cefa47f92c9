-- The join of two cubes.
use Rattle.std.proofs.Common.{◌≡◌, ℕ, Bool, true, false, ◌||◌, length, get_or, refl, ap, sym, ◌∙◌, inl, inr}
use Rattle.std.proofs.lemmas.Bool.{cases_Bool, false≢true, or_cases, or_left, or_right, not-true, not_from_false}
use Rattle.std.proofs.lemmas.Simd.{length-zip2}
use Rattle.cube.specs.declared.symbol.Symbol.{Symbol}
use Rattle.cube.specs.declared.symbol.Symbol.TheVariants.{Dash, Zero, One}
use Rattle.cube.specs.Pattern.{agrees}
use Rattle.cube.specs.Cube.{Cube, holds, SameSize, IsCube, IsSubset, IsDisjoint}
use Rattle.cube.specs.Join.{supercube, supercube_symbol}
use Rattle.cube.proofs.HoldsLemmas.{IsSubset-from_Covers}
use Rattle.cube.proofs.JoinLemmas.{agrees-supercube_symbol}
use Rattle.cube.proofs.SharpLemmas.{some_true, true_some}
use Rattle.cube.proofs.ZipLemmas.{get_or-zip2_any}
use Rattle.cover.specs.Cubes.{Cubes}
use Rattle.cover.specs.Places.{places}
use Rattle.growth.specs.Dominating.{IsImplicant, NeedsNoJoin}
use Rattle.growth.proofs.GrowthSteps.{same_sizes, covering}

-- what agrees with a symbol of two that lie in a third agrees with the third
joined_symbol : (s t u : Symbol) (bit : Bool) → ((b : Bool) → agrees s b ≡ true → agrees u b ≡ true) → ((b : Bool) → agrees t b ≡ true → agrees u b ≡ true) → agrees (supercube_symbol s t) bit ≡ true → agrees u bit ≡ true
joined_symbol Zero Zero u bit f g h = f bit h
joined_symbol One One u bit f g h = f bit h
joined_symbol Dash t u bit f g h = f bit refl
joined_symbol Zero Dash u bit f g h = g bit refl
joined_symbol One Dash u bit f g h = g bit refl
joined_symbol Zero One u true f g h = g true refl
joined_symbol Zero One u false f g h = f false refl
joined_symbol One Zero u true f g h = f true refl
joined_symbol One Zero u false f g h = g false refl

module _ (off : Cubes) (cube point wide : Cube) (is_cube : IsCube off.size cube) (is_point : IsCube off.size point) (is : wide ≡ supercube cube point) where
  same : SameSize cube point
  same = (is_cube.has_size.0 ∙ sym is_point.has_size.0, is_cube.has_size.1 ∙ sym is_point.has_size.1)

  output_of : (k : ℕ) → get_or wide.outputs k false ≡ (get_or cube.outputs k false || get_or point.outputs k false)
  output_of k = ap (λ c. get_or c.outputs k false) is ∙ get_or-zip2_any (λ x y. x || y) cube.outputs point.outputs k false false false same.1 refl

  symbol_of : (k : ℕ) → get_or wide.symbols k Dash ≡ supercube_symbol (get_or cube.symbols k Dash) (get_or point.symbols k Dash)
  symbol_of k = ap (λ c. get_or c.symbols k Dash) is ∙ get_or-zip2_any supercube_symbol cube.symbols point.symbols k Dash Dash Dash same.0 refl

  pub wide_cube : IsCube off.size wide
  wide_cube = record {
    has_size = (
      ap (λ c. length c.symbols) is ∙ length-zip2 supercube_symbol cube.symbols point.symbols same.0 ∙ is_cube.has_size.0,
      ap (λ c. length c.outputs) is ∙ length-zip2 (λ x y. x || y) cube.outputs point.outputs same.1 ∙ is_cube.has_size.1,
    );
    some_output = (
        let some = some_true cube.outputs is_cube.some_output in
        true_some wide.outputs some.0 (output_of some.0 ∙ or_left (get_or cube.outputs some.0 false) (get_or point.outputs some.0 false) some.1));
  }

  pub least : (c : Cube) → IsCube off.size c → IsSubset (holds cube) (holds c) → IsSubset (holds point) (holds c) → IsSubset (holds wide) (holds c)
  least c c_cube one two =
      let over_one = covering off.size cube c is_cube c_cube one in
      let over_two = covering off.size point c is_point c_cube two in
      IsSubset-from_Covers c wide (same_sizes off.size wide c wide_cube c_cube) (record {
        inputs = λ k bit ok. joined_symbol (get_or cube.symbols k Dash) (get_or point.symbols k Dash) (get_or c.symbols k Dash) bit (over_one.inputs k) (over_two.inputs k) (ap (λ t. agrees t bit) (sym (symbol_of k)) ∙ ok);
        outputs = λ k on. elim (or_cases (get_or cube.outputs k false) (get_or point.outputs k false) (sym (output_of k) ∙ on)) [
          | inl e ↦ over_one.outputs k e
          | inr e ↦ over_two.outputs k e
        ];
      })

  -- each contains what it joins
  pub wide_over : IsSubset (holds cube) (holds wide)
  wide_over = IsSubset-from_Covers wide cube (same_sizes off.size cube wide is_cube wide_cube) (record {
    inputs = λ k bit ok. ap (λ t. agrees t bit) (symbol_of k) ∙ agrees-supercube_symbol (get_or cube.symbols k Dash) (get_or point.symbols k Dash) bit
        ∙ or_left (agrees (get_or cube.symbols k Dash) bit) (agrees (get_or point.symbols k Dash) bit) ok;
    outputs = λ k on. output_of k ∙ or_left (get_or cube.outputs k false) (get_or point.outputs k false) on;
  })

  pub wide_with_point : IsSubset (holds point) (holds wide)
  wide_with_point = IsSubset-from_Covers wide point (same_sizes off.size point wide is_point wide_cube) (record {
    inputs = λ k bit ok. ap (λ t. agrees t bit) (symbol_of k) ∙ agrees-supercube_symbol (get_or cube.symbols k Dash) (get_or point.symbols k Dash) bit
        ∙ or_right (agrees (get_or cube.symbols k Dash) bit) (agrees (get_or point.symbols k Dash) bit) ok;
    outputs = λ k on. output_of k ∙ or_right (get_or cube.outputs k false) (get_or point.outputs k false) on;
  })

  pub needs_no_join : (IsImplicant off wide → ⊥) → NeedsNoJoin off cube point
  needs_no_join refused c c_cube within one two = absurd (refused (λ p h. within p (least c c_cube one two p h)))

-- an implicant avoids the list
pub avoids : (off : Cubes) (c : Cube) → IsDisjoint (holds c) (places off.cubes) → IsImplicant off c
avoids off c apart p h = elim (cases_Bool (places off.cubes p)) [
  | inl e ↦ absurd (apart p h e)
  | inr e ↦ not_from_false (places off.cubes p) e
]

pub avoids_back : (off : Cubes) (c : Cube) → IsImplicant off c → IsDisjoint (holds c) (places off.cubes)
avoids_back off c sub p h k = false≢true (sym (not-true (places off.cubes p) (sub p h)) ∙ k)
