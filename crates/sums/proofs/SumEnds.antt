-- Where the recursion over inputs ends: no place, or places by their output alone.
use Rattle.std.proofs.Common.{◌≡◌, ℕ, zero, suc, ◌+◌, ◌<◌, Bool, true, false, not, ◌&&◌, ◌||◌, List, [], ◌∷◌, length, map, take, get_or, replicate, Option, None, Some, is_some, IfSome, refl, ap, sym, ◌∙◌, arith, inl, inr}
use Rattle.std.specs.List.{Contains, list_any}
use Rattle.std.proofs.lemmas.Bool.{and_parts, and_from, or_parts, or_from, cases_Bool, cases_lt, false≢true}
use Rattle.std.proofs.lemmas.List.{get_or_past, ext_get_or, length-replicate, get_or-replicate}
use Rattle.std.proofs.lemmas.List.Elements.{All-head, All-tail}
use Rattle.cube.specs.declared.symbol.Symbol.{Symbol}
use Rattle.cube.specs.declared.symbol.Symbol.TheVariants.{Dash, Zero, One}
use Rattle.cube.specs.Size.{Size}
use Rattle.cube.specs.Pattern.{matches, is_literal}
use Rattle.cube.specs.Cube.{Cube, Place, IsPlace, holds, IsCube, IsSubset, IsNextLiteral, difference}
use Rattle.cube.specs.Sum.{complete_sum}
use Rattle.cube.proofs.HoldsLemmas.{length-matches, pick, matches-map_pick}
use Rattle.cube.proofs.SharpLemmas.{some_true, complete_sum-holds}
use Rattle.cube.proofs.SumLemmas.{complete_sum-from_members, Contains-complete_sum, sorted-complete_sum}
use Rattle.cube.proofs.Members.{Contains-nil}
use Rattle.sums.specs.Apart.{IsFree}
use Rattle.rows.specs.Cubes.{AreCubes}
use Rattle.rows.specs.Places.{places, universal}
use Rattle.rows.specs.Marks.{is_symbol}
use Rattle.rows.specs.Parts.{has_literal}
use Rattle.rows.specs.Reduced.{LeftOutputs}
use Rattle.std.proofs.lemmas.List.Folds.{list_any_more}
use Rattle.rows.proofs.SumOrder.{rising-nil}

place_of_cube : (size : Size) (c : Cube) (p : Place) → IsCube size c → holds c p ≡ true → IsPlace size p
place_of_cube size c p cube h =
    let parts = and_parts (matches c.symbols p.point) (get_or c.outputs p.output false) h in (
      length-matches c.symbols p.point parts.0 ∙ cube.has_size.0,
      elim (cases_lt p.output (length c.outputs)) [
        | inl lt ↦ omega (arith, cube.has_size.1)
        | inr past ↦ absurd (false≢true (sym (get_or_past c.outputs p.output false past) ∙ parts.1))
      ],
    )

-- the complete sum looks at the places of the size alone
module _ (size : Size) (s t : Place → Bool) (same : (p : Place) → IsPlace size p → s p ≡ t p) where
  forth : (c : Cube) → IsCube size c → IsSubset (holds c) s → IsSubset (holds c) t
  forth c cube sub p h = sym (same p (place_of_cube size c p cube h)) ∙ sub p h

  back : (c : Cube) → IsCube size c → IsSubset (holds c) t → IsSubset (holds c) s
  back c cube sub p h = same p (place_of_cube size c p cube h) ∙ sub p h

  pub complete_sum-agree : complete_sum size s ≡ complete_sum size t
  complete_sum-agree =
      complete_sum-from_members size t (complete_sum size s) (sorted-complete_sum size s)
      (λ c member.
      let h = (Contains-complete_sum size s c).0 member in
      record {
        is_cube = h.is_cube;
        within = forth c h.is_cube h.within;
        largest = λ d cube within above. h.largest d cube (back d cube within) above;
      })
      (λ c h. (Contains-complete_sum size s c).1 (record {
        is_cube = h.is_cube;
        within = back c h.is_cube h.within;
        largest = λ d cube within above. h.largest d cube (forth d cube within) above;
      }))

-- no place
pub complete_sum-none : (size : Size) (s : Place → Bool) → ((p : Place) → IsPlace size p → s p ≡ false) → [] ≡ complete_sum size s
complete_sum-none size s none' =
    complete_sum-from_members size s [] rising-nil
    (λ c member. absurd (Contains-nil c member))
    (λ c h.
    let on = some_true c.outputs h.is_cube.some_output in
    let p : Place = record { point = map_pick c.symbols; output = on.0 } in
    let held = and_from (matches c.symbols (map_pick c.symbols)) (get_or c.outputs on.0 false) (matches-map_pick c.symbols) on.1 in
    absurd (false≢true (sym (none' p (place_of_cube size c p h.is_cube held)) ∙ h.within p held)))
  where
    map_pick : List Symbol → List Bool
    map_pick ss = map pick ss

matches-dashes : (n : ℕ) (point : List Bool) → length point ≡ n → matches (replicate n Dash) point ≡ true
matches-dashes zero [] e = refl
matches-dashes zero (b ∷ bs) e = absurd (omega arith)
matches-dashes (suc n) [] e = absurd (omega arith)
matches-dashes (suc n) (b ∷ bs) e = matches-dashes n bs (omega arith)

-- the places by their output
module _ (size : Size) (s : Place → Bool) (outputs : List Bool) (by_output : (p : Place) → IsPlace size p → s p ≡ get_or outputs p.output false) where
  pub complete_sum-no_output : (Contains outputs true → ⊥) → [] ≡ complete_sum size s
  complete_sum-no_output none' =
      complete_sum-none size s (λ p place. elim (cases_Bool (get_or outputs p.output false)) [
        | inl on ↦ absurd (none' (at p on))
        | inr off ↦ by_output p place ∙ off
      ])
    where
      at : (p : Place) → get_or outputs p.output false ≡ true → Contains outputs true
      at p on = elim (cases_lt p.output (length outputs)) [
        | inl lt ↦ (p.output, lt, any_default outputs p.output lt ∙ on)
        | inr past ↦ absurd (false≢true (sym (get_or_past outputs p.output false past) ∙ on))
      ]
        where
          any_default : (bs : List Bool) (k : ℕ) → k < length bs → get_or bs k true ≡ get_or bs k false
          any_default [] k lt = absurd (omega arith)
          any_default (b ∷ bs) zero lt = refl
          any_default (b ∷ bs) (suc k) lt = any_default bs k (omega arith)

  pub complete_sum-outputs : (c : Cube) → c ≡ record { symbols = replicate size.inputs Dash; outputs = outputs } → IsCube size c → c ∷ [] ≡ complete_sum size s
  complete_sum-outputs c is cube =
      complete_sum-holds size c cube
      ∙ complete_sum-agree size (holds c) s (λ p place.
      ap (λ d. holds d p) is
      ∙ ap (λ x. x && get_or outputs p.output false) (matches-dashes size.inputs p.point place.0)
      ∙ sym (by_output p place))

-- cubes without a literal hold places by their outputs
module _ (size : Size) where
  free_symbols : (c : Cube) → IsCube size c → ((k : ℕ) → k < size.inputs → get_or c.symbols k Dash ≡ Dash) → c.symbols ≡ replicate size.inputs Dash
  free_symbols c cube h =
      ext_get_or Dash c.symbols (replicate size.inputs Dash) (cube.has_size.0 ∙ sym (length-replicate size.inputs Dash))
      (λ k lt. let in_size : k < size.inputs = omega (arith, cube.has_size.0) in h k in_size ∙ sym (get_or-replicate size.inputs k Dash Dash in_size))

  dash_from : (s : Symbol) → not (is_symbol Dash s) ≡ false → s ≡ Dash
  dash_from Dash h = refl
  dash_from Zero h = absurd (false≢true (sym h))
  dash_from One h = absurd (false≢true (sym h))

  pub places-free : (cubes : List Cube) (p : Place) → AreCubes size cubes → ((k : ℕ) → k < size.inputs → has_literal k cubes ≡ false) → IsPlace size p
      → places cubes p ≡ list_any (λ (c : Cube). get_or c.outputs p.output false) cubes
  places-free [] p h free place = refl
  places-free (c ∷ cubes) p h free place =
      let parts = λ (k : ℕ). λ (lt : k < size.inputs). or_parts (not (is_symbol Dash (get_or c.symbols k Dash))) (has_literal k cubes) (free k lt) in
      let symbols = free_symbols c (All-head (IsCube size) c cubes h) (λ k lt. dash_from (get_or c.symbols k Dash) (parts k lt).0) in
      ap (λ x. (x && get_or c.outputs p.output false) || places cubes p) (ap (λ ss. matches ss p.point) symbols ∙ matches-dashes size.inputs p.point place.0)
      ∙ ap (λ x. get_or c.outputs p.output false || x) (places-free cubes p (All-tail (IsCube size) c cubes h) (λ k lt. (parts k lt).1) place)

-- the end of the recursion, as the code has it
module _ (size : Size) (minuend subtrahend : List Cube) (cubes : AreCubes size minuend) (others : AreCubes size subtrahend)
    (free : (k : ℕ) → k < size.inputs → (has_literal k minuend || has_literal k subtrahend) ≡ false) (bits : List Bool) (left : LeftOutputs size minuend subtrahend bits) where
  left_place : (p : Place) → IsPlace size p → difference (places minuend) (places subtrahend) p ≡ get_or bits p.output false
  left_place p place =
      let each = λ (k : ℕ). λ (lt : k < size.inputs). or_parts (has_literal k minuend) (has_literal k subtrahend) (free k lt) in
      ap (λ x. x && not (places subtrahend p)) (places-free size minuend p cubes (λ k lt. (each k lt).0) place)
      ∙ ap (λ x. list_any (λ (c : Cube). get_or c.outputs p.output false) minuend && not x) (places-free size subtrahend p others (λ k lt. (each k lt).1) place)
      ∙ sym (left.each p.output place.1)

  pub sum_without_literals-none : (Contains bits true → ⊥) → [] ≡ complete_sum size (difference (places minuend) (places subtrahend))
  sum_without_literals-none none' = complete_sum-no_output size (difference (places minuend) (places subtrahend)) bits left_place none'

  pub sum_without_literals-one : (c : Cube) → c ≡ record { symbols = replicate size.inputs Dash; outputs = bits } → IsCube size c
      → c ∷ [] ≡ complete_sum size (difference (places minuend) (places subtrahend))
  sum_without_literals-one c is cube = complete_sum-outputs size (difference (places minuend) (places subtrahend)) bits left_place c is cube

-- ---- the loop over the rows

-- one more element, at which the test does not hold
pub none_up_to : {X : Type 0} (q : X → Bool) (xs : List X) (i : ℕ) (x : X) → i < length xs → x ≡ get_or xs i x
    → list_any q (take i xs) ≡ false → q x ≡ false → list_any q (take (i + 1) xs) ≡ false
none_up_to q xs i x lt at before off =
    list_any_more q xs i x lt ∙ or_from (list_any q (take i xs)) (q (get_or xs i x)) before (ap q (sym at) ∙ off)

-- a row with a next literal is not free
pub not_free : (row : Cube) (next : Option ℕ) → is_some next ≡ true → IfSome next (λ i. IsNextLiteral row 0 i) → IsFree row → ⊥
not_free row None some next free = absurd (false≢true some)
not_free row (Some i) some next free = false≢true (sym (ap is_literal (free i)) ∙ next.literal)

pub universal-holds : (size : Size) (p : Place) → IsPlace size p → holds (universal size) p ≡ true
universal-holds size p place =
    and_from (matches (replicate size.inputs Dash) p.point) (get_or (replicate size.outputs true) p.output false)
    (matches-dashes size.inputs p.point place.0) (get_or-replicate size.outputs p.output true false place.1)
