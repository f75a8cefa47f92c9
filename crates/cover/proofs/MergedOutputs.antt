-- The rows of single outputs, one output after the other.
use Rattle.std.proofs.Common.{◌≡◌, ℕ, ◌+◌, ◌<◌, ◌≤◌, Bool, true, false, ◌&&◌, ◌||◌, List, refl, ap, sym, ◌∙◌, arith, inl, inr}
use Rattle.std.proofs.Math.Dec.{eqb, ltb}
use Rattle.std.proofs.lemmas.Bool.{cases_Bool, cases_lt, and_parts, or_left, or_right, or_cases, eqb-true, eq-eqb, ltb-true, lt-ltb, false≢true}
use Rattle.cube.specs.Size.{Size}
use Rattle.cube.specs.Cube.{Cube, Place, IsCube, IsPlace, holds}
use Rattle.cube.proofs.SumLemmas.{IsPlace-from_holds}
use Rattle.rows.specs.Cubes.{AreCubes, Cubes}
use Rattle.cover.specs.Merging.{Adds}
use Rattle.rows.specs.Places.{places}
use Rattle.rows.proofs.Everywhere.{same_test}
use Rattle.rows.proofs.Lists.{all_members, list_any_witness}
use Rattle.rows.proofs.OneOutput.{held_at, held_only, region_of}

and_or : (a b c : Bool) → ((a && b) || (a && c)) ≡ (a && (b || c))
and_or true b c = refl
and_or false b c = refl

below_next : (o j : ℕ) → (ltb o j || eqb o j) ≡ ltb o (j + 1)
below_next o j = same_test {P = o < j + 1} (ltb o j || eqb o j) (ltb o (j + 1)) (to, from) (ltb-true o (j + 1), lt-ltb o (j + 1))
  where
    to : (ltb o j || eqb o j) ≡ true → o < j + 1
    to h = elim (or_cases (ltb o j) (eqb o j) h) [
      | inl less ↦ let l = ltb-true o j less in omega arith
      | inr same ↦ let e = eqb-true o j same in omega arith
    ]

    from : o < j + 1 → (ltb o j || eqb o j) ≡ true
    from h = elim (cases_lt o j) [
      | inl l ↦ or_left (ltb o j) (eqb o j) (lt-ltb o j l)
      | inr ge ↦ or_right (ltb o j) (eqb o j) (eq-eqb o j (omega arith))
    ]

-- the places of a list at the outputs below a number
abbrev pub AreBelow : List Cube → ℕ → (Place → Bool) → Type 0
AreBelow list j s = (p : Place) → s p ≡ (places list p && ltb p.output j)

module _ (size : Size) (list : List Cube) (are_cubes : AreCubes size list) where
  place_in : (p : Place) → places list p ≡ true → IsPlace size p
  place_in p h =
      let w = list_any_witness (λ c. holds c p) list h in
      IsPlace-from_holds size w.0 p (all_members (IsCube size) list are_cubes w.0 w.1).has_size w.2

  pub only_output : (j : ℕ) (only : Cube) → j < size.outputs → only ≡ region_of size list j → (p : Place) → (places list p && holds only p) ≡ (places list p && eqb p.output j)
  only_output j only lt is p = elim (cases_Bool (places list p)) [
    | inl on ↦ ap (λ b. places list p && b) (same_test {P = p.output ≡ j} (holds only p) (eqb p.output j)
        (λ h. held_only size list j p (ap (λ c. holds c p) (sym is) ∙ h), λ e. ap (λ c. holds c p) is ∙ held_at size list j p lt (place_in p on) e)
        (eqb-true p.output j, eq-eqb p.output j))
    | inr off ↦ ap (λ b. b && holds only p) off ∙ sym (ap (λ b. b && eqb p.output j) off)
  ]

  pub AreBelow-none : AreBelow list 0 (λ p. false)
  AreBelow-none p = same_test {P = ⊥} false (places list p && ltb p.output 0) (λ h. false≢true h, λ h. absurd h)
      (λ h. let l = ltb-true p.output 0 (and_parts (places list p) (ltb p.output 0) h).1 in omega arith, λ h. absurd h)

  pub AreBelow-next : (j : ℕ) (all next part : Cubes) → AreBelow list j (places all.cubes) → ((p : Place) → places part.cubes p ≡ (places list p && eqb p.output j))
      → Adds all part.cubes next → AreBelow list (j + 1) (places next.cubes)
  AreBelow-next j all next part before is added p =
      added.places p ∙ ap (λ x. x || places part.cubes p) (before p) ∙ ap (λ x. (places list p && ltb p.output j) || x) (is p)
      ∙ and_or (places list p) (ltb p.output j) (eqb p.output j) ∙ ap (λ b. places list p && b) (below_next p.output j)

  pub AreBelow-all : (j : ℕ) (s : Place → Bool) → size.outputs ≤ j → AreBelow list j s → (p : Place) → s p ≡ places list p
  AreBelow-all j s past below p = elim (cases_Bool (places list p)) [
    | inl on ↦
        let o = (place_in p on).1 in
        below p ∙ ap (λ b. places list p && b) (lt-ltb p.output j (omega (arith, o))) ∙ ap (λ b. b && true) on ∙ sym on
    | inr off ↦ below p ∙ ap (λ b. b && ltb p.output j) off ∙ sym off
  ]
