-- Agreement where places outside both a list and its mask are free too.
use Rattle.std.proofs.Common.{◌≡◌, Bool, true, false, not, ◌&&◌, ◌||◌, List, refl, ap, sym, ◌∙◌, inl, inr, ◌↔◌, IsTrue}
use Rattle.std.specs.Bool.{beq}
use Rattle.std.specs.List.{Contains}
use Rattle.std.proofs.lemmas.Bool.{cases_Bool, false≢true, and_parts}
use Rattle.cube.specs.Size.{Size}
use Rattle.cube.specs.Cube.{Cube, Place, IsPlace, IsSubset, intersection}
use Rattle.cube.specs.Sum.{all_places}
use Rattle.cube.proofs.Members.{list_all_at, list_all_from}
use Rattle.cube.proofs.SumLemmas.{IsPlace-from_holds}
use Rattle.rows.specs.Cubes.{AreCubes}
use Rattle.rows.specs.Places.{places, agree_outside, universal}
use Rattle.rows.proofs.Agreement.{IsSubset-places_test, agree_outside-turned}
use Rattle.rows.proofs.Everywhere.{same_test, HasSize-universal, universal-all_places}

-- the free places: the given ones, and those outside both a list and its mask
abbrev pub all_free : (s t free mask other_mask : Place → Bool) → Place → Bool
all_free s t free mask other_mask p = free p || (not (s p || mask p) || not (t p || other_mask p))

-- at one place, what agreement says of the first list
first_place : (s t d m n : Bool) → ((d || (not (s || m) || not (t || n))) || beq s t) ≡ true → (not s || (not n || (d || t))) ≡ true
first_place false t d m n e = refl
first_place true t d m false e = refl
first_place true t true m true e = refl
first_place true true false m true e = refl
first_place true false false m true e = absurd (false≢true e)

-- and what both lists say of agreement
both_places : (s t d m n : Bool) → ((s && n) ≡ true → (d || t) ≡ true) → ((t && m) ≡ true → (d || s) ≡ true)
    → ((d || (not (s || m) || not (t || n))) || beq s t) ≡ true
both_places s t true m n f g = refl
both_places true true false m n f g = refl
both_places true false false m true f g = absurd (false≢true (f refl))
both_places true false false m false f g = refl
both_places false true false true n f g = absurd (false≢true (g refl))
both_places false true false false n f g = refl
both_places false false false true true f g = refl
both_places false false false true false f g = refl
both_places false false false false n f g = refl

or_turned : (d x y : Bool) → (d || (x || y)) ≡ (d || (y || x))
or_turned true x y = refl
or_turned false true true = refl
or_turned false true false = refl
or_turned false false true = refl
or_turned false false false = refl

IsPlace-member : (size : Size) (p : Place) → Contains (all_places size) p → IsPlace size p
IsPlace-member size p h = IsPlace-from_holds size (universal size) p (HasSize-universal size) (universal-all_places size p h)

-- where a place fails the mask, nothing is asked of it
unmasked : (n x : Bool) → (not n || x) ≡ true → n ≡ true → x ≡ true
unmasked true x h on = h
unmasked false x h on = absurd (false≢true on)

module _ (size : Size) (cubes others : List Cube) (free mask other_mask dcs : Place → Bool)
    (is : (p : Place) → IsPlace size p → dcs p ≡ all_free (places cubes) (places others) free mask other_mask p) where
  held-from_agree : AreCubes size cubes → agree_outside size (places cubes) (places others) dcs ≡ true
      → IsSubset (intersection (places cubes) other_mask) (λ p. free p || places others p)
  held-from_agree are h p in_both =
      let both = and_parts (places cubes p) (other_mask p) in_both in
      let test = IsSubset-places_test size cubes (λ q. not (other_mask q) || (free q || places others q)) are
      (list_all_from (λ q. not (places cubes q) || (not (other_mask q) || (free q || places others q))) (all_places size) (λ q member.
      first_place (places cubes q) (places others q) (free q) (mask q) (other_mask q)
      (sym (ap (λ b. b || beq (places cubes q) (places others q)) (is q (IsPlace-member size q member)))
      ∙ list_all_at (λ x. dcs x || beq (places cubes x) (places others x)) (all_places size) q h member))) in
      unmasked (other_mask p) (free p || places others p) (test p both.0) both.1

  agree-from_held : IsSubset (intersection (places cubes) other_mask) (λ p. free p || places others p)
      → IsSubset (intersection (places others) mask) (λ p. free p || places cubes p)
      → agree_outside size (places cubes) (places others) dcs ≡ true
  agree-from_held first second =
      list_all_from (λ p. dcs p || beq (places cubes p) (places others p)) (all_places size) (λ p member.
      ap (λ b. b || beq (places cubes p) (places others p)) (is p (IsPlace-member size p member))
      ∙ both_places (places cubes p) (places others p) (free p) (mask p) (other_mask p) (first p) (second p))

module _ (size : Size) (cubes others : List Cube) (free mask other_mask dcs : Place → Bool) (are : AreCubes size cubes)
    (is : (p : Place) → IsPlace size p → dcs p ≡ all_free (places cubes) (places others) free mask other_mask p) where
  -- what the first half says where it fails
  pub masked_agreement-first : (r : Bool) → r ≡ false → IsTrue r ↔ IsSubset (intersection (places cubes) other_mask) (λ p. free p || places others p)
      → false ≡ agree_outside size (places cubes) (places others) dcs
  masked_agreement-first r off answer = elim (cases_Bool (agree_outside size (places cubes) (places others) dcs)) [
    | inl on ↦ absurd (false≢true (sym off ∙ answer.1 (held-from_agree size cubes others free mask other_mask dcs is are on)))
    | inr failed ↦ sym failed
  ]

  -- and the second decides, where it holds
  pub masked_agreement-second : AreCubes size others → (first : Bool) → first ≡ true → IsTrue first ↔ IsSubset (intersection (places cubes) other_mask) (λ p. free p || places others p)
      → (r : Bool) → IsTrue r ↔ IsSubset (intersection (places others) mask) (λ p. free p || places cubes p)
      → r ≡ agree_outside size (places cubes) (places others) dcs
  masked_agreement-second are_others first held answer r second =
      same_test r (agree_outside size (places cubes) (places others) dcs) second (
        λ on. held-from_agree size others cubes free other_mask mask dcs
            (λ p place. is p place ∙ or_turned (free p) (not (places cubes p || mask p)) (not (places others p || other_mask p))) are_others
            (agree_outside-turned size (places cubes) (places others) dcs on),
        λ h. agree-from_held size cubes others free mask other_mask dcs is (answer.0 held) h,
      )
