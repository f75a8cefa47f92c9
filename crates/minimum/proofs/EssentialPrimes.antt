-- Whether other primes and the DC-set hold a prime.
use Rattle.std.proofs.Common.{◌≡◌, Bool, true, not, ◌||◌, List, ◌++◌, refl, ap, sym, ◌∙◌, inl, inr, ◌↔◌, IsTrue}
use Rattle.std.specs.List.{Contains, filter}
use Rattle.std.specs.Ordering.{is_eq}
use Rattle.std.specs.declared.cmp.Ordering.{Ordering}
use Rattle.std.specs.declared.cmp.Ordering.TheVariants.{Less, Equal, Greater}
use Rattle.std.proofs.lemmas.Bool.{cases_Bool, false≢true, and_parts, and_from, or_cases, not-true, not_from_false}
use Rattle.std.proofs.lemmas.List.Elements.{Contains-append_cases, Contains-append_left, Contains-append_right}
use Rattle.cube.specs.Cube.{Cube, Place, holds, intersection, SameSize, IsCube, IsSubset, IsDisjoint, size_of}
use Rattle.cube.specs.Order.{row_cmp}
use Rattle.cube.specs.Sum.{is_subset}
use Rattle.cube.proofs.Members.{Contains-filter, Contains-filter_cases}
use Rattle.cube.proofs.SumLemmas.{IsSubset-from_test, is_subset-from_fact, implied_at, IsPlace-from_holds}
use Rattle.cover.specs.Cubes.{AreCubes}
use Rattle.cover.specs.Places.{places, is_disjoint}
use Rattle.cover.proofs.Lists.{list_any_from, list_any_witness, all_members, members_all}
use Rattle.cover.proofs.Meeting.{IsDisjoint-from_test, is_disjoint-from_answer}
use Rattle.cover.proofs.Everywhere.{same_test}
use Rattle.cover.proofs.SumOrder.{row_exact}
use Rattle.pla.specs.Sets.{SetLists}
use Rattle.minimum.specs.Primes.{care_on, others, is_essential}
use Rattle.minimum.specs.EssentialPrimes.{intersects_cube, is_rival}

-- cubes that compare as equal are equal
pub equal_from : (c d : Cube) → is_eq (row_cmp d c) ≡ true → d ≡ c
equal_from c d e = row_exact d c (go (row_cmp d c) e)
  where
    go : (o : Ordering) → is_eq o ≡ true → o ≡ Equal
    go Less h = absurd (false≢true h)
    go Equal h = refl
    go Greater h = absurd (false≢true h)

-- ---- the cubes that have a place of a prime

pub touches_from_answer : (c d : Cube) (r : Bool) → SameSize d c → (IsTrue r ↔ IsDisjoint (holds d) (holds c)) → not r ≡ intersects_cube c d
touches_from_answer c d r size h = ap not (sym (is_disjoint-from_answer d c r size h))

touches_at : (c d : Cube) (p : Place) → SameSize d c → holds c p ≡ true → holds d p ≡ true → intersects_cube c d ≡ true
touches_at c d p size in_c in_d = elim (cases_Bool (is_disjoint (size_of c) (holds d) (holds c))) [
  | inl apart ↦ absurd (IsDisjoint-from_test (size_of c) d (holds c) size apart p in_d in_c)
  | inr off ↦ not_from_false (is_disjoint (size_of c) (holds d) (holds c)) off
]

module _ (sets : SetLists) (primes : List Cube) (c : Cube) (cube : IsCube sets.size c) (primes_are : AreCubes sets.size primes) (dc_are : AreCubes sets.size sets.dc)
    (within : IsSubset (holds c) (λ p. places sets.on p || places sets.dc p)) where
  same_size : (d : Cube) → IsCube sets.size d → SameSize d c
  same_size d is = (is.has_size.0 ∙ sym cube.has_size.0, is.has_size.1 ∙ sym cube.has_size.1)

  abbrev rest : List Cube
  rest = filter (is_rival c) primes ++ filter (intersects_cube c) sets.dc

  pub rest_are : AreCubes sets.size rest
  rest_are = members_all (IsCube sets.size) rest (λ d h. elim (Contains-append_cases (filter (is_rival c) primes) (filter (intersects_cube c) sets.dc) d h) [
    | inl prime ↦ all_members (IsCube sets.size) primes primes_are d (Contains-filter_cases (is_rival c) primes d prime).0
    | inr free ↦ all_members (IsCube sets.size) sets.dc dc_are d (Contains-filter_cases (intersects_cube c) sets.dc d free).0
  ])

  in_others : (d : Cube) (p : Place) → Contains (filter (is_rival c) primes) d → holds d p ≡ true → places (others c primes) p ≡ true
  in_others d p h in_d =
      let parts = Contains-filter_cases (is_rival c) primes d h in
      list_any_from (λ e. holds e p) (others c primes) d
      (Contains-filter (λ e. not (is_eq (row_cmp e c))) primes d parts.0 (and_parts (intersects_cube c d) (not (is_eq (row_cmp d c))) parts.1).1) in_d

  to : IsTrue (is_subset sets.size (holds c) (places rest)) → IsTrue (is_subset sets.size (intersection (care_on sets) (holds c)) (places (others c primes)))
  to test = is_subset-from_fact sets.size (intersection (care_on sets) (holds c)) (places (others c primes)) (λ p h.
      let parts = and_parts (care_on sets p) (holds c p) h in
      let w = list_any_witness (λ e. holds e p) rest (IsSubset-from_test sets.size c (places rest) cube.has_size test p parts.1) in
      elim (Contains-append_cases (filter (is_rival c) primes) (filter (intersects_cube c) sets.dc) w.0 w.1) [
        | inl prime ↦ in_others w.0 p prime w.2
        | inr free ↦ absurd (false≢true (sym (not-true (places sets.dc p) (and_parts (places sets.on p) (not (places sets.dc p)) parts.0).1)
            ∙ list_any_from (λ e. holds e p) sets.dc w.0 (Contains-filter_cases (intersects_cube c) sets.dc w.0 free).0 w.2))
      ])

  held_at : IsTrue (is_subset sets.size (intersection (care_on sets) (holds c)) (places (others c primes))) → (p : Place) → holds c p ≡ true → places rest p ≡ true
  held_at test p in_c = elim (cases_Bool (places sets.dc p)) [
    | inl free ↦ (
        let w = list_any_witness (λ e. holds e p) sets.dc free in
        let size = same_size w.0 (all_members (IsCube sets.size) sets.dc dc_are w.0 w.1) in
        list_any_from (λ e. holds e p) rest w.0 (Contains-append_right (filter (is_rival c) primes) (filter (intersects_cube c) sets.dc) w.0
        (Contains-filter (intersects_cube c) sets.dc w.0 w.1 (touches_at c w.0 p size in_c w.2))) w.2)
    | inr off ↦ (
        let on : places sets.on p ≡ true = elim (or_cases (places sets.on p) (places sets.dc p) (within p in_c)) [ inl e ↦ e | inr e ↦ absurd (false≢true (sym off ∙ e)) ] in
        let want : care_on sets p ≡ true = and_from (places sets.on p) (not (places sets.dc p)) on (not_from_false (places sets.dc p) off) in
        let held = implied_at sets.size (intersection (care_on sets) (holds c)) (places (others c primes)) test p (IsPlace-from_holds sets.size c p cube.has_size in_c)
        (and_from (care_on sets p) (holds c p) want in_c) in
        let w = list_any_witness (λ e. holds e p) (others c primes) held in
        let parts = Contains-filter_cases (λ e. not (is_eq (row_cmp e c))) primes w.0 w.1 in
        let size = same_size w.0 (all_members (IsCube sets.size) primes primes_are w.0 parts.0) in
        list_any_from (λ e. holds e p) rest w.0 (Contains-append_left (filter (is_rival c) primes) (filter (intersects_cube c) sets.dc) w.0
        (Contains-filter (is_rival c) primes w.0 parts.0 (and_from (intersects_cube c w.0) (not (is_eq (row_cmp w.0 c))) (touches_at c w.0 p size in_c w.2) parts.1))) w.2)
  ]

  pub essential_test : (all : List Cube) (held : Bool) → all ≡ rest → held ≡ is_subset sets.size (holds c) (places all) → not held ≡ is_essential sets primes c
  essential_test all held e is = ap not (is ∙ ap (λ l. is_subset sets.size (holds c) (places l)) e
      ∙ same_test (is_subset sets.size (holds c) (places rest)) (is_subset sets.size (intersection (care_on sets) (holds c)) (places (others c primes)))
      ((λ test. to test), (λ test. is_subset-from_fact sets.size (holds c) (places rest) (held_at test)))
      ((λ test. test), (λ test. test)))
