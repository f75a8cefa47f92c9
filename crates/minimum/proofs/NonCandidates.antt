-- Primes that hold no cube of the ON-set alone are not essential.
use Rattle.std.proofs.Common.{◌≡◌, ◌≢◌, ℕ, ◌+◌, ◌<◌, Bool, true, false, not, ◌||◌, List, [], length, refl, ap, sym, subst, ◌∙◌, All, inl, inr, arith}
use Rattle.std.specs.Ordering.{is_eq, ordering_reverse}
use Rattle.std.proofs.lemmas.Bool.{cases_eq, cases_lt, and_parts, or_left}
use Rattle.std.proofs.lemmas.List.{get_or_default}
use Rattle.std.proofs.lemmas.Map.Keys.{Less-from_sorted}
use Rattle.cube.specs.Size.{Size}
use Rattle.cube.specs.Cube.{Cube, Place, holds, intersection, SameSize, IsCube, IsSubset, size_of}
use Rattle.cube.specs.Order.{row_cmp}
use Rattle.cube.proofs.Members.{Contains-filter}
use Rattle.cube.proofs.SumLemmas.{IsSubset-from_test, is_subset-from_fact, complete_sum-over, sorted-complete_sum, row_total}
use Rattle.cover.specs.Cubes.{AreCubes}
use Rattle.cover.specs.Places.{places}
use Rattle.cover.specs.Marks.{cube_at}
use Rattle.cover.proofs.Lists.{list_any_from}
use Rattle.pla.specs.Sets.{SetLists}
use Rattle.covering.specs.Search.{marked}
use Rattle.minimum.specs.PrimeRows.{contains_region}
use Rattle.minimum.specs.EssentialPrimes.{HasOther, UnmarksCandidate, AreNonCandidates}
use Rattle.minimum.specs.Primes.{primes_of, care_on, others, is_essential}
use Rattle.minimum.proofs.Numbers.{numbered, holds_at-below, cube_at-all, cube_at-member, places_at}

-- one more cube of the ON-set
pub non_candidates_next : (primes on : List Cube) (i : ℕ) (old new : List Bool) → AreNonCandidates primes on i old → UnmarksCandidate primes (cube_at on i) old new → AreNonCandidates primes on (i + 1) new
non_candidates_next primes on i old new before step k lt n n_lt m s = elim (cases_lt k i) [
  | inl low ↦ before k low n n_lt (step.falls n m) s
  | inr high ↦ (
      let same : k ≡ i = omega arith in
      subst (λ j. HasOther primes (cube_at on j) n) (sym same) (step.others n n_lt m (subst (λ j. contains_region primes (cube_at on j) n ≡ true) same s)))
]

-- ---- what that says of essential primes

module _ (sets : SetLists) (on_are : AreCubes sets.size sets.on) (n : ℕ) (n_lt : n < length (primes_of sets)) where
  abbrev all : List Cube
  all = primes_of sets

  differ : (m : ℕ) → m < length all → m ≢ n → not (is_eq (row_cmp (cube_at all m) (cube_at all n))) ≡ true
  differ m lt apart = elim (cases_lt m n) [
    | inl low ↦ ap (λ o. not (is_eq o)) (Less-from_sorted row_cmp all m n (record { symbols = []; outputs = [] }) (sorted-complete_sum sets.size (λ p. places sets.on p || places sets.dc p)) low n_lt)
    | inr high ↦ ap (λ o. not (is_eq o)) (row_total.antisymm (cube_at all m) (cube_at all n)
        ∙ ap ordering_reverse (Less-from_sorted row_cmp all n m (record { symbols = []; outputs = [] }) (sorted-complete_sum sets.size (λ p. places sets.on p || places sets.dc p)) (omega (arith, apart)) lt))
  ]

  in_others : (m : ℕ) (p : Place) → m < length all → m ≢ n → holds (cube_at all m) p ≡ true → places (others (cube_at all n) all) p ≡ true
  in_others m p lt apart h =
      list_any_from (λ e. holds e p) (others (cube_at all n) all) (cube_at all m)
      (Contains-filter (λ e. not (is_eq (row_cmp e (cube_at all n)))) all (cube_at all m) (cube_at-member all m lt) (differ m lt apart)) h

  module _ (marks : List Bool) (non_candidates : AreNonCandidates all sets.on (length sets.on) marks) (mark : marked marks n ≡ true) where
    held : (p : Place) → intersection (care_on sets) (holds (cube_at all n)) p ≡ true → places (others (cube_at all n) all) p ≡ true
    held p h =
        let want = and_parts (care_on sets p) (holds (cube_at all n) p) h in
        let on = and_parts (places sets.on p) (not (places sets.dc p)) want.0 in
        let at = numbered sets.on p on.0 in
        let k = at.0 in
        let d = cube_at sets.on k in
        let k_lt = holds_at-below sets.on k p at.1 in
        let over = complete_sum-over sets.size (λ q. places sets.on q || places sets.dc q) d (cube_at-all (IsCube sets.size) sets.on k k_lt on_are)
        (λ q in_d. or_left (places sets.on q) (places sets.dc q) (places_at sets.on k q in_d)) in
        let m = over.1.0 in
        let m_lt = over.1.1 in
        let is_m : cube_at all m ≡ over.0 = get_or_default all m (record { symbols = []; outputs = [] }) over.0 m_lt ∙ over.1.2 in
        elim (cases_eq m n) [
          | inr apart ↦ in_others m p m_lt apart (ap (λ c. holds c p) is_m ∙ over.2 p at.1)
          | inl same ↦ (
              let within : IsSubset (holds d) (holds (cube_at all n)) = subst (λ j. IsSubset (holds d) (holds (cube_at all j))) same (subst (λ c. IsSubset (holds d) (holds c)) (sym is_m) over.2) in
              let other = non_candidates k k_lt n n_lt mark (is_subset-from_fact (size_of d) (holds d) (holds (cube_at all n)) within) in
              in_others other.number p other.below other.apart (IsSubset-from_test (size_of d) d (holds (cube_at all other.number)) (refl, refl) other.contains_region p at.1))
        ]

    pub not_essential : is_essential sets all (cube_at all n) ≡ false
    not_essential = ap not (is_subset-from_fact sets.size (intersection (care_on sets) (holds (cube_at all n))) (places (others (cube_at all n) all)) held)

-- cubes of one size
pub same_sizes : (size : Size) (primes on : List Cube) → AreCubes size primes → AreCubes size on → All (λ c. All (λ d. SameSize d c) primes) on
same_sizes size primes on primes_are on_are k c k_lt j d j_lt =
    let a = (primes_are j d j_lt).has_size in
    let b = (on_are k c k_lt).has_size in
    (a.0 ∙ sym b.0, a.1 ∙ sym b.1)
