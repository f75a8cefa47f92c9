-- Regions that are filled ON cube by ON cube.
use Rattle.std.proofs.Common.{◌≡◌, ◌⊎◌, ℕ, ◌+◌, ◌<◌, ◌≤◌, Bool, true, false, ◌||◌, List, [], ◌∷◌, length, take, get_or, All, map, inl, inr, ap, sym, ◌∙◌}
use Rattle.std.proofs.lemmas.Bool.{false≢true, and_parts, and_from, or_cases}
use Rattle.std.proofs.lemmas.List.{take_more, take_all}
use Rattle.std.specs.List.{list_any}
use Rattle.std.proofs.lemmas.List.Folds.{list_any-append}
use Rattle.cube.specs.Pattern.{matches}
use Rattle.cube.specs.Cube.{Cube, Place, holds, intersection, SameSize, IsDisjoint}
use Rattle.cube.proofs.HoldsLemmas.{pick, matches-map_pick}
use Rattle.cover.specs.Places.{places}
use Rattle.cover.proofs.Lists.{list_any_from}
use Rattle.cover.proofs.ContainmentLemmas.{cube_at-is}
use Rattle.minimum.specs.PrimeRows.{holds_at, AreCandidates, IsSplit, AddsRows}
use Rattle.minimum.proofs.Numbers.{numbered, has_member}

-- ---- a part of a region

candidates_part : (cubes : List Cube) (region part : Cube) (numbers : List ℕ) → ((p : Place) → holds part p ≡ true → holds region p ≡ true) → AreCandidates cubes region numbers → AreCandidates cubes part numbers
candidates_part cubes region part numbers within candidates = record {
  rises = candidates.rises;
  below = candidates.below;
  all = λ i p in_part in_cube. candidates.all i p (within p in_part) in_cube;
}

sizes_part : (cubes : List Cube) (region part : Cube) → SameSize part region → All (λ d. SameSize d region) cubes → All (λ d. SameSize d part) cubes
sizes_part cubes region part same sizes i d lt = let own = sizes i d lt in (own.0 ∙ sym same.0, own.1 ∙ sym same.1)

pub split_part : (primes on dc : List Cube) (region part c : Cube) (np non ndc : List ℕ) → IsSplit primes on dc region np non ndc → SameSize part region
    → ((p : Place) → holds part p ≡ intersection (holds c) (holds region) p) → IsSplit primes on dc part np non ndc
split_part primes on dc region part c np non ndc s same is = record {
  one = λ j k on_j on_k. s.one j k (output_of j on_j) (output_of k on_k);
  enough = s.enough;
  primes_size = sizes_part primes region part same s.primes_size;
  on_size = sizes_part on region part same s.on_size;
  dc_size = sizes_part dc region part same s.dc_size;
  primes_candidates = candidates_part primes region part np within s.primes_candidates;
  on_candidates = candidates_part on region part non within s.on_candidates;
  dc_candidates = candidates_part dc region part ndc within s.dc_candidates;
}
  where
    within : (p : Place) → holds part p ≡ true → holds region p ≡ true
    within p h = (and_parts (holds c p) (holds region p) (sym (is p) ∙ h)).1

    output_of : (j : ℕ) → get_or part.outputs j false ≡ true → get_or region.outputs j false ≡ true
    output_of j h =
        let p : Place = record { point = map pick part.symbols; output = j } in
        let in_part = and_from (matches part.symbols p.point) (get_or part.outputs j false) (matches-map_pick part.symbols) h in
        (and_parts (matches region.symbols p.point) (get_or region.outputs j false) (within p in_part)).1

-- ---- the parts of the first of some ON cubes

-- a place of the region that one of the first k of these cubes holds
abbrev pub among : List Cube → Cube → List ℕ → ℕ → Place → Bool
among cubes region numbers k = intersection (holds region) (λ p. list_any (λ i. holds_at cubes i p) (take k numbers))

module _ (primes on dc : List Cube) (region : Cube) (numbers : List ℕ) where
  module _ (k : ℕ) (lt : k < length numbers) (c : Cube) (below : get_or numbers k 0 < length on) (at : c ≡ get_or on (get_or numbers k 0) c) where
    next_cases : (p : Place) → among on region numbers (k + 1) p ≡ true → (among on region numbers k p ≡ true) ⊎ (holds c p ≡ true)
    next_cases p h =
        let held : ℕ → Bool = λ i. holds_at on i p in
        let parts = and_parts (holds region p) (list_any held (take (k + 1) numbers)) h in
        let split : list_any held (take k numbers) || (held (get_or numbers k 0) || false) ≡ true =
        sym (list_any-append held (take k numbers) (get_or numbers k 0 ∷ [])) ∙ ap (list_any held) (sym (take_more numbers k 0 lt)) ∙ parts.1 in
        elim (or_cases (list_any held (take k numbers)) (held (get_or numbers k 0) || false) split) [
          | inl before ↦ inl (and_from (holds region p) (list_any held (take k numbers)) parts.0 before)
          | inr here ↦ elim (or_cases (held (get_or numbers k 0)) false here) [
            | inl own ↦ inr (ap (λ d. holds d p) (cube_at-is on (get_or numbers k 0) c below at) ∙ own)
            | inr off ↦ absurd (false≢true off)
          ]
        ]

    pub parted_some : (part : Cube) (old mid new : List (List ℕ)) → ((p : Place) → holds part p ≡ intersection (holds c) (holds region) p)
        → AddsRows primes on dc (among on region numbers k) old mid → AddsRows primes on dc (holds part) mid new → AddsRows primes on dc (among on region numbers (k + 1)) old new
    parted_some part old mid new is one two = record {
      kept = λ row h. two.kept row (one.kept row h);
      demands = λ h. two.demands (one.demands h);
      has_rows = λ p h want. elim (next_cases p h) [
        | inl before ↦ (let r = one.has_rows p before want in (r.0, two.kept r.0 r.1, r.2))
        | inr own ↦ two.has_rows p (is p ∙ and_from (holds c p) (holds region p) own (and_parts (holds region p) _ h).0) want
      ];
    }

    pub parted_skip : (old new : List (List ℕ)) → IsDisjoint (holds c) (holds region) → AddsRows primes on dc (among on region numbers k) old new
        → AddsRows primes on dc (among on region numbers (k + 1)) old new
    parted_skip old new apart one = record {
      kept = one.kept;
      demands = one.demands;
      has_rows = λ p h want. elim (next_cases p h) [
        | inl before ↦ one.has_rows p before want
        | inr own ↦ absurd (apart p own (and_parts (holds region p) _ h).0)
      ];
    }

  pub parted_all : (k : ℕ) (old new : List (List ℕ)) → length numbers ≤ k → AreCandidates on region numbers → AddsRows primes on dc (among on region numbers k) old new
      → AddsRows primes on dc (holds region) old new
  parted_all k old new past candidates so = record {
    kept = so.kept;
    demands = so.demands;
    has_rows = λ p in_region want.
        let n = numbered on p (and_parts (places on p) _ want).0 in
        so.has_rows p (and_from (holds region p) (list_any (λ i. holds_at on i p) (take k numbers)) in_region
        (ap (list_any (λ i. holds_at on i p)) (take_all k numbers past)
        ∙ list_any_from (λ i. holds_at on i p) numbers n.0 (has_member n.0 numbers (candidates.all n.0 p in_region n.1)) n.1)) want;
  }
