-- Rounds that find places outside as they are needed.
use Rattle.std.proofs.Common.{◌≡◌, ℕ, zero, suc, ◌+◌, ◌<◌, true, not, ◌||◌, List, [], ◌∷◌, ◌++◌, Result, Ok, Err, OnOk, Option, None, Some, IfSome, IfNone, length, get_or, take, All, ap, sym, subst, ◌∙◌, arith, inl, inr}
use Rattle.std.specs.List.{Contains, AllZip}
use Rattle.std.proofs.lemmas.Bool.{cases_Bool, false≢true, not_from_false}
use Rattle.std.proofs.lemmas.List.{length-append}
use Rattle.std.proofs.lemmas.List.Elements.{All-more, Contains-append_cases, Contains-append_left}
use Rattle.std.proofs.lemmas.List.Folds.{list_any-append}
use Rattle.cube.specs.Size.{Size}
use Rattle.cube.specs.Cube.{Cube, Place, holds, HasSize, IsCube, IsSubset, IsDisjoint, size_of}
use Rattle.cube.specs.Sum.{complete_sum}
use Rattle.cube.proofs.Members.{Contains-nil}
use Rattle.cube.proofs.SumLemmas.{Contains-complete_sum}
use Rattle.cube.proofs.SymbolOrder.{maximal_in_part}
use Rattle.cover.specs.Cubes.{Cubes, AreCubes}
use Rattle.cover.specs.LeftOut.{IsLeftOut}
use Rattle.cover.specs.Places.{places}
use Rattle.cover.specs.Reduced.{HasSameCubes}
use Rattle.cover.proofs.Lists.{list_any_from, list_any_witness, all_members, members_all}
use Rattle.covering.specs.declared.choice.Choice.{Choice}
use Rattle.pla.specs.Sets.{SetLists}
use Rattle.minimum.specs.Primes.{primes_of}
use Rattle.minimum.specs.Points.{function_of, IsWantedPoint, AreColumnsOf}
use Rattle.growth.specs.Dominating.{IsDominated, primes_outside, IsImplicant}
use Rattle.growth.proofs.Joins.{avoids as avoids_list, avoids_back}
use Rattle.growth.specs.declared.prime.Side.TheVariants.{Outside}
use Rattle.growth.specs.Growth.{on_side, IsGrown}
use Rattle.minimum.specs.declared.as_needed.Known.{Known}
use Rattle.minimum.specs.AsNeeded.{inside_of, primes_inside, AreOutside, IsKnown}
use Rattle.minimum.proofs.PickedPoints.{Contains-one}

-- ---- places of both lists

pub place_of_both : (sets : SetLists) (p : Place) → places (sets.on ++ sets.dc) p ≡ (places sets.on p || places sets.dc p)
place_of_both sets p = list_any-append (λ (c : Cube). holds c p) sets.on sets.dc

pub on_cubes : (sets : SetLists) (all : Cubes) (size : Size) → all ≡ inside_of sets → size ≡ all.size → AreCubes size all.cubes → AreCubes sets.size sets.on
on_cubes sets all size is same are = members_all (IsCube sets.size) sets.on (λ c k.
    subst (λ z. IsCube z c) (same ∙ ap (λ (l : Cubes). l.size) is) (all_members (IsCube size) all.cubes are c (subst (λ l. Contains l c) (sym (ap (λ (l : Cubes). l.cubes) is)) (Contains-append_left sets.on sets.dc c k))))

pub size_is : (size : Size) (c : Cube) → HasSize c size → size ≡ size_of c
size_is size c h = λ i. record { inputs = sym h.0 i; outputs = sym h.1 i }

-- ---- cubes with places outside

pub outside_none : (all new : Cubes) → new.size ≡ all.size → new.cubes ≡ [] → AreOutside all new
outside_none all new size e = record { size = size; apart = λ p h. absurd (false≢true (sym (ap (λ l. places l p) e) ∙ h)) }

pub outside_more : (all old new : Cubes) (cube : Cube) → new.size ≡ old.size → new.cubes ≡ old.cubes ++ cube ∷ [] → IsDisjoint (holds cube) (places all.cubes) → AreOutside all old → AreOutside all new
outside_more all old new cube size cubes apart h = record {
  size = size ∙ h.size;
  apart = λ p there inside.
      let w = list_any_witness (λ c. holds c p) new.cubes there in
      elim (Contains-append_cases old.cubes (cube ∷ []) w.0 (subst (λ l. Contains l w.0) cubes w.1)) [
        | inl k ↦ h.apart p (list_any_from (λ c. holds c p) old.cubes w.0 k w.2) inside
        | inr k ↦ apart p (ap (λ d. holds d p) (Contains-one cube w.0 k) ∙ w.2) inside
      ];
}

pub outside_grown : (all old new : Cubes) (part cube : Cube) → IsGrown all.size (on_side Outside all.cubes) part cube all.size.inputs all.size.outputs → IsDisjoint (holds part) (places all.cubes) → new.size ≡ old.size
    → new.cubes ≡ old.cubes ++ cube ∷ [] → AreOutside all old → AreOutside all new
outside_grown all old new part cube grown apart size cubes h =
    outside_more all old new cube size cubes (avoids_back all cube (grown.within (avoids_list all part apart))) h

pub on_ok_two : {X Y : Type 0} (r : Result X Y) (P Q S : Type 0) → (P → Q → S) → OnOk r P → OnOk r Q → OnOk r S
on_ok_two (Ok x) P Q S f p q = f p q
on_ok_two (Err e) P Q S f p q = tt

-- ---- parts that are left out

pub all_within : (cubes rows : List Cube) → All (λ d. IsSubset (holds d) (places rows)) cubes → IsSubset (places cubes) (places rows)
all_within cubes rows all p inside =
    let w = list_any_witness (λ c. holds c p) cubes inside in
    all_members (λ d. IsSubset (holds d) (places rows)) cubes all w.0 w.1 p w.2

pub have_size : (size other : Size) (cubes : List Cube) → size ≡ other → AreCubes size cubes → All (λ d. HasSize d other) cubes
have_size size other cubes e are k d lt = subst (λ z. HasSize (get_or cubes k d) z) e (are k d lt).has_size

pub zip_at : (R : Cube → Option Cube → Type 0) (cubes : List Cube) (parts : List (Option Cube)) → AllZip R cubes parts → (i : ℕ) (d : Cube) (o : Option Cube) → i < length parts → o ≡ get_or parts i o
    → (i < length cubes) × R (get_or cubes i d) o
zip_at R [] [] h i d o lt e = absurd (omega (arith, lt))
zip_at R [] (part ∷ parts) h i d o lt e = absurd h
zip_at R (c ∷ cubes) [] h i d o lt e = absurd h
zip_at R (c ∷ cubes) (part ∷ parts) h zero d o lt e = (omega arith, subst (R c) (sym e) h.0)
zip_at R (c ∷ cubes) (part ∷ parts) h (suc i) d o lt e = let r = zip_at R cubes parts h.1 i d o (omega (arith, lt)) e in (omega (arith, r.0), r.1)

-- parts of the first n cubes that a list leaves out, one of each that it does not hold
pub record ArePartsOf (list : Cubes) (cubes : List Cube) (n : ℕ) (parts : List Cube) : Type 0 where
  pub held : parts ≡ [] → All (λ d. IsSubset (holds d) (places list.cubes)) (take n cubes)
  pub are_cubes : (c : Cube) → Contains parts c → IsCube list.size c
  pub apart : (c : Cube) → Contains parts c → IsDisjoint (holds c) (places list.cubes)

module _ (list : Cubes) (cubes : List Cube) where
  pub parts_none : (parts : List Cube) → parts ≡ [] → ArePartsOf list cubes 0 parts
  parts_none parts e = subst (ArePartsOf list cubes 0) (sym e) (record {
    held = λ none' k d lt. absurd (omega (arith, lt));
    are_cubes = λ c k. absurd (Contains-nil c k);
    apart = λ c k. absurd (Contains-nil c k);
  })

  module _ (found : List (Option Cube)) (n : ℕ) (lt : n < length found) (parts : List Cube) (so : ArePartsOf list cubes n parts) where
    pub parts_held : AllZip (λ d part. IfNone part (IsSubset (holds d) (places list.cubes))) cubes found → None ≡ get_or found n None → ArePartsOf list cubes (n + 1) parts
    parts_held all e =
        let d : Cube = record { symbols = []; outputs = [] } in
        let at = zip_at (λ c part. IfNone part (IsSubset (holds c) (places list.cubes))) cubes found all n d None lt e in
        record {
          held = λ none'. All-more (λ c. IsSubset (holds c) (places list.cubes)) cubes n d at.0 (so.held none') at.1;
          are_cubes = so.are_cubes;
          apart = so.apart;
        }

    pub parts_left : AllZip (λ d part. IfSome part (IsLeftOut list.size list.cubes d)) cubes found → (part : Cube) (new : List Cube) → Some part ≡ get_or found n (Some part) → new ≡ parts ++ part ∷ [] → ArePartsOf list cubes (n + 1) new
    parts_left all part new e more =
        let at = zip_at (λ c o. IfSome o (IsLeftOut list.size list.cubes c)) cubes found all n (record { symbols = []; outputs = [] }) (Some part) lt e in
        record {
          held = λ none'. absurd (
              let long = length-append parts (part ∷ []) in
              let same = ap length (sym more ∙ none') in
              omega (arith, long, same));
          are_cubes = λ c k. elim (Contains-append_cases parts (part ∷ []) c (subst (λ l. Contains l c) more k)) [
            | inl old ↦ so.are_cubes c old
            | inr one ↦ subst (IsCube list.size) (Contains-one part c one) at.1.is_cube
          ];
          apart = λ c k. elim (Contains-append_cases parts (part ∷ []) c (subst (λ l. Contains l c) more k)) [
            | inl old ↦ so.apart c old
            | inr one ↦ subst (λ d. IsDisjoint (holds d) (places list.cubes)) (Contains-one part c one) at.1.outside
          ];
        }

-- ---- points

pub apart_more : (sets : SetLists) (essential old new : List Cube) (point : Cube) → new ≡ old ++ point ∷ [] → IsWantedPoint (function_of sets) point → IsDisjoint (holds point) (places essential)
    → ((c x : Cube) → Contains essential c → Contains old x → IsSubset (holds x) (holds c) → ⊥) → (c x : Cube) → Contains essential c → Contains new x → IsSubset (holds x) (holds c) → ⊥
apart_more sets essential old new point e wanted apart h c x own k sub = elim (Contains-append_cases old (point ∷ []) x (subst (λ l. Contains l x) e k)) [
  | inl m ↦ h c x own m sub
  | inr m ↦
      let held : holds c wanted.place ≡ true = sub wanted.place (ap (λ d. holds d wanted.place) (sym (Contains-one point x m)) ∙ wanted.at.held) in
      apart wanted.place wanted.at.held (list_any_from (λ d. holds d wanted.place) essential c own held)
]

-- no place outside, and no point
pub nothing_known : (choice : Choice) (sets : SetLists) (essential : List Cube) (known : Known) → known.outside ≡ record { size = sets.size; cubes = [] } → known.found.points.items ≡ [] → known.found.columns.size ≡ sets.size
    → known.found.columns.cubes ≡ [] → IsKnown choice sets essential known
nothing_known choice sets essential known outside points size columns = record {
  outside = outside_none (inside_of sets) known.outside (ap (λ (l : Cubes). l.size) outside) (ap (λ (l : Cubes). l.cubes) outside);
  found = record {
    wanted = λ x k. absurd (Contains-nil x (subst (λ l. Contains l x) points k));
    primes = λ c k. absurd (Contains-nil c (subst (λ l. Contains l c) columns k));
    dominated = λ x c k. absurd (Contains-nil x (subst (λ l. Contains l x) points k));
    size = size;
  };
  apart = λ c x own k. absurd (Contains-nil x (subst (λ l. Contains l x) points k));
}

-- ---- columns that avoid some places outside

pub primes_are : (sets : SetLists) (all : Cubes) → all ≡ inside_of sets → primes_inside all ≡ primes_of sets
primes_are sets all is = ap (λ (l : Cubes). complete_sum l.size (places l.cubes)) is ∙ ap (complete_sum sets.size) (λ i p. place_of_both sets p i)

module _ (all outside : Cubes) (out : AreOutside all outside) where
  avoids : (p : Place) → places all.cubes p ≡ true → not (places outside.cubes p) ≡ true
  avoids p inside = elim (cases_Bool (places outside.cubes p)) [ inl e ↦ absurd (out.apart p e inside) | inr e ↦ not_from_false (places outside.cubes p) e ]

  -- those that are held are primes
  pub columns_are_primes : (choice : Choice) (points : List Cube) (point : Cube) (columns row : List Cube) → HasSameCubes columns row → ((c : Cube) → Contains columns c → Contains (primes_outside outside) c)
      → ((c : Cube) → IsCube outside.size c → IsImplicant outside c → IsSubset (holds point) (holds c) → IsDominated choice points columns c) → All (λ d. IsSubset (holds d) (places all.cubes)) row
      → AreColumnsOf choice (primes_inside all) points point row
  columns_are_primes choice points point columns row same primes dominated within = record {
    primes = λ c k.
        let member = subst (λ z. Contains (complete_sum z (λ p. not (places outside.cubes p))) c) out.size (primes c ((same c).1 k)) in
        (Contains-complete_sum all.size (places all.cubes) c).1
        (maximal_in_part all.size (λ p. not (places outside.cubes p)) (places all.cubes) c (λ p place inside. avoids p inside) ((Contains-complete_sum all.size (λ p. not (places outside.cubes p)) c).0 member)
        (all_members (λ d. IsSubset (holds d) (places all.cubes)) row within c k));
    dominated = λ c member sub.
        let is = (Contains-complete_sum all.size (places all.cubes) c).0 member in
        let d = dominated c (subst (λ z. IsCube z c) (sym out.size) is.is_cube) (λ p h. avoids p (is.within p h)) sub in
        record { column = d.column; member = (same d.column).0 d.member; dominates = d.dominates };
  }
