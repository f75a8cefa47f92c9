-- Points that are picked, and the primes that contain them.
use Rattle.std.proofs.Common.{◌≡◌, ◌≢◌, ℕ, suc, ◌<◌, ◌⊎◌, Bool, true, false, cond, not, ◌&&◌, List, [], ◌∷◌, ◌++◌, length, map, get_or, All, refl, ap, ap₂, sym, subst, ◌∙◌, arith, inl, inr}
use Rattle.std.specs.Prelude.{filter}
use Rattle.std.specs.List.{Contains, range_with_len}
use Rattle.std.proofs.lemmas.Bool.{cases_Bool, false≢true, and_parts, not-true, both_ways}
use Rattle.std.proofs.lemmas.List.{get_or-map}
use Rattle.std.proofs.lemmas.List.FromFn.{get_or-map-range_with_len}
use Rattle.std.proofs.lemmas.List.Elements.{All-filter, Contains-append_cases, Contains-append_left, Contains-append_right, Contains-push_cases}
use Rattle.cube.specs.Size.{Size}
use Rattle.cube.specs.declared.symbol.Symbol.{Symbol}
use Rattle.cube.specs.declared.symbol.Symbol.TheVariants.{Dash, Zero, One}
use Rattle.cube.specs.Pattern.{agrees, matches}
use Rattle.cube.specs.Cube.{Cube, Place, holds, SameSize, IsCube, IsPlace, IsSubset, size_of}
use Rattle.cube.proofs.HoldsLemmas.{pick}
use Rattle.cube.proofs.Members.{Contains-nil, Contains-cases, Contains-filter, Contains-filter_cases}
use Rattle.cube.proofs.SharpLemmas.{some_true}
use Rattle.cube.specs.Sum.{is_subset, complete_sum}
use Rattle.cube.proofs.SumLemmas.{Contains-complete_sum, IsPlace-from_holds, IsSubset-from_test, is_subset-from_fact, implied_at}
use Rattle.cube.proofs.SymbolOrder.{symbols_same, same_symbols_in_sum}
use Rattle.cover.specs.Cubes.{AreCubes, Cubes}
use Rattle.cover.specs.Places.{places}
use Rattle.cover.specs.Contained.{is_within}
use Rattle.cover.specs.Marks.{cube_at}
use Rattle.cover.specs.Reduced.{HasSameCubes}
use Rattle.cover.proofs.ContainmentLemmas.{All-range}
use Rattle.cover.proofs.Lists.{all_members, members_all, list_any_from, list_any_witness}
use Rattle.cover.proofs.OverRegion.{within_from_fact}
use Rattle.cover.proofs.Regions.{place_at}
use Rattle.pla.specs.Sets.{SetLists}
use Rattle.covering.specs.declared.choice.Choice.{Choice}
use Rattle.covering.specs.declared.choice.Choice.TheVariants.{First, Literals}
use Rattle.minimum.specs.Primes.{care_on, primes_of}
use Rattle.minimum.specs.PrimeRows.{contains_region, has_output, with_output, HasOneOutput}
use Rattle.minimum.specs.declared.points.source.Source.{Source}
use Rattle.minimum.specs.declared.points.picked_points.PickedPoints.{PickedPoints}
use Rattle.minimum.specs.Points.{Function, function_of, function_by, lists_of, source_primes, StandsFor, IsFound, IsPointAt, IsWantedPoint, AreDominating, AreColumnsOf, holders, IsOnePoint}
use Rattle.growth.specs.Dominating.{IsDominated, IsAsGood}
use Rattle.minimum.proofs.PrimeRows.{spans_holds}

-- ---- a point more, with its columns

module _ (choice : Choice) (points more columns row all : List Cube) (point : Cube) (points_is : more ≡ points ++ point ∷ []) (columns_is : all ≡ columns ++ row) where
  old_or_new : (x : Cube) → Contains more x → Contains points x ⊎ (point ≡ x)
  old_or_new x h = elim (Contains-push_cases points point x (subst (λ l. Contains l x) points_is h)) [ inl k ↦ inl k | inr e ↦ inr e ]

  in_row : (c : Cube) → IsDominated choice more row c → IsDominated choice more all c
  in_row c d = record {
    column = d.column;
    member = subst (λ l. Contains l d.column) (sym columns_is) (Contains-append_right columns row d.column d.member);
    dominates = d.dominates;
  }

  still : (c : Cube) → (IsSubset (holds point) (holds c) → ⊥) → IsDominated choice points columns c → IsDominated choice more all c
  still c lacks d = record {
    column = d.column;
    member = subst (λ l. Contains l d.column) (sym columns_is) (Contains-append_left columns row d.column d.member);
    dominates = record {
      over = λ x h sub. elim (old_or_new x h) [ inl k ↦ d.dominates.over x k sub | inr e ↦ absurd (lacks (subst (λ y. IsSubset (holds y) (holds c)) (sym e) sub)) ];
      good = d.dominates.good;
    };
  }

  -- a cube that contains the new point has a new column, and another one its old column
  pub dominated_with : (c : Cube) → (IsSubset (holds point) (holds c) → IsDominated choice more row c) → ((x : Cube) → Contains points x → IsSubset (holds x) (holds c) → IsDominated choice points columns c)
      → (x : Cube) → Contains more x → IsSubset (holds x) (holds c) → IsDominated choice more all c
  dominated_with c of_new of_old x h sub = elim (cases_Bool (is_subset (size_of point) (holds point) (holds c))) [
    | inl e ↦ in_row c (of_new (IsSubset-from_test (size_of point) point (holds c) (refl, refl) e))
    | inr e ↦ (
        let lacks : IsSubset (holds point) (holds c) → ⊥ = λ inside. both_ways _ e (is_subset-from_fact (size_of point) (holds point) (holds c) inside) in
        still c lacks (elim (old_or_new x h) [ inl k ↦ of_old x k sub | inr f ↦ absurd (lacks (subst (λ y. IsSubset (holds y) (holds c)) (sym f) sub)) ]))
  ]

-- ---- one point

one_bit : (s : Symbol) (a b : Bool) → s ≢ Dash → agrees s a ≡ true → agrees s b ≡ true → a ≡ b
one_bit Dash a b h e f = absurd (h refl)
one_bit Zero a b h e f = not-true a e ∙ sym (not-true b f)
one_bit One a b h e f = e ∙ sym f

one_point : (ss : List Symbol) (xs ys : List Bool) → ((k : ℕ) → k < length ss → get_or ss k Dash ≢ Dash) → matches ss xs ≡ true → matches ss ys ≡ true → xs ≡ ys
one_point [] [] [] h e f = refl
one_point [] (x ∷ xs) ys h e f = absurd (false≢true e)
one_point [] [] (y ∷ ys) h e f = absurd (false≢true f)
one_point (s ∷ ss) [] ys h e f = absurd (false≢true e)
one_point (s ∷ ss) (x ∷ xs) [] h e f = absurd (false≢true f)
one_point (s ∷ ss) (x ∷ xs) (y ∷ ys) h e f =
    let a = and_parts (agrees s x) (matches ss xs) e in
    let b = and_parts (agrees s y) (matches ss ys) f in
    ap₂ (λ z zs. z ∷ zs) (one_bit s x y (h 0 (omega arith)) a.0 b.0) (one_point ss xs ys (λ k lt. h (suc k) (omega arith)) a.1 b.1)

one_place : (c : Cube) (p q : Place) → IsOnePoint c → HasOneOutput c → holds c p ≡ true → holds c q ≡ true → p ≡ q
one_place c p q point one e f =
    let a = and_parts (matches c.symbols p.point) (get_or c.outputs p.output false) e in
    let b = and_parts (matches c.symbols q.point) (get_or c.outputs q.output false) f in
    let points : p.point ≡ q.point = one_point c.symbols p.point q.point point a.0 b.0 in
    let outputs : p.output ≡ q.output = one p.output q.output a.1 b.1 in
    λ i. record { point = points i; output = outputs i }

pub point_at : (size : Size) (c : Cube) → IsCube size c → IsOnePoint c → HasOneOutput c → (p : Place) × IsPointAt c p
point_at size c cube point one =
    let j = some_true c.outputs cube.some_output in
    let p : Place = record { point = map pick c.symbols; output = j.0 } in
    let held : holds c p ≡ true = place_at c j.0 j.1 in
    (p, record { held = held; alone = λ q h. one_place c q p point one h held })

-- ---- sizes, and wanted places

pub sizes_for : (size : Size) (cubes : List Cube) (region : Cube) → AreCubes size cubes → IsCube size region → All (λ d. SameSize d region) cubes
sizes_for size cubes region are cube k d lt = let own = are k d lt in (own.has_size.0 ∙ sym cube.has_size.0, own.has_size.1 ∙ sym cube.has_size.1)

pub care_parts : (sets : SetLists) (p : Place) → care_on sets p ≡ true → (places sets.on p ≡ true) × (not (places sets.dc p) ≡ true)
care_parts sets p want = and_parts (places sets.on p) (not (places sets.dc p)) want

-- the lists alone say which places are wanted
pub wanted_by : (sets : SetLists) (on dc : Cubes) → on ≡ record { size = sets.size; cubes = sets.on } → dc ≡ record { size = sets.size; cubes = sets.dc } → (p : Place) → care_on (lists_of on dc) p ≡ care_on sets p
wanted_by sets on dc e f p = ap₂ (λ (a b : Cubes). places a.cubes p && not (places b.cubes p)) e f

-- what lies in a list and in the DC list holds wanted places by the list
pub wanted_in : (sets : SetLists) (list held : List Cube) → held ≡ list ++ sets.dc → IsSubset (places sets.on) (places held) → IsSubset (care_on sets) (places list)
wanted_in sets list held e sub p want =
    let w = list_any_witness (λ c. holds c p) held (sub p (care_parts sets p want).0) in
    elim (Contains-append_cases list sets.dc w.0 (subst (λ l. Contains l w.0) e w.1)) [
      | inl k ↦ list_any_from (λ c. holds c p) list w.0 k w.2
      | inr k ↦ absurd (both_ways (places sets.dc p) (not-true (places sets.dc p) (care_parts sets p want).1) (list_any_from (λ c. holds c p) sets.dc w.0 k w.2))
    ]

-- a list of cubes each of which a list holds, by their numbers
pub all_held : (size : Size) (cubes held : List Cube) (flags : List Bool) → AreCubes size cubes → flags ≡ map (λ d. is_subset size (holds d) (places held)) cubes → ((j : ℕ) → j < length cubes → get_or flags j false ≡ true)
    → IsSubset (places cubes) (places held)
all_held size cubes held flags are e all p inside =
    let w = list_any_witness (λ c. holds c p) cubes inside in
    let at = w.1 in
    let f : Cube → Bool = λ d. is_subset size (holds d) (places held) in
    let yes : f w.0 ≡ true = ap f (sym at.2) ∙ sym (get_or-map f cubes at.0 w.0 false at.1) ∙ ap (λ l. get_or l at.0 false) (sym e) ∙ all at.0 at.1 in
    implied_at size (holds w.0) (places held) yes p (IsPlace-from_holds size w.0 p (all_members (IsCube size) cubes are w.0 at).has_size w.2) w.2

-- ---- a point more

pub Contains-one : (x y : Cube) → Contains (x ∷ []) y → x ≡ y
Contains-one x y h = elim (Contains-cases x [] y h) [ inl e ↦ e | inr none' ↦ absurd (Contains-nil y none') ]

module _ (sets : SetLists) (source : Source) where
  abbrev function : Function
  function = function_by sets source

  pub wanted_point : (point : Cube) → IsCube sets.size point → HasOneOutput point → IsOnePoint point → ((p : Place) → holds point p ≡ true → care_on sets p ≡ true) → IsWantedPoint function point
  wanted_point point is_cube one literals want =
      let p = point_at sets.size point is_cube literals one in
      record { is_cube = is_cube; place = p.0; at = p.1; wanted = want p.0 p.1.held }

  -- the points with one more are cubes
  pub points_with : (choice : Choice) (point : Cube) (old : PickedPoints) (points : List Cube) → IsWantedPoint function point → points ≡ old.points.items ++ point ∷ [] → IsFound choice function old → AreCubes sets.size points
  points_with choice point old points wanted e was = members_all (IsCube sets.size) points (λ x h. elim (Contains-append_cases old.points.items (point ∷ []) x (subst (λ l. Contains l x) e h)) [
    | inl k ↦ (was.wanted x k).is_cube
    | inr k ↦ subst (IsCube sets.size) (Contains-one point x k) wanted.is_cube
  ])

  -- a point more, with its columns
  pub found_more : (choice : Choice) (point : Cube) → IsWantedPoint function point → (old new : PickedPoints) (row : List Cube) → new.points.items ≡ old.points.items ++ point ∷ [] → new.columns.cubes ≡ old.columns.cubes ++ row
      → AreColumnsOf choice function.primes (old.points.items ++ point ∷ []) point row → IsFound choice function old → new.columns.size ≡ old.columns.size → IsFound choice function new
  found_more choice point wanted old new row points columns of_point was size = record {
    wanted = λ x h. elim (Contains-append_cases old.points.items (point ∷ []) x (subst (λ l. Contains l x) points h)) [ inl k ↦ was.wanted x k | inr k ↦ subst (IsWantedPoint function) (Contains-one point x k) wanted ];
    primes = λ c h. elim (Contains-append_cases old.columns.cubes row c (subst (λ l. Contains l c) columns h)) [ inl k ↦ was.primes c k | inr k ↦ of_point.primes c k ];
    dominated = λ x c h member sub. dominated_with choice old.points.items new.points.items old.columns.cubes row new.columns.cubes point points columns c
        (λ inside. subst (λ l. IsDominated choice l row c) (sym points) (of_point.dominated c member inside)) (λ y k in_c. was.dominated y c k member in_c) x h sub;
    size = size ∙ was.size;
  }

-- the same points and columns
pub found_again : (choice : Choice) (f : Function) (old new : PickedPoints) → new.points.items ≡ old.points.items → new.columns ≡ old.columns → IsFound choice f old → IsFound choice f new
found_again choice f old new points columns h = record {
  wanted = λ x k. h.wanted x (subst (λ l. Contains l x) points k);
  primes = λ c k. h.primes c (subst (λ (l : Cubes). Contains l.cubes c) columns k);
  dominated = λ x c k member sub.
      let own = h.dominated x c (subst (λ l. Contains l x) points k) member sub in
      record {
        column = own.column;
        member = subst (λ (l : Cubes). Contains l.cubes own.column) (sym columns) own.member;
        dominates = record { over = λ y m. own.dominates.over y (subst (λ l. Contains l y) points m); good = own.dominates.good };
      };
  size = ap (λ (l : Cubes). l.size) columns ∙ h.size;
}

-- the columns are of the size of each point
pub dominating_sizes : (choice : Choice) (sets : SetLists) (points columns : List Cube) → AreDominating choice (function_of sets) points columns → (x : Cube) → Contains points x → All (λ d. SameSize d x) columns
dominating_sizes choice sets points columns h x there =
    sizes_for sets.size columns x (members_all (IsCube sets.size) columns h.cubes) (h.wanted x there).is_cube

-- ---- the columns that contain a point, by output

filter_twice : (p q : ℕ → Bool) (xs : List ℕ) → ((k : ℕ) → q k ≡ true → p k ≡ true) → filter q (filter p xs) ≡ filter q xs
filter_twice p q [] h = refl
filter_twice p q (x ∷ xs) h = go (p x) (q x) refl refl (filter_twice p q xs h)
  where
    go : (b c : Bool) → p x ≡ b → q x ≡ c → filter q (filter p xs) ≡ filter q xs → filter q (cond b (x ∷ filter p xs) (filter p xs)) ≡ cond c (x ∷ filter q xs) (filter q xs)
    go true c e f rest = ap (λ d. cond d (x ∷ filter q (filter p xs)) (filter q (filter p xs))) f ∙ ap (λ ys. cond c (x ∷ ys) ys) rest
    go false true e f rest = absurd (false≢true (sym e ∙ h x f))
    go false false e f rest = rest

pub with_output_at : (columns : List Cube) (j n : ℕ) (lists : List (List ℕ)) → j < n → lists ≡ map (with_output columns) (range_with_len 0 n) → get_or lists j [] ≡ with_output columns j
with_output_at columns j n lists lt e = ap (λ l. get_or l j []) e ∙ get_or-map-range_with_len (with_output columns) 0 n j j [] lt (omega arith)

pub with_output_below : (columns : List Cube) (j : ℕ) → All (λ k. k < length columns) (with_output columns j)
with_output_below columns j = All-filter (has_output columns j) (λ k. k < length columns) (range_with_len 0 (length columns)) (All-range (length columns) (range_with_len 0 (length columns)) refl)

pub holders_with_output : (columns : List Cube) (x : Cube) (j : ℕ) → get_or x.outputs j false ≡ true → filter (contains_region columns x) (with_output columns j) ≡ holders columns x
holders_with_output columns x j on =
    filter_twice (has_output columns j) (contains_region columns x) (range_with_len 0 (length columns))
    (λ k h. (and_parts (matches (cube_at columns k).symbols (map pick x.symbols)) (get_or (cube_at columns k).outputs j false)
    (spans_holds columns x k h (record { point = map pick x.symbols; output = j }) (place_at x j on))).1)

-- the columns in another order
pub dominating_sorted : (choice : Choice) (f : Function) (points columns sorted : List Cube) → HasSameCubes columns sorted → AreDominating choice f points columns → AreDominating choice f points sorted
dominating_sorted choice f points columns sorted same h = record {
  wanted = h.wanted;
  cubes = λ c k. h.cubes c ((same c).1 k);
  apart = λ c d k l. h.apart c d ((same c).1 k) ((same d).1 l);
  dominated = λ x c k member sub. let d = h.dominated x c k member sub in record { column = d.column; member = (same d.column).0 d.member; dominates = d.dominates };
}

-- all primes that contain a point dominate themselves
pub as_good_itself : (choice : Choice) (c : Cube) → IsAsGood choice c c
as_good_itself First c = symbols_same c.symbols c.symbols refl
as_good_itself Literals c = inr (refl, symbols_same c.symbols c.symbols refl)

pub columns_of_filter : (choice : Choice) (size : Size) (all points row : List Cube) (point : Cube) → row ≡ filter (is_within size point) all → AreColumnsOf choice all points point row
columns_of_filter choice size all points row point e = record {
  primes = λ c h. (Contains-filter_cases (is_within size point) all c (subst (λ l. Contains l c) e h)).0;
  dominated = λ c member sub. record {
    column = c;
    member = subst (λ l. Contains l c) (sym e) (Contains-filter (is_within size point) all c member (within_from_fact size point c sub));
    dominates = record { over = λ y there inside. inside; good = as_good_itself choice c };
  };
}

-- those of the points that were found dominate
pub found_dominate : (choice : Choice) (f : Function) (s : Place → Bool) (found : PickedPoints) → f.primes ≡ complete_sum f.size s → IsFound choice f found → AreDominating choice f found.points.items found.columns.cubes
found_dominate choice f s found e h = record {
  wanted = h.wanted;
  cubes = λ c k. ((Contains-complete_sum f.size s c).0 (member c k)).is_cube;
  apart = λ c d k l. same_symbols_in_sum f.size s c d (member c k) (member d l);
  dominated = h.dominated;
}
  where
    member : (c : Cube) → Contains found.columns.cubes c → Contains (complete_sum f.size s) c
    member c k = subst (λ l. Contains l c) e (h.primes c k)

-- ---- the function of other lists

module _ (sets given : SetLists) (source : Source) (on_cubes : AreCubes sets.size sets.on) (given_on : AreCubes given.size given.on) (same : StandsFor sets given source) where
  pub wanted_given : (p : Place) → care_on sets p ≡ true → care_on given p ≡ true
  wanted_given p want =
      let w = list_any_witness (λ c. holds c p) sets.on (care_parts sets p want).0 in
      same.wanted p (IsPlace-from_holds sets.size w.0 p (all_members (IsCube sets.size) sets.on on_cubes w.0 w.1).has_size w.2) ∙ want

  pub wanted_sets : (p : Place) → care_on given p ≡ true → care_on sets p ≡ true
  wanted_sets p want =
      let w = list_any_witness (λ c. holds c p) given.on (care_parts given p want).0 in
      sym (same.wanted p (subst (λ z. IsPlace z p) same.size (IsPlace-from_holds given.size w.0 p (all_members (IsCube given.size) given.on given_on w.0 w.1).has_size w.2))) ∙ want

  given_prime : (c : Cube) → Contains (primes_of sets) c → Contains (source_primes source) c
  given_prime c h = subst (λ l. Contains l c) (sym same.primes) h

  wanted_same : (x : Cube) → IsWantedPoint (function_by given source) x → IsWantedPoint (function_of sets) x
  wanted_same x w = record { is_cube = subst (λ z. IsCube z x) same.size w.is_cube; place = w.place; at = w.at; wanted = wanted_sets w.place w.wanted }

  pub dominating_same : (choice : Choice) (points columns : List Cube) → AreDominating choice (function_by given source) points columns → AreDominating choice (function_of sets) points columns
  dominating_same choice points columns h = record {
    wanted = λ x k. wanted_same x (h.wanted x k);
    cubes = λ c k. subst (λ z. IsCube z c) same.size (h.cubes c k);
    apart = h.apart;
    dominated = λ x c k member sub. h.dominated x c k (given_prime c member) sub;
  }

  pub found_same : (choice : Choice) (found : PickedPoints) → IsFound choice (function_by given source) found → IsFound choice (function_of sets) found
  found_same choice found h = record {
    wanted = λ x k. wanted_same x (h.wanted x k);
    primes = λ c k. subst (λ l. Contains l c) same.primes (h.primes c k);
    dominated = λ x c k member sub. h.dominated x c k (given_prime c member) sub;
    size = h.size ∙ same.size;
  }
