-- The least cover of the table of the primes is the least cover by primes.
use Rattle.std.proofs.Common.{◌≡◌, ℕ, suc, ◌+◌, ◌<◌, true, List, [], ◌∷◌, ◌++◌, length, map, refl, ap, sym, subst, ◌∙◌, arith, inl, inr, ◌⊎◌, Option, take, get_or, slice_get}
use Rattle.std.specs.List.{Contains, cons_option, fold, reduce, range_with_len}
use Rattle.std.specs.Option.{unwrap_or}
use Rattle.std.specs.Ordering.{ordering_then, ordering_reverse, nat_cmp, min_by_ordering}
use Rattle.std.specs.Cmp.{IsTotalOrder, nat_cmp_is}
use Rattle.std.specs.Cmp.Lexicographic.{slice_cmp}
use Rattle.std.specs.declared.cmp.Ordering.{Ordering}
use Rattle.std.specs.declared.cmp.Ordering.TheVariants.{Less, Equal, Greater}
use Rattle.std.proofs.lemmas.Cmp.{then_total, on_total, lists_total, nat_cmp_total}
use Rattle.std.proofs.lemmas.Bool.{false≢true}
use Rattle.std.proofs.lemmas.List.{take_more}
use Rattle.std.proofs.lemmas.List.Elements.{filter_map-append, Contains-append_cases, Contains-append_left, Contains-append_right}
use Rattle.cube.specs.Cube.{Cube}
use Rattle.cube.proofs.Members.{Contains-here, Contains-there, Contains-nil, Contains-cases, Contains-map, Contains-map_cases, Contains-filter, Contains-filter_cases}
use Rattle.pla.specs.Sets.{SetLists}
use Rattle.covering.specs.declared.choice.Choice.{Choice}
use Rattle.covering.specs.Table.{Table, has, RisesFrom}
use Rattle.covering.specs.Cover.{IsLeast, Precedes, counted, sum_over}
use Rattle.minimum.specs.Primes.{primes_of, sublists, is_prime_cover, prime_covers, cover_cmp, prime_count, least_prime_cover, chosen}
use Rattle.minimum.specs.PrimeTable.{IsPrimeCover, HasPrimeCovers, HasPrimeColumns}
use Rattle.covering.proofs.Sets.{has_here, has_later, has_cases, rises_above, rises_lower}
use Rattle.covering.proofs.Rising.{range_rises, range_has, range_below}

-- ---- the sublists of a rising list

pub sublist_there : (l : ℕ) (xs s : List ℕ) → RisesFrom l xs → RisesFrom l s → ((n : ℕ) → has n s ≡ true → has n xs ≡ true) → Contains (sublists xs) s
sublist_there l [] [] r rs from = Contains-here [] []
sublist_there l [] (y ∷ ys) r rs from = absurd (false≢true (from y (has_here y y ys refl)))
sublist_there l (x ∷ xs) [] r rs from = right (sublist_there (suc x) xs [] r.1 tt (λ n h. absurd (false≢true h)))
  where
    right : Contains (sublists xs) [] → Contains (sublists (x ∷ xs)) []
    right h = Contains-append_right (map (λ s. x ∷ s) (sublists xs)) (sublists xs) [] h
sublist_there l (x ∷ xs) (y ∷ ys) r rs from = go (sublist_there (suc x) xs ys r.1) (sublist_there (suc x) xs (y ∷ ys) r.1) (has_cases y x xs (from y (has_here y y ys refl)))
  where
    go : (RisesFrom (suc x) ys → ((n : ℕ) → has n ys ≡ true → has n xs ≡ true) → Contains (sublists xs) ys)
        → (RisesFrom (suc x) (y ∷ ys) → ((n : ℕ) → has n (y ∷ ys) ≡ true → has n xs ≡ true) → Contains (sublists xs) (y ∷ ys))
        → (y ≡ x) ⊎ (has y xs ≡ true) → Contains (sublists (x ∷ xs)) (y ∷ ys)
    go one two (inl e) =
        let rest : RisesFrom (suc x) ys = subst (λ n. RisesFrom (suc n) ys) e rs.1 in
        let sub = one rest (λ n h. elim (has_cases n x xs (from n (has_later n y ys h))) [
          | inl same ↦ absurd (let a = rises_above n (suc x) ys rest h in omega arith)
          | inr there ↦ there
        ]) in
        Contains-append_left (map (λ s. x ∷ s) (sublists xs)) (sublists xs) (y ∷ ys) (subst (λ n. Contains (map (λ s. x ∷ s) (sublists xs)) (n ∷ ys)) (sym e) (Contains-map (λ s. x ∷ s) (sublists xs) ys sub))
    go one two (inr e) =
        let up = rises_above y (suc x) xs r.1 e in
        let whole : RisesFrom (suc x) (y ∷ ys) = (up, rs.1) in
        Contains-append_right (map (λ s. x ∷ s) (sublists xs)) (sublists xs) (y ∷ ys) (two whole (λ n h. elim (has_cases n x xs (from n h)) [
          | inl same ↦ absurd (let a = rises_above n (suc x) (y ∷ ys) whole h in omega arith)
          | inr there ↦ there
        ]))

pub sublist_parts : (l : ℕ) (xs s : List ℕ) → RisesFrom l xs → Contains (sublists xs) s → RisesFrom l s × ((n : ℕ) → has n s ≡ true → has n xs ≡ true)
sublist_parts l [] s r h = elim (Contains-cases [] [] s h) [
  | inl e ↦ subst (λ z. RisesFrom l z × ((n : ℕ) → has n z ≡ true → has n [] ≡ true)) e (tt, λ n k. k)
  | inr none' ↦ absurd (Contains-nil s none')
]
sublist_parts l (x ∷ xs) s r h = go (λ z k. sublist_parts (suc x) xs z r.1 k) (Contains-append_cases (map (λ z. x ∷ z) (sublists xs)) (sublists xs) s h)
  where
    go : ((z : List ℕ) → Contains (sublists xs) z → RisesFrom (suc x) z × ((n : ℕ) → has n z ≡ true → has n xs ≡ true))
        → Contains (map (λ z. x ∷ z) (sublists xs)) s ⊎ Contains (sublists xs) s → RisesFrom l s × ((n : ℕ) → has n s ≡ true → has n (x ∷ xs) ≡ true)
    go more (inl with') =
        let w = Contains-map_cases (λ z. x ∷ z) (sublists xs) s with' in
        let p = more w.0 w.1 in
        subst (λ z. RisesFrom l z × ((n : ℕ) → has n z ≡ true → has n (x ∷ xs) ≡ true)) w.2
        ((r.0, p.0), λ n k. elim (has_cases n x w.0 k) [ inl e ↦ has_here n x xs e | inr e ↦ has_later n x xs (p.1 n e) ])
    go more (inr without') = let p = more s without' in (rises_lower l (suc x) s (let a = r.0 in omega arith) p.0, λ n k. has_later n x xs (p.1 n k))

-- ---- the least of a list

module _ {A : Type 0} (cmp : A → A → Ordering) (turned : (a b : A) → cmp a b ≡ ordering_reverse (cmp b a)) (s : A) where
  abbrev lesser : A → A → A
  lesser a b = min_by_ordering (cmp a b) a b

  one_of : (o : Ordering) (a b : A) → (min_by_ordering o a b ≡ a) ⊎ (min_by_ordering o a b ≡ b)
  one_of Less a b = inl refl
  one_of Equal a b = inl refl
  one_of Greater a b = inr refl

  same_both : (o : Ordering) (a : A) → min_by_ordering o a a ≡ a
  same_both Less a = refl
  same_both Equal a = refl
  same_both Greater a = refl

  keeps : (x : A) → (s ≡ x) ⊎ (cmp s x ≡ Less) → lesser s x ≡ s
  keeps x (inl e) = ap (λ y. lesser s y) (sym e) ∙ same_both (cmp s s) s
  keeps x (inr e) = ap (λ o. min_by_ordering o s x) e

  takes : (x : A) → (s ≡ x) ⊎ (cmp s x ≡ Less) → lesser x s ≡ s
  takes x (inl e) = ap (λ y. lesser y s) (sym e) ∙ same_both (cmp s s) s
  takes x (inr e) = ap (λ o. min_by_ordering o x s) (turned x s ∙ ap ordering_reverse e)

  least_of : (b : A) (xs : List A) → Contains (b ∷ xs) s → ((y : A) → Contains (b ∷ xs) y → (s ≡ y) ⊎ (cmp s y ≡ Less)) → fold lesser b xs ≡ s
  least_of b [] there first = elim (Contains-cases b [] s there) [ inl e ↦ e | inr none' ↦ absurd (Contains-nil s none') ]
  least_of b (x ∷ xs) there first = go (λ c k f. least_of c xs k f) (Contains-cases b (x ∷ xs) s there)
    where
      at_b : (s ≡ b) ⊎ (cmp s b ≡ Less)
      at_b = first b (Contains-here b (x ∷ xs))

      at_x : (s ≡ x) ⊎ (cmp s x ≡ Less)
      at_x = first x (Contains-there b (x ∷ xs) x (Contains-here x xs))

      rest : (y : A) → Contains xs y → (s ≡ y) ⊎ (cmp s y ≡ Less)
      rest y h = first y (Contains-there b (x ∷ xs) y (Contains-there x xs y h))

      among : (c : A) → (s ≡ c) ⊎ (cmp s c ≡ Less) → (y : A) → Contains (c ∷ xs) y → (s ≡ y) ⊎ (cmp s y ≡ Less)
      among c own y h = elim (Contains-cases c xs y h) [ inl e ↦ subst (λ z. (s ≡ z) ⊎ (cmp s z ≡ Less)) e own | inr more ↦ rest y more ]

      found : ((c : A) → Contains (c ∷ xs) s → ((y : A) → Contains (c ∷ xs) y → (s ≡ y) ⊎ (cmp s y ≡ Less)) → fold lesser c xs ≡ s) → lesser b x ≡ s → fold lesser (lesser b x) xs ≡ s
      found more e = more (lesser b x) (subst (λ c. Contains (c ∷ xs) s) (sym e) (Contains-here s xs)) (among (lesser b x) (inl (sym e)))

      go : ((c : A) → Contains (c ∷ xs) s → ((y : A) → Contains (c ∷ xs) y → (s ≡ y) ⊎ (cmp s y ≡ Less)) → fold lesser c xs ≡ s) → (b ≡ s) ⊎ Contains (x ∷ xs) s → fold lesser (lesser b x) xs ≡ s
      go more (inl e) = found more (ap (λ c. lesser c x) e ∙ keeps x at_x)
      go more (inr h) = elim (Contains-cases x xs s h) [
        | inl e ↦ found more (ap (lesser b) e ∙ takes b at_b)
        | inr later ↦ more (lesser b x) (Contains-there (lesser b x) xs s later) (among (lesser b x) (elim (one_of (cmp b x) b x) [
          | inl e ↦ subst (λ z. (s ≡ z) ⊎ (cmp s z ≡ Less)) (sym e) at_b
          | inr e ↦ subst (λ z. (s ≡ z) ⊎ (cmp s z ≡ Less)) (sym e) at_x
        ]))
      ]

  pub least_in : (xs : List A) (d : A) → Contains xs s → ((y : A) → Contains xs y → (s ≡ y) ⊎ (cmp s y ≡ Less)) → unwrap_or (reduce lesser xs) d ≡ s
  least_in [] d there first = absurd (Contains-nil s there)
  least_in (x ∷ xs) d there first = least_of x xs there first

-- ---- covers

module _ (count : ℕ → ℕ) where
  order : IsTotalOrder (cover_cmp count)
  order = then_total (on_total length nat_cmp_total) (then_total (on_total (sum_over count) nat_cmp_total) (lists_total nat_cmp_total))

  pub precedes_less : (s x : List ℕ) → Precedes count s x → cover_cmp count s x ≡ Less
  precedes_less s x h = go h
    where
      go : Precedes count s x → ordering_then (nat_cmp (length s) (length x)) (ordering_then (nat_cmp (sum_over count s) (sum_over count x)) (slice_cmp nat_cmp s x)) ≡ Less
      go (inl shorter) = ap (λ o. ordering_then o (ordering_then (nat_cmp (sum_over count s) (sum_over count x)) (slice_cmp nat_cmp s x))) (sym (nat_cmp_is (length s) (length x) Less shorter))
      go (inr (long, inl less)) =
          ap (λ o. ordering_then o (ordering_then (nat_cmp (sum_over count s) (sum_over count x)) (slice_cmp nat_cmp s x))) (sym (nat_cmp_is (length s) (length x) Equal long))
          ∙ ap (λ o. ordering_then o (slice_cmp nat_cmp s x)) (sym (nat_cmp_is (sum_over count s) (sum_over count x) Less less))
      go (inr (long, inr (tied, first))) =
          ap (λ o. ordering_then o (ordering_then (nat_cmp (sum_over count s) (sum_over count x)) (slice_cmp nat_cmp s x))) (sym (nat_cmp_is (length s) (length x) Equal long))
          ∙ ap (λ o. ordering_then o (slice_cmp nat_cmp s x)) (sym (nat_cmp_is (sum_over count s) (sum_over count x) Equal tied)) ∙ first

-- a cover by primes that precedes each other one
pub least_by_first : (choice : Choice) (sets : SetLists) (s : List ℕ) → IsPrimeCover sets s → ((x : List ℕ) → IsPrimeCover sets x → (s ≡ x) ⊎ Precedes (prime_count choice sets) s x) → s ≡ least_prime_cover choice sets
least_by_first choice sets s mine first =
    let count = prime_count choice sets in
    let n = length (primes_of sets) in
    let all = sublists (range_with_len 0 n) in
    sym (least_in (cover_cmp count) (λ a b. (order count).antisymm a b) s (prime_covers sets) []
    (Contains-filter (is_prime_cover sets) all s
    (sublist_there 0 (range_with_len 0 n) s (range_rises 0 n) mine.rises (λ k h. range_has k 0 n (omega arith) (let b = mine.below k h in omega arith))) mine.holds)
    (λ y there.
    let parts = Contains-filter_cases (is_prime_cover sets) all y there in
    let sub = sublist_parts 0 (range_with_len 0 n) y (range_rises 0 n) parts.0 in
    elim (first y (record { rises = sub.0; below = λ k h. (let b = range_below k 0 n (sub.1 k h) in omega arith); holds = parts.1 })) [
      | inl e ↦ inl e
      | inr before ↦ inr (precedes_less count s y before)
    ]))

-- the least cover of a table whose covers are those by primes
pub least_is : (choice : Choice) (sets : SetLists) (t : Table) (s : List ℕ) → HasPrimeColumns sets t → HasPrimeCovers sets t → IsLeast choice t s → s ≡ least_prime_cover choice sets
least_is choice sets t s columns covers least = least_by_first choice sets s ((covers s).0 least.cover) (λ x own. elim (least.first x ((covers x).1 own)) [
  | inl e ↦ inl e
  | inr before ↦ inr (subst (λ w. Precedes (counted choice w) s x) columns.weights before)
])

-- ---- cubes by their numbers

pub chosen_next : (cubes : List Cube) (numbers : List ℕ) (i : ℕ) → i < length numbers → (o : Option Cube) → o ≡ slice_get cubes (get_or numbers i 0)
    → chosen cubes (take (i + 1) numbers) ≡ chosen cubes (take i numbers) ++ cons_option o []
chosen_next cubes numbers i lt o e =
    ap (chosen cubes) (take_more numbers i 0 lt)
    ∙ filter_map-append (slice_get cubes) (take i numbers) (get_or numbers i 0 ∷ [])
    ∙ ap (λ x. chosen cubes (take i numbers) ++ cons_option x []) (sym e)
