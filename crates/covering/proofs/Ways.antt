-- The places that `combinations` goes through are the choices in list order.
use Rattle.std.proofs.Common.{◌≡◌, ℕ, zero, suc, ◌+◌, ◌-◌, ◌<◌, ◌≤◌, List, [], ◌∷◌, ◌++◌, length, map, refl, sym, ap, ◌∙◌, arith, slice_index_or, drop, length-append, length-drop, drop-cons}
use Rattle.std.specs.Prelude.{flat_map, Bool, true, false, Option}
use Rattle.std.specs.List.{AllByRecursion}
use Rattle.std.proofs.lemmas.Bool.{cond-true, cond-false}
use Rattle.itertools.specs.Pool.{ClonesAt}
use Rattle.std.proofs.lemmas.List.{map-append, get_or_default}
use Rattle.itertools.specs.Odometer.{ways, numbers}
use Rattle.itertools.specs.Pool.{ascending_low, ascending_high}
use Rattle.itertools.proofs.PoolLemmas.{ascending_low-more}
use Rattle.covering.specs.Choices.{choices, best_of, better}
use Rattle.covering.proofs.BestChoice.{next}

-- the items at the places
abbrev pub picks : List ℕ → List ℕ → List ℕ
picks pool ds = map (λ d. slice_index_or pool d 0) ds

choices_none : (k : ℕ) (xs : List ℕ) → length xs < k → choices k xs ≡ []
choices_none zero xs h = absurd (omega arith)
choices_none (suc k) [] h = refl
choices_none (suc k) (x ∷ xs) h =
    let a = choices_none k xs (omega arith) in
    let b = choices_none (suc k) xs (omega arith) in
    rw (a, b) refl

picks_map : (pool : List ℕ) (d : ℕ) (ws : List (List ℕ)) → map (picks pool) (map (λ ds. d ∷ ds) ws) ≡ map (λ ys. slice_index_or pool d 0 ∷ ys) (map (picks pool) ws)
picks_map pool d [] = refl
picks_map pool d (w ∷ ws) = ap (λ r. (slice_index_or pool d 0 ∷ picks pool w) ∷ r) (picks_map pool d ws)

module _ (pool : List ℕ) (k : ℕ) where
  abbrev pub high : List ℕ → ℕ
  high p = ascending_high (length pool) k p

  pub ways_choices : (m : ℕ) (p : List ℕ) → length p + m ≡ k → map (picks pool) (ways ascending_low high m p) ≡ choices m (drop (ascending_low p) pool)
  ways_choices zero p e = refl
  ways_choices (suc m) p e =
      go (high p - ascending_low p) (ascending_low p) (λ d. ways_choices m (p ++ d ∷ []) (omega (arith, length-append p (d ∷ [])))) refl
    where
      go : (n a : ℕ) → ((d : ℕ) → map (picks pool) (ways ascending_low high m (p ++ d ∷ [])) ≡ choices m (drop (ascending_low (p ++ d ∷ [])) pool)) → high p - a ≡ n
          → map (picks pool) (flat_map (λ d. map (λ ds. d ∷ ds) (ways ascending_low high m (p ++ d ∷ []))) (numbers a n)) ≡ choices (suc m) (drop a pool)
      go zero a more h = sym (choices_none (suc m) (drop a pool) (simp length-drop (omega arith)))
      go (suc n) a more h =
          let less : a < length pool = omega arith in
          let next = go n (a + 1) more (omega arith) in
          let here : map (picks pool) (ways ascending_low high m (p ++ a ∷ [])) ≡ choices m (drop (a + 1) pool) = rw ascending_low-more at (more a) in
          let one : suc a ≡ a + 1 = omega arith in
          map-append (picks pool) (map (λ ds. a ∷ ds) (ways ascending_low high m (p ++ a ∷ []))) _
          ∙ ap (λ xs. xs ++ map (picks pool) (flat_map (λ d. map (λ ds. d ∷ ds) (ways ascending_low high m (p ++ d ∷ []))) (numbers (a + 1) n))) (picks_map pool a (ways ascending_low high m (p ++ a ∷ [])) ∙ ap (map (λ ys. slice_index_or pool a 0 ∷ ys)) here)
          ∙ ap (λ xs. map (λ ys. slice_index_or pool a 0 ∷ ys) (choices m (drop (a + 1) pool)) ++ xs) next
          ∙ sym (ap (choices (suc m)) (drop-cons pool a 0 less ∙ ap (λ i. slice_index_or pool a 0 ∷ drop i pool) one))

-- what `combinations` has left at its start, as items
pub combinations_choices : (pool : List ℕ) (k : ℕ) → map (picks pool) (ways ascending_low (ascending_high (length pool) k) k []) ≡ choices k pool
combinations_choices pool k = ways_choices pool k k [] (omega arith)

-- ---- one item of `combinations`

abbrev pub AreBelow : ℕ → List ℕ → Type 0
AreBelow n ds = AllByRecursion (λ d. d < n) ds

all_append : {X : Type 0} (P : X → Type 0) (xs ys : List X) → AllByRecursion P xs → AllByRecursion P ys → AllByRecursion P (xs ++ ys)
all_append P [] ys h k = k
all_append P (x ∷ xs) ys h k = (h.0, all_append P xs ys h.1 k)

all_put : (n d : ℕ) (ws : List (List ℕ)) → d < n → AllByRecursion (AreBelow n) ws → AllByRecursion (AreBelow n) (map (λ ds. d ∷ ds) ws)
all_put n d [] l h = tt
all_put n d (w ∷ ws) l h = ((l, h.0), all_put n d ws l h.1)

all_numbers : (P : List ℕ → Type 0) (f : ℕ → List (List ℕ)) (n a m : ℕ) → a + n ≤ m → ((d : ℕ) → d < m → AllByRecursion P (f d)) → AllByRecursion P (flat_map f (numbers a n))
all_numbers P f zero a m l h = tt
all_numbers P f (suc n) a m l h = all_append P (f a) _ (h a (omega arith)) (all_numbers P f n (a + 1) m (omega arith) h)

module _ (n k : ℕ) where
  ways_below : (m : ℕ) (p : List ℕ) → length p + m ≡ k → AllByRecursion (AreBelow n) (ways ascending_low (ascending_high n k) m p)
  ways_below zero p e = (tt, tt)
  ways_below (suc m) p e =
      go (ascending_high n k p - ascending_low p) refl (λ d. ways_below m (p ++ d ∷ []) (omega (arith, length-append p (d ∷ []))))
    where
      go : (r : ℕ) → ascending_high n k p - ascending_low p ≡ r → ((d : ℕ) → AllByRecursion (AreBelow n) (ways ascending_low (ascending_high n k) m (p ++ d ∷ []))) → AllByRecursion (AreBelow n) (flat_map (λ d. map (λ ds. d ∷ ds) (ways ascending_low (ascending_high n k) m (p ++ d ∷ []))) (numbers (ascending_low p) r))
      go zero h more = tt
      go (suc r) h more = all_numbers (AreBelow n) (λ d. map (λ ds. d ∷ ds) (ways ascending_low (ascending_high n k) m (p ++ d ∷ []))) (suc r) (ascending_low p) n (omega arith) (λ d l. all_put n d _ l (more d))

  pub combinations_below : AllByRecursion (AreBelow n) (ways ascending_low (ascending_high n k) k [])
  combinations_below = ways_below k [] (omega arith)

pub picked : (clones : ℕ → ℕ → Type 0) → ((x v : ℕ) → clones x v → v ≡ x) → (pool ds vs : List ℕ) → AreBelow (length pool) ds → ClonesAt clones pool ds vs → vs ≡ picks pool ds
picked clones each pool [] [] b h = refl
picked clones each pool (d ∷ ds) (v ∷ vs) b h =
    ap (λ x. x ∷ vs) (each _ v h.0 ∙ get_or_default pool d v 0 b.0) ∙ ap (λ xs. slice_index_or pool d 0 ∷ xs) (picked clones each pool ds vs b.1 h.1)
picked clones each pool [] (v ∷ vs) b h = elim h [ ]
picked clones each pool (d ∷ ds) [] b h = elim h [ ]

module _ (count : ℕ → ℕ) (test : List ℕ → Bool) (all left rest : List (List ℕ)) (live ds v : List ℕ) (first best : Option (List ℕ)) (so_far : best_of count test first all ≡ best_of count test best (map (picks live) left)) (at : left ≡ ds ∷ rest) (is : v ≡ picks live ds) where
  found_next : best_of count test first all ≡ best_of count test (next count test best v) (map (picks live) rest)
  found_next = so_far ∙ ap (λ l. best_of count test best (map (picks live) l)) at ∙ ap (λ w. best_of count test (next count test best w) (map (picks live) rest)) (sym is)

  pub found_here : test v ≡ true → best_of count test first all ≡ best_of count test (better count best v) (map (picks live) rest)
  found_here h = found_next ∙ ap (λ o. best_of count test o (map (picks live) rest)) (cond-true (test v) _ _ h)

  pub found_later : test v ≡ false → best_of count test first all ≡ best_of count test best (map (picks live) rest)
  found_later h = found_next ∙ ap (λ o. best_of count test o (map (picks live) rest)) (cond-false (test v) _ _ h)
