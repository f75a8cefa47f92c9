-- The lists of the rows in which each column stands, as they are made.
use Rattle.std.proofs.Common.{◌≡◌, ◌≢◌, ℕ, zero, suc, ◌+◌, ◌<◌, ◌≤◌, ◌⊎◌, inl, inr, Bool, true, false, cond, ◌||◌, eqb, List, [], ◌∷◌, ◌++◌, length, take, set, replicate, slice_index_or, refl, sym, ap, subst, ◌∙◌, arith, Vec, length-append, add-one}
use Rattle.std.proofs.lemmas.Bool.{cases_eq, cases_lt, cases_order, cases_Bool, or_cases, or_right, or_from, eq-eqb, ne_eqb, eqb-true, true≢false, cond-true, cond-false}
use Rattle.std.proofs.lemmas.List.{take_more}
use Rattle.covering.specs.Table.{has, RisesFrom, items_of}
use Rattle.covering.specs.Reduce.{row_at, AreRising, Appends, Enters, TransposeSoFar}
use Rattle.covering.proofs.Sets.{has_here, has_later}

-- ---- lists of lists

pub row_at_none : (rows : List (List ℕ)) (i : ℕ) → length rows ≤ i → row_at rows i ≡ []
row_at_none [] i h = refl
row_at_none (row ∷ rows) zero h = absurd (omega arith)
row_at_none (row ∷ rows) (suc i) h = row_at_none rows i (omega arith)

pub row_at_left : (rows more : List (List ℕ)) (i : ℕ) → i < length rows → row_at (rows ++ more) i ≡ row_at rows i
row_at_left [] more i h = absurd (omega arith)
row_at_left (row ∷ rows) more zero h = refl
row_at_left (row ∷ rows) more (suc i) h = row_at_left rows more i (omega arith)

pub row_at_last : (rows : List (List ℕ)) (row : List ℕ) (i : ℕ) → i ≡ length rows → row_at (rows ++ row ∷ []) i ≡ row
row_at_last [] row zero h = refl
row_at_last [] row (suc i) h = absurd (omega arith)
row_at_last (r ∷ rows) row zero h = absurd (omega arith)
row_at_last (r ∷ rows) row (suc i) h = row_at_last rows row i (omega arith)

pub row_at_items : {Z : Type 0} (rows : List (Vec ℕ Z)) (i : ℕ) (r : Vec ℕ Z) → i < length rows → row_at (items_of rows) i ≡ (slice_index_or rows i r).items
row_at_items [] i r h = absurd (omega arith)
row_at_items (row ∷ rows) zero r h = refl
row_at_items (row ∷ rows) (suc i) r h = row_at_items rows i r (omega arith)

pub length_items : {Z : Type 0} (rows : List (Vec ℕ Z)) → length (items_of rows) ≡ length rows
length_items [] = refl
length_items (row ∷ rows) = ap suc (length_items rows)

set_items_at : {Z : Type 0} (rows : List (Vec ℕ Z)) (i c : ℕ) (v : Vec ℕ Z) → i < length rows → c < length rows → row_at (items_of (set rows i v)) c ≡ cond (eqb c i) v.items (row_at (items_of rows) c)
set_items_at [] i c v h k = absurd (omega arith)
set_items_at (row ∷ rows) zero zero v h k = refl
set_items_at (row ∷ rows) zero (suc c) v h k = rw (ne_eqb (suc c) 0 (λ e. absurd (omega arith))) refl
set_items_at (row ∷ rows) (suc i) zero v h k = rw (ne_eqb 0 (suc i) (λ e. absurd (omega arith))) refl
set_items_at (row ∷ rows) (suc i) (suc c) v h k = set_items_at rows i c v (omega arith) (omega arith) ∙ ap (λ b. cond b v.items (row_at (items_of rows) c)) (same_test c i)
  where
    same_test : (c i : ℕ) → eqb c i ≡ eqb (suc c) (suc i)
    same_test c i = elim (cases_eq c i) [
      | inl e ↦ eq-eqb c i e ∙ sym (eq-eqb (suc c) (suc i) (ap suc e))
      | inr e ↦ ne_eqb c i e ∙ sym (ne_eqb (suc c) (suc i) (λ f. e (omega arith)))
    ]

length_set : {Z : Type 0} (rows : List (Vec ℕ Z)) (i : ℕ) (v : Vec ℕ Z) → length (items_of (set rows i v)) ≡ length (items_of rows)
length_set [] i v = refl
length_set (row ∷ rows) zero v = refl
length_set (row ∷ rows) (suc i) v = ap suc (length_set rows i v)

pub appends_set : {Z : Type 0} (rows : List (Vec ℕ Z)) (i n : ℕ) (v r : Vec ℕ Z) → i < length rows → r ≡ slice_index_or rows i r → v.items ≡ r.items ++ n ∷ [] → Appends (items_of rows) i n (items_of (set rows i v))
appends_set rows i n v r h is e = record {
  at = λ c k. set_items_at rows i c v h (let l = length_items rows in omega arith) ∙ choose c (cases_eq c i);
  as_long = length_set rows i v;
}
  where
    choose : (c : ℕ) → (c ≡ i) ⊎ (c ≢ i) → cond (eqb c i) v.items (row_at (items_of rows) c) ≡ cond (eqb c i) (row_at (items_of rows) c ++ n ∷ []) (row_at (items_of rows) c)
    choose c (inl f) =
        let at : row_at (items_of rows) c ≡ r.items = ap (row_at (items_of rows)) f ∙ row_at_items rows i r h ∙ ap (λ w. w.items) (sym is) in
        rw (eq-eqb c i f) (e ∙ ap (λ xs. xs ++ n ∷ []) (sym at))
    choose c (inr f) = rw (ne_eqb c i f) refl

-- a place past the end changes nothing
pub appends_none : (rows : List (List ℕ)) (i n : ℕ) → length rows ≤ i → Appends rows i n rows
appends_none rows i n h = record {
  at = λ c k. sym (cond-false (eqb c i) _ _ (ne_eqb c i (λ e. absurd (omega arith))));
  as_long = refl;
}

-- ---- one row

pub has_append : (n : ℕ) (xs : List ℕ) (y : ℕ) → has n (xs ++ y ∷ []) ≡ (has n xs || eqb n y)
has_append n [] y = go (eqb n y)
  where
    go : (b : Bool) → (b || false) ≡ (false || b)
    go true = refl
    go false = refl
has_append n (x ∷ xs) y = ap (λ b. eqb n x || b) (has_append n xs y) ∙ go (eqb n x) (has n xs) (eqb n y)
  where
    go : (a b c : Bool) → (a || (b || c)) ≡ ((a || b) || c)
    go true b c = refl
    go false b c = refl

take_lacks : (l : ℕ) (xs : List ℕ) (i : ℕ) → RisesFrom l xs → i < length xs → has (slice_index_or xs i 0) (take i xs) ≡ false
take_lacks l [] i r h = absurd (omega arith)
take_lacks l (x ∷ xs) zero r h = refl
take_lacks l (x ∷ xs) (suc i) r h =
    or_from (eqb (slice_index_or xs i 0) x) (has (slice_index_or xs i 0) (take i xs))
    (ne_eqb (slice_index_or xs i 0) x (λ e. absurd (let a = above (suc x) xs i r.1 (omega arith) in omega arith)))
    (take_lacks (suc x) xs i r.1 (omega arith))
  where
    above : (l : ℕ) (xs : List ℕ) (i : ℕ) → RisesFrom l xs → i < length xs → l ≤ slice_index_or xs i 0
    above l [] i r h = absurd (omega arith)
    above l (x ∷ xs) zero r h = r.0
    above l (x ∷ xs) (suc i) r h = let k = above (suc x) xs i r.1 (omega arith) in omega (arith, r.0)

pub enters_none : (rows : List (List ℕ)) (n : ℕ) → Enters rows [] n rows
enters_none rows n = record { at = λ c k. refl; as_long = refl }

pub enters_more : (old new next : List (List ℕ)) (row : List ℕ) (i n : ℕ) → RisesFrom 0 row → i < length row → Enters old (take i row) n new → Appends new (slice_index_or row i 0) n next → Enters old (take (i + 1) row) n next
enters_more old new next row i n r h e a = record {
  at = λ c k.
      let x = slice_index_or row i 0 in
      let one = a.at c (let l = e.as_long in omega arith) in
      let before = e.at c k in
      let has_next : has c (take (i + 1) row) ≡ (has c (take i row) || eqb c x) = ap (has c) (take_more row i 0 h) ∙ has_append c (take i row) x in
      elim (cases_eq c x) [
        | inl f ↦ (
            let lacks : has c (take i row) ≡ false = subst (λ m. has m (take i row) ≡ false) (sym f) (take_lacks 0 row i r h) in
            let was : row_at new c ≡ row_at old c = before ∙ cond-false _ _ _ lacks in
            one ∙ cond-true _ _ _ (eq-eqb c x f) ∙ ap (λ xs. xs ++ n ∷ []) was ∙ sym (cond-true _ _ _ (has_next ∙ or_right (has c (take i row)) _ (eq-eqb c x f))))
        | inr f ↦ (
            let test : has c (take (i + 1) row) ≡ has c (take i row) = has_next ∙ ap (λ b. has c (take i row) || b) (ne_eqb c x f) ∙ or_false (has c (take i row)) in
            one ∙ cond-false _ _ _ (ne_eqb c x f) ∙ before ∙ ap (λ b. cond b (row_at old c ++ n ∷ []) (row_at old c)) (sym test))
      ];
  as_long = a.as_long ∙ e.as_long;
}
  where
    or_false : (b : Bool) → (b || false) ≡ b
    or_false true = refl
    or_false false = refl

-- ---- all rows

row_at_replicate : (n c : ℕ) → row_at (replicate n []) c ≡ []
row_at_replicate zero c = refl
row_at_replicate (suc n) zero = refl
row_at_replicate (suc n) (suc c) = row_at_replicate n c

length_replicate : (n : ℕ) → length (replicate {A = List ℕ} n []) ≡ n
length_replicate zero = refl
length_replicate (suc n) = ap suc (length_replicate n)

pub transpose_none : (columns : ℕ) → TransposeSoFar columns 0 [] (replicate columns [])
transpose_none columns = record {
  is = record {
    same = λ c i k. ap (has i) (row_at_replicate columns c);
    rises = λ c. subst (RisesFrom 0) (sym (row_at_replicate columns c)) tt;
  };
  below = λ c i k. absurd (true≢false (sym (sym (ap (has i) (row_at_replicate columns c)) ∙ k)));
  wide = length_replicate columns;
}

rises_push : (l n : ℕ) (xs : List ℕ) → l ≤ n → RisesFrom l xs → ((m : ℕ) → has m xs ≡ true → m < n) → RisesFrom l (xs ++ n ∷ [])
rises_push l n [] h r f = (h, tt)
rises_push l n (x ∷ xs) h r f = (r.0, rises_push (suc x) n xs (f x (has_here x x xs refl)) r.1 (λ m e. f m (has_later m x xs e)))

pub transpose_more : (columns i : ℕ) (rows transpose next : List (List ℕ)) (row : List ℕ) → length rows ≡ i → TransposeSoFar columns i rows transpose → Enters transpose row i next → TransposeSoFar columns (i + 1) (rows ++ row ∷ []) next
transpose_more columns i rows transpose next row long h e = record {
  is = record { same = same; rises = λ c. elim (cases_lt c columns) [ inl k ↦ rises c k | inr k ↦ subst (RisesFrom 0) (sym (row_at_none next c (wide c k))) tt ] };
  below = λ c n k. elim (cases_lt c columns) [ inl l ↦ under c n l k | inr l ↦ absurd (true≢false (sym (sym (ap (has n) (row_at_none next c (wide c l))) ∙ k))) ];
  wide = e.as_long ∙ h.wide;
}
  where
    wide : (c : ℕ) → columns ≤ c → length next ≤ c
    wide c k = let a = e.as_long in let b = h.wide in omega arith

    at : (c : ℕ) → c < columns → row_at next c ≡ cond (has c row) (row_at transpose c ++ i ∷ []) (row_at transpose c)
    at c k = e.at c (let b = h.wide in omega arith)

    not_yet : (c : ℕ) → has i (row_at transpose c) ≡ false
    not_yet c = elim (cases_Bool (has i (row_at transpose c))) [ inl f ↦ absurd (let l = h.below c i f in omega arith) | inr f ↦ f ]

    -- the rows before and after the one that is entered
    other : (n c : ℕ) → n ≢ i → has c (row_at (rows ++ row ∷ []) n) ≡ has c (row_at rows n)
    other n c d = elim (cases_lt n i) [
      | inl l ↦ ap (has c) (row_at_left rows (row ∷ []) n (omega arith))
      | inr l ↦ ap (has c) (row_at_none (rows ++ row ∷ []) n (simp length-append (strict n d l)) ∙ sym (row_at_none rows n (omega arith)))
    ]
      where
        strict : (n : ℕ) → n ≢ i → i ≤ n → length rows + 1 ≤ n
        strict n d l = elim (cases_order n i) [ inl f ↦ absurd (d f) | inr f ↦ elim f [ inl g ↦ absurd (omega arith) | inr g ↦ omega arith ] ]

    same : (c n : ℕ) → c < columns → has n (row_at next c) ≡ has c (row_at (rows ++ row ∷ []) n)
    same c n k = ap (has n) (at c k) ∙ go (has c row) refl (cases_eq n i)
      where
        go : (b : Bool) → has c row ≡ b → (n ≡ i) ⊎ (n ≢ i) → has n (cond b (row_at transpose c ++ i ∷ []) (row_at transpose c)) ≡ has c (row_at (rows ++ row ∷ []) n)
        go true f (inl g) = has_append n (row_at transpose c) i ∙ or_right (has n (row_at transpose c)) _ (eq-eqb n i g) ∙ sym (ap (has c) (row_at_last rows row n (g ∙ sym long)) ∙ f)
        go true f (inr g) = has_append n (row_at transpose c) i ∙ ap (λ b. has n (row_at transpose c) || b) (ne_eqb n i g) ∙ or_false (has n (row_at transpose c)) ∙ h.is.same c n k ∙ sym (other n c g)
          where
            or_false : (b : Bool) → (b || false) ≡ b
            or_false true = refl
            or_false false = refl
        go false f (inl g) = ap (λ m. has m (row_at transpose c)) g ∙ not_yet c ∙ sym (ap (has c) (row_at_last rows row n (g ∙ sym long)) ∙ f)
        go false f (inr g) = h.is.same c n k ∙ sym (other n c g)

    rises : (c : ℕ) → c < columns → RisesFrom 0 (row_at next c)
    rises c k = subst (RisesFrom 0) (sym (at c k)) (go (has c row))
      where
        go : (b : Bool) → RisesFrom 0 (cond b (row_at transpose c ++ i ∷ []) (row_at transpose c))
        go true = rises_push 0 i (row_at transpose c) (omega arith) (h.is.rises c) (λ m f. h.below c m f)
        go false = h.is.rises c

    under : (c n : ℕ) → c < columns → has n (row_at next c) ≡ true → n < i + 1
    under c n k f = go (has c row) (sym (ap (has n) (at c k)) ∙ f)
      where
        go : (b : Bool) → has n (cond b (row_at transpose c ++ i ∷ []) (row_at transpose c)) ≡ true → n < i + 1
        go true g = elim (or_cases (has n (row_at transpose c)) (eqb n i) (sym (has_append n (row_at transpose c) i) ∙ g)) [ inl l ↦ (let m = h.below c n l in omega arith) | inr l ↦ (let m = eqb-true n i l in omega arith) ]
        go false g = let m = h.below c n g in omega arith

pub rising_at : (rows : List (List ℕ)) (i : ℕ) → AreRising rows → RisesFrom 0 (row_at rows i)
rising_at [] i h = tt
rising_at (row ∷ rows) zero h = h.0
rising_at (row ∷ rows) (suc i) h = rising_at rows i h.1

pub replicate_more : (n : ℕ) → replicate {A = List ℕ} n [] ++ [] ∷ [] ≡ replicate (n + 1) []
replicate_more zero = refl
replicate_more (suc n) = rw (add-one (suc n)) (ap (λ xs. [] ∷ xs) (replicate_more n ∙ ap (λ k. replicate k []) (add-one n)))
