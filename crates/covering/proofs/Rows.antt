-- Rows as the code holds them.
use Rattle.std.proofs.Common.{◌≡◌, ℕ, zero, suc, ◌+◌, ◌<◌, ◌≤◌, inl, inr, Bool, true, false, cond, ◌||◌, List, [], ◌∷◌, ◌++◌, length, map, take, drop, set, get_or, slice_index_or, refl, sym, ap, ◌∙◌, append_assoc, arith, Vec}
use Rattle.std.specs.Prelude.{filter}
use Rattle.std.specs.List.{list_any, swap}
use Rattle.std.proofs.lemmas.Bool.{cases_lt, cond-true, cond-false}
use Rattle.std.proofs.lemmas.List.{append-nil, take_all, take_more, drop_all, drop_more, map-append, map-set, set-set, take-set-le, take_more_set, drop-set-lt}
use Rattle.std.proofs.lemmas.List.Edits.{swap_is}
use Rattle.covering.specs.Table.{items_of}
use Rattle.covering.specs.Reduce.{rows_from}
use Rattle.covering.proofs.TransposeSteps.{row_at_items, length_items}

pub take_items : {Z : Type 0} (rows : List (Vec ℕ Z)) (i : ℕ) (r : Vec ℕ Z) → i < length rows → r ≡ slice_index_or rows i r → items_of (take (i + 1) rows) ≡ items_of (take i rows) ++ r.items ∷ []
take_items rows i r l e = ap items_of (take_more rows i r l) ∙ map-append (λ row. row.items) (take i rows) (slice_index_or rows i r ∷ []) ∙ ap (λ v. items_of (take i rows) ++ v.items ∷ []) (sym e)

pub filter_items : {Z : Type 0} (p : List ℕ → Bool) (rows : List (Vec ℕ Z)) → items_of (filter (λ row. p row.items) rows) ≡ filter p (items_of rows)
filter_items p [] = refl
filter_items p (row ∷ rows) = go (p row.items) (filter_items p rows)
  where
    go : (b : Bool) → items_of (filter (λ r. p r.items) rows) ≡ filter p (items_of rows) → items_of (cond b (row ∷ filter (λ r. p r.items) rows) (filter (λ r. p r.items) rows)) ≡ cond b (row.items ∷ filter p (items_of rows)) (filter p (items_of rows))
    go true e = ap (λ rs. row.items ∷ rs) e
    go false e = e

pub map_items : {Z : Type 0} (f : List ℕ → List ℕ) (rows : List (Vec ℕ Z)) → map (λ row. f row.items) rows ≡ map f (items_of rows)
map_items f [] = refl
map_items f (row ∷ rows) = ap (λ rs. f row.items ∷ rs) (map_items f rows)

pub any_items : {Z : Type 0} (p : List ℕ → Bool) (rows : List (Vec ℕ Z)) → list_any (λ row. p row.items) rows ≡ list_any p (items_of rows)
any_items p [] = refl
any_items p (row ∷ rows) = ap (λ b. p row.items || b) (any_items p rows)

-- ---- one row more is changed

one_changed : (f : List ℕ → List ℕ) (rows : List (List ℕ)) (i : ℕ) → i < length rows
    → set (map f (take i rows) ++ drop i rows) i (f (slice_index_or (map f (take i rows) ++ drop i rows) i [])) ≡ map f (take (i + 1) rows) ++ drop (i + 1) rows
one_changed f [] i l = absurd (omega arith)
one_changed f (row ∷ rows) zero l = refl
one_changed f (row ∷ rows) (suc i) l =
    let next : suc (i + 1) ≡ suc i + 1 = omega arith in
    ap (λ rs. f row ∷ rs) (one_changed f rows i (omega arith)) ∙ ap (λ j. map f (take j (row ∷ rows)) ++ drop j (row ∷ rows)) next

pub changed_more : {Z : Type 0} (f : List ℕ → List ℕ) (old : List (List ℕ)) (rows : List (Vec ℕ Z)) (i : ℕ) (r v : Vec ℕ Z)
    → i < length rows → i < length old → v.items ≡ f (slice_index_or rows i r).items
    → items_of rows ≡ map f (take i old) ++ drop i old → items_of (set rows i v) ≡ map f (take (i + 1) old) ++ drop (i + 1) old
changed_more f old rows i r v l m e is =
    map-set (λ row. row.items) rows i v ∙ ap (set (items_of rows) i) (e ∙ ap f (sym (row_at_items rows i r l)))
    ∙ ap (λ rs. set rs i (f (slice_index_or rs i []))) is ∙ one_changed f old i m

-- all rows are changed
pub changed_all : {Z : Type 0} (f : List ℕ → List ℕ) (old rows : List (Vec ℕ Z)) (i n : ℕ) → length rows ≡ length old → length old ≤ i → length rows ≤ n
    → items_of rows ≡ map f (take i (items_of old)) ++ drop i (items_of old) → items_of (take n (rows ++ drop (length rows) old)) ≡ map f (items_of old)
changed_all f old rows i n long past within is =
    let end : length (items_of old) ≤ i = omega (arith, length_items old) in
    ap (λ xs. items_of (take n (rows ++ xs))) (drop_all (length rows) old (omega arith))
    ∙ ap (λ xs. items_of (take n xs)) (append-nil rows) ∙ ap items_of (take_all n rows within)
    ∙ is ∙ ap (λ xs. map f (take i (items_of old)) ++ xs) (drop_all i (items_of old) end)
    ∙ append-nil (map f (take i (items_of old))) ∙ ap (map f) (take_all i (items_of old) end)

-- ---- rows that stay move to the front

first_of : {X : Type 0} (xs : List X) → 0 < length xs → X
first_of [] l = absurd (omega arith)
first_of (x ∷ xs) l = x

swap_front : {X : Type 0} (xs : List X) (n k : ℕ) (d : X) → n ≤ k → k < length xs → take (n + 1) (swap xs n k) ≡ take n xs ++ get_or xs k d ∷ []
swap_front xs n k d le lt =
    let x = get_or xs k d in
    ap (take (n + 1)) (sym (swap_is xs n k d (omega arith) lt)) ∙ elim (cases_lt n k) [
      | inl before ↦ take-set-le (n + 1) (set xs n x) k (get_or xs n d) (omega arith)
      | inr past ↦
          let same : k ≡ n = omega arith in
          ap (λ j. take (n + 1) (set (set xs n x) j (get_or xs n d))) same
          ∙ ap (λ j. take (n + 1) (set (set xs n x) n (get_or xs j d))) (sym same) ∙ ap (take (n + 1)) (set-set xs n x x)
    ] ∙ take_more_set xs n x (omega arith)

swap_back : {X : Type 0} (xs : List X) (n k : ℕ) (d : X) → n ≤ k → k < length xs → drop (k + 1) (swap xs n k) ≡ drop (k + 1) xs
swap_back xs n k d le lt =
    ap (drop (k + 1)) (sym (swap_is xs n k d (omega arith) lt))
    ∙ drop-set-lt (k + 1) (set xs n (get_or xs k d)) k (get_or xs n d) (omega arith) ∙ drop-set-lt (k + 1) xs n (get_or xs k d) (omega arith)

pub row_stays : {Z : Type 0} (test : ℕ → Bool) (rows new : List (Vec ℕ Z)) (n k : ℕ) → n ≤ k → k < length rows → test k ≡ true → new ≡ swap rows n k
    → items_of (take (n + 1) new) ++ rows_from test (k + 1) (items_of (drop (k + 1) new)) ≡ items_of (take n rows) ++ rows_from test k (items_of (drop k rows))
row_stays test rows new n k le lt t e =
    let d = first_of rows (omega arith) in
    let row = get_or rows k d in
    let rest = rows_from test (k + 1) (items_of (drop (k + 1) rows)) in
    ap (λ rs. items_of (take (n + 1) rs) ++ rows_from test (k + 1) (items_of (drop (k + 1) rs))) e
    ∙ ap (λ rs. items_of rs ++ rows_from test (k + 1) (items_of (drop (k + 1) (swap rows n k)))) (swap_front rows n k d le lt)
    ∙ ap (λ rs. items_of (take n rows ++ row ∷ []) ++ rows_from test (k + 1) (items_of rs)) (swap_back rows n k d le lt)
    ∙ ap (λ rs. rs ++ rest) (map-append (λ r. r.items) (take n rows) (row ∷ [])) ∙ append_assoc (items_of (take n rows)) (row.items ∷ []) rest
    ∙ ap (λ rs. items_of (take n rows) ++ rs) (sym (ap (λ rs. rows_from test k (items_of rs)) (drop_more rows k d lt) ∙ cond-true (test k) (row.items ∷ rest) rest t))

pub row_goes : {Z : Type 0} (test : ℕ → Bool) (rows : List (Vec ℕ Z)) (k : ℕ) → k < length rows → test k ≡ false
    → rows_from test (k + 1) (items_of (drop (k + 1) rows)) ≡ rows_from test k (items_of (drop k rows))
row_goes test rows k lt t =
    let d = first_of rows (omega arith) in
    let rest = rows_from test (k + 1) (items_of (drop (k + 1) rows)) in
    sym (ap (λ rs. rows_from test k (items_of rs)) (drop_more rows k d lt) ∙ cond-false (test k) ((get_or rows k d).items ∷ rest) rest t)
