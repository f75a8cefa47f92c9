-- Four words at a time.
use Rattle.std.proofs.Common.{◌≡◌, ◌≢◌, ℕ, zero, suc, ◌+◌, ◌-◌, ◌*◌, ◌/◌, ◌^◌, ◌<◌, ◌≤◌, eqb, eq-eqb, List, [], ◌∷◌, ◌++◌, length, take, drop, map, get_or, refl, ap, sym, subst, ◌∙◌, arith, inl, inr, Bool, IsTrue, ◌↔◌, bit_and, bit_or}
use Rattle.std.specs.Int.{bit_not, w64}
use Rattle.std.specs.Simd.{first_chunks}
use Rattle.std.specs.Simd.Lanes.{fold_l, zip2}
use Rattle.std.proofs.lemmas.Bool.{eqb-true, cases_lt}
use Rattle.std.proofs.lemmas.Nat.{le_or_l, le_or_r, and_le_l, or_lt}
use Rattle.std.proofs.lemmas.Nat.Bits.{bit_at_and, bit_at-lt, bit_at-zero}
use Rattle.std.specs.Int.{bit_at}
use Rattle.std.proofs.lemmas.List.{get_or-take, get_or-drop, length-drop, length-append, length-take-le, take-append-drop, get_or_append_left, get_or-append_right}
use Rattle.std.proofs.lemmas.Slice.{take-put_mid, drop-put_mid}
use borrow.Rule.Slice.PartMut.{put_mid}
use Rattle.cube.specs.Words.{IsBitSubset, HasNoEmptyPair, ShareBit}
use Rattle.cube.proofs.WordLemmas.{bits_from_covers, covers_from_bits, test_from_pairs, folded_bit, lower_bit_even}

-- an `or` of numbers is 0 where each is
zero_from_or : (acc : ℕ) (xs : List ℕ) → fold_l bit_or acc xs ≡ 0 → (acc ≡ 0) × ((k : ℕ) → k < length xs → get_or xs k 0 ≡ 0)
zero_from_or acc [] e = (e, λ k lt. absurd (omega arith))
zero_from_or acc (x ∷ xs) e =
    let rest = zero_from_or (bit_or acc x) xs e in
    (omega (arith, le_or_l acc x, rest.0), at x xs (omega (arith, le_or_r acc x, rest.0)) rest.1)
  where
    at : (x : ℕ) (xs : List ℕ) → x ≡ 0 → ((k : ℕ) → k < length xs → get_or xs k 0 ≡ 0)
        → (k : ℕ) → k < length (x ∷ xs) → get_or (x ∷ xs) k 0 ≡ 0
    at x xs h all zero lt = h
    at x xs h all (suc k) lt = all k (omega arith)

or_from_zero : (xs : List ℕ) → ((k : ℕ) → k < length xs → get_or xs k 0 ≡ 0) → fold_l bit_or 0 xs ≡ 0
or_from_zero [] h = refl
or_from_zero (x ∷ xs) h =
    let x_is : x ≡ 0 = h 0 (omega arith) in
    ap (λ y. fold_l bit_or (bit_or 0 y) xs) x_is ∙ or_from_zero xs (λ k lt. h (suc k) (omega arith))

-- the lower bit of each pair
abbrev lower : ℕ
lower = 6148914691236517205

-- four lanes whose `or` is 0
four-iff : (w x y z : ℕ) (f : ℕ → ℕ) → w ≡ f 0 → x ≡ f 1 → y ≡ f 2 → z ≡ f 3 → IsTrue (eqb (fold_l bit_or 0 (w ∷ x ∷ y ∷ z ∷ [])) 0) ↔ ((k : ℕ) → k < 4 → f k ≡ 0)
four-iff w x y z f ew ex ey ez = (
  λ t. each (zero_from_or 0 (w ∷ x ∷ y ∷ z ∷ []) (eqb-true _ _ t)).1,
  λ h. eq-eqb _ _ (or_from_zero (w ∷ x ∷ y ∷ z ∷ []) (λ k lt. back h k lt)),
)
  where
    each : ((k : ℕ) → k < 4 → get_or (w ∷ x ∷ y ∷ z ∷ []) k 0 ≡ 0) → (k : ℕ) → k < 4 → f k ≡ 0
    each h zero lt = sym ew ∙ h 0 lt
    each h (suc zero) lt = sym ex ∙ h 1 lt
    each h (suc (suc zero)) lt = sym ey ∙ h 2 lt
    each h (suc (suc (suc zero))) lt = sym ez ∙ h 3 lt
    each h (suc (suc (suc (suc k)))) lt = absurd (omega arith)

    back : ((k : ℕ) → k < 4 → f k ≡ 0) → (k : ℕ) → k < 4 → get_or (w ∷ x ∷ y ∷ z ∷ []) k 0 ≡ 0
    back h zero lt = ew ∙ h 0 lt
    back h (suc zero) lt = ex ∙ h 1 lt
    back h (suc (suc zero)) lt = ey ∙ h 2 lt
    back h (suc (suc (suc zero))) lt = ez ∙ h 3 lt
    back h (suc (suc (suc (suc k)))) lt = absurd (omega arith)

-- a list of four
four : (P : List ℕ → Type 0) → ((w x y z : ℕ) → P (w ∷ x ∷ y ∷ z ∷ [])) → (a : List ℕ) → length a ≡ 4 → P a
four P h [] e = absurd (omega arith)
four P h (w ∷ []) e = absurd (omega arith)
four P h (w ∷ x ∷ []) e = absurd (omega arith)
four P h (w ∷ x ∷ y ∷ []) e = absurd (omega arith)
four P h (w ∷ x ∷ y ∷ z ∷ []) e = h w x y z
four P h (w ∷ x ∷ y ∷ z ∷ v ∷ rest) e = absurd (omega arith)

-- what of b is not in a
abbrev pub beyond : ℕ → ℕ → ℕ
beyond a b = bit_and b (bit_not w64 a)

-- the pairs that have no bit in both
abbrev pub empty_pairs : ℕ → ℕ → ℕ
empty_pairs a b = bit_and lower (bit_not w64 (bit_or (bit_and a b) (bit_and a b / 2)))

pub covers_four-iff : (a b : List ℕ) → length a ≡ 4 → length b ≡ 4
    → IsTrue (eqb (fold_l bit_or 0 (zip2 bit_and b (map (bit_not w64) a))) 0) ↔ ((k : ℕ) → k < 4 → beyond (get_or a k 0) (get_or b k 0) ≡ 0)
covers_four-iff a b ea eb =
    four (λ l. IsTrue (eqb (fold_l bit_or 0 (zip2 bit_and b (map (bit_not w64) l))) 0) ↔ ((k : ℕ) → k < 4 → beyond (get_or l k 0) (get_or b k 0) ≡ 0))
    (λ w x y z. four (λ m. IsTrue (eqb (fold_l bit_or 0 (zip2 bit_and m (map (bit_not w64) (w ∷ x ∷ y ∷ z ∷ [])))) 0)
    ↔ ((k : ℕ) → k < 4 → beyond (get_or (w ∷ x ∷ y ∷ z ∷ []) k 0) (get_or m k 0) ≡ 0))
    (λ s t u v. four-iff _ _ _ _ (λ k. beyond (get_or (w ∷ x ∷ y ∷ z ∷ []) k 0) (get_or (s ∷ t ∷ u ∷ v ∷ []) k 0)) refl refl refl refl) b eb)
    a ea

-- the lanes of the pairs that are empty
abbrev pub empty_lanes : List ℕ → List ℕ → List ℕ
empty_lanes a b =
    zip2 bit_and (lower ∷ lower ∷ lower ∷ lower ∷ []) (map (bit_not w64) (zip2 bit_or (zip2 bit_and a b) (zip2 (λ x n. x / 2 ^ n) (zip2 bit_and a b) (1 ∷ 1 ∷ 1 ∷ 1 ∷ []))))

pub pairs_four-iff : (a b : List ℕ) → length a ≡ 4 → length b ≡ 4
    → IsTrue (eqb (fold_l bit_or 0 (empty_lanes a b)) 0) ↔ ((k : ℕ) → k < 4 → empty_pairs (get_or a k 0) (get_or b k 0) ≡ 0)
pairs_four-iff a b ea eb =
    four (λ l. IsTrue (eqb (fold_l bit_or 0 (empty_lanes l b)) 0) ↔ ((k : ℕ) → k < 4 → empty_pairs (get_or l k 0) (get_or b k 0) ≡ 0))
    (λ w x y z. four (λ m. IsTrue (eqb (fold_l bit_or 0 (empty_lanes (w ∷ x ∷ y ∷ z ∷ []) m)) 0)
    ↔ ((k : ℕ) → k < 4 → empty_pairs (get_or (w ∷ x ∷ y ∷ z ∷ []) k 0) (get_or m k 0) ≡ 0))
    (λ s t u v. four-iff _ _ _ _ (λ k. empty_pairs (get_or (w ∷ x ∷ y ∷ z ∷ []) k 0) (get_or (s ∷ t ∷ u ∷ v ∷ []) k 0)) refl refl refl refl) b eb)
    a ea

pub common_four-iff : (a b : List ℕ) → length a ≡ 4 → length b ≡ 4
    → IsTrue (eqb (fold_l bit_or 0 (zip2 bit_and a b)) 0) ↔ ((k : ℕ) → k < 4 → bit_and (get_or a k 0) (get_or b k 0) ≡ 0)
common_four-iff a b ea eb =
    four (λ l. IsTrue (eqb (fold_l bit_or 0 (zip2 bit_and l b)) 0) ↔ ((k : ℕ) → k < 4 → bit_and (get_or l k 0) (get_or b k 0) ≡ 0))
    (λ w x y z. four (λ m. IsTrue (eqb (fold_l bit_or 0 (zip2 bit_and (w ∷ x ∷ y ∷ z ∷ []) m)) 0)
    ↔ ((k : ℕ) → k < 4 → bit_and (get_or (w ∷ x ∷ y ∷ z ∷ []) k 0) (get_or m k 0) ≡ 0))
    (λ s t u v. four-iff _ _ _ _ (λ k. bit_and (get_or (w ∷ x ∷ y ∷ z ∷ []) k 0) (get_or (s ∷ t ∷ u ∷ v ∷ []) k 0)) refl refl refl refl) b eb)
    a ea

-- of four numbers that are not all 0, one that is not
pub one_of_four : (f : ℕ → ℕ) → (((k : ℕ) → k < 4 → f k ≡ 0) → ⊥) → (k : ℕ) × (k < 4) × (f k ≢ 0)
one_of_four f h = elim (cases_lt 0 (f 0)) [
  | inl some ↦ (0, omega arith, λ e. omega (arith, some, e))
  | inr none_0 ↦ elim (cases_lt 0 (f 1)) [
    | inl some ↦ (1, omega arith, λ e. omega (arith, some, e))
    | inr none_1 ↦ elim (cases_lt 0 (f 2)) [
      | inl some ↦ (2, omega arith, λ e. omega (arith, some, e))
      | inr none_2 ↦ elim (cases_lt 0 (f 3)) [
        | inl some ↦ (3, omega arith, λ e. omega (arith, some, e))
        | inr none_3 ↦ absurd (h (each (omega (arith, none_0)) (omega (arith, none_1)) (omega (arith, none_2)) (omega (arith, none_3))))
      ]
    ]
  ]
]
  where
    each : f 0 ≡ 0 → f 1 ≡ 0 → f 2 ≡ 0 → f 3 ≡ 0 → (k : ℕ) → k < 4 → f k ≡ 0
    each a b c d zero lt = a
    each a b c d (suc zero) lt = b
    each a b c d (suc (suc zero)) lt = c
    each a b c d (suc (suc (suc zero))) lt = d
    each a b c d (suc (suc (suc (suc k)))) lt = absurd (omega arith)

-- what the tests of a word say of its bits
pub subset-iff : (a b : ℕ) → a < 2 ^ 64 → b < 2 ^ 64 → beyond a b ≡ 0 ↔ IsBitSubset b a
subset-iff a b fits_a fits_b = (bits_from_covers a b fits_a, covers_from_bits a b fits_a fits_b)

pub pairs-iff : (a b : ℕ) → a < 2 ^ 64 → b < 2 ^ 64 → empty_pairs a b ≡ 0 ↔ HasNoEmptyPair (bit_and a b)
pairs-iff a b fits_a fits_b =
    let w = bit_and a b in
    let small : w < 2 ^ 64 = omega (arith, and_le_l a b) in
    let half : w / 2 < 2 ^ 64 = omega arith in
    let folded = bit_or w (w / 2) in
    let fits : folded < 2 ^ 64 = or_lt 64 w (w / 2) small half in (
      λ e k lt. omega (arith, bits_from_covers folded lower fits e (2 * k) (omega arith), folded_bit w (2 * k), lower_bit_even k lt),
      λ h. covers_from_bits folded lower fits (omega arith)
          (λ k _. omega (arith, ap (λ x. bit_at x k) (test_from_pairs w h), bit_at_and folded lower k, bit_at-lt folded k, bit_at-lt lower k)),
    )

-- an element of a chunk
pub get_or-first_chunks : (n count : ℕ) (xs : List ℕ) (i j : ℕ) (d : List ℕ) → i < count → j < n
    → get_or (get_or (first_chunks n count xs) i d) j 0 ≡ get_or xs (i * n + j) 0
get_or-first_chunks n zero xs i j d lt in_chunk = absurd (omega arith)
get_or-first_chunks n (suc count) xs zero j d lt in_chunk =
    get_or-take n xs j 0 in_chunk ∙ ap (λ x. get_or xs x 0) (omega arith)
get_or-first_chunks n (suc count) xs (suc i) j d lt in_chunk =
    get_or-first_chunks n count (drop n xs) i j d (omega arith) in_chunk
    ∙ get_or-drop n xs (i * n + j) 0 ∙ ap (λ x. get_or xs x 0) (omega arith)

-- ---- rows of words, by a fact of each two

module _ (P : ℕ → ℕ → Type 0) (a b : List ℕ) (same : length a ≡ length b) where
  -- the answer on block k, of the words themselves
  pub block-iff : (f : ℕ → ℕ → ℕ) (blocks_a blocks_b : List (List ℕ)) (k : ℕ) (r : Bool) → blocks_a ≡ first_chunks 4 (length a / 4) a
      → blocks_b ≡ first_chunks 4 (length b / 4) b → k < length a / 4 → ((i : ℕ) → f (get_or a i 0) (get_or b i 0) ≡ 0 ↔ P (get_or a i 0) (get_or b i 0))
      → IsTrue r ↔ ((j : ℕ) → j < 4 → f (get_or (get_or blocks_a k []) j 0) (get_or (get_or blocks_b k []) j 0) ≡ 0)
      → IsTrue r ↔ ((j : ℕ) → j < 4 → P (get_or a (k * 4 + j) 0) (get_or b (k * 4 + j) 0))
  block-iff f blocks_a blocks_b k r ea eb lt means says =
      let in_b : k < length b / 4 = rw (← same) lt in
      let at : (j : ℕ) → j < 4 → f (get_or (get_or blocks_a k []) j 0) (get_or (get_or blocks_b k []) j 0) ≡ f (get_or a (k * 4 + j) 0) (get_or b (k * 4 + j) 0) =
      λ j small.
      let of_a = ap (λ l. get_or (get_or l k []) j 0) ea ∙ get_or-first_chunks 4 (length a / 4) a k j [] lt small in
      let of_b = ap (λ l. get_or (get_or l k []) j 0) eb ∙ get_or-first_chunks 4 (length b / 4) b k j [] in_b small in
      ap (λ x. f x (get_or (get_or blocks_b k []) j 0)) of_a ∙ ap (λ x. f (get_or a (k * 4 + j) 0) x) of_b in (
        λ t j small. (means (k * 4 + j)).0 (sym (at j small) ∙ says.0 t j small),
        λ h. says.1 (λ j small. at j small ∙ (means (k * 4 + j)).1 (h j small)),
      )

  -- one block more
  pub block_more : (k : ℕ) → ((j : ℕ) → j < 4 * k → P (get_or a j 0) (get_or b j 0))
      → ((j : ℕ) → j < 4 → P (get_or a (k * 4 + j) 0) (get_or b (k * 4 + j) 0)) → (j : ℕ) → j < 4 * (k + 1) → P (get_or a j 0) (get_or b j 0)
  block_more k before block j lt = elim (cases_lt j (4 * k)) [
    | inl early ↦ before j early
    | inr late ↦
        let at : k * 4 + (j - 4 * k) ≡ j = omega arith in
        subst (λ x. P (get_or a x 0) (get_or b x 0)) at (block (j - 4 * k) (omega arith))
  ]

  -- the rest behind the blocks
  pub rest-iff : (xs ys : List ℕ) (q : ℕ) (r : Bool) → xs ≡ drop (q * 4) a → ys ≡ drop (q * 4) b → ((j : ℕ) → j < 4 * q → P (get_or a j 0) (get_or b j 0))
      → IsTrue r ↔ ((v : ℕ) → v < length xs → P (get_or xs v 0) (get_or ys v 0)) → IsTrue r ↔ ((v : ℕ) → v < length a → P (get_or a v 0) (get_or b v 0))
  rest-iff xs ys q r ex ey front says =
      let long : length xs ≡ length a - q * 4 = ap length ex ∙ length-drop (q * 4) a in
      let of_a = λ (v : ℕ). ap (λ l. get_or l v 0) ex ∙ get_or-drop (q * 4) a v 0 in
      let of_b = λ (v : ℕ). ap (λ l. get_or l v 0) ey ∙ get_or-drop (q * 4) b v 0 in (
        λ t v lt. elim (cases_lt v (4 * q)) [
          | inl early ↦ front v early
          | inr late ↦
              let at : q * 4 + (v - 4 * q) ≡ v = omega arith in
              subst (λ i. P (get_or a i 0) (get_or b i 0)) at
              (subst (λ x. P x (get_or b (q * 4 + (v - 4 * q)) 0)) (of_a (v - 4 * q))
              (subst (λ y. P (get_or xs (v - 4 * q) 0) y) (of_b (v - 4 * q)) (says.0 t (v - 4 * q) (omega (arith, long)))))
        ],
        λ h. says.1 (λ v lt.
            subst (λ x. P x (get_or ys v 0)) (sym (of_a v)) (subst (λ y. P (get_or a (q * 4 + v) 0) y) (sym (of_b v)) (h (q * 4 + v) (omega (arith, long))))),
      )

-- ---- bits in both of two rows

-- some bit is in both, where none is in the blocks
pub share-rest-iff : (a b xs ys : List ℕ) (q : ℕ) (r : Bool) → xs ≡ drop (q * 4) a → ys ≡ drop (q * 4) b
    → ((j : ℕ) → j < 4 * q → bit_and (get_or a j 0) (get_or b j 0) ≡ 0) → IsTrue r ↔ ShareBit xs ys → IsTrue r ↔ ShareBit a b
share-rest-iff a b xs ys q r ex ey front says =
    let long : length xs ≡ length a - q * 4 = ap length ex ∙ length-drop (q * 4) a in
    let at : (v : ℕ) → bit_and (get_or xs v 0) (get_or ys v 0) ≡ bit_and (get_or a (q * 4 + v) 0) (get_or b (q * 4 + v) 0) =
    λ v. ap (λ l. bit_and (get_or l v 0) (get_or ys v 0)) ex ∙ ap (λ x. bit_and x (get_or ys v 0)) (get_or-drop (q * 4) a v 0)
    ∙ ap (λ l. bit_and (get_or a (q * 4 + v) 0) (get_or l v 0)) ey ∙ ap (λ y. bit_and (get_or a (q * 4 + v) 0) y) (get_or-drop (q * 4) b v 0) in (
      λ t.
          let found = says.0 t in
          (q * 4 + found.0, omega (arith, long, found.1), (found.2.0, found.2.1, ap (λ x. bit_at x found.2.0) (sym (at found.0)) ∙ found.2.2)),
      λ found. elim (cases_lt found.0 (4 * q)) [
        | inl early ↦ absurd (omega (arith, ap (λ x. bit_at x found.2.0) (front found.0 early), bit_at-zero found.2.0, found.2.2))
        | inr late ↦
            let back : q * 4 + (found.0 - 4 * q) ≡ found.0 = omega arith in
            says.1 (
              found.0 - 4 * q,
              omega (arith, long, found.1),
              (
                found.2.0,
                found.2.1,
                ap (λ x. bit_at x found.2.0) (at (found.0 - 4 * q)) ∙ ap (λ i. bit_at (bit_and (get_or a i 0) (get_or b i 0)) found.2.0) back
                    ∙ found.2.2,
              ),
            )
      ],
    )

-- four more words are put in
pub put_four_more : (P : ℕ → ℕ → Type 0) (row four : List ℕ) (i n : ℕ) → i + 4 ≤ length row → n ≡ 4 → length four ≡ 4
    → ((j : ℕ) → j < i → P j (get_or row j 0)) → ((j : ℕ) → j < 4 → P (i + j) (get_or four j 0))
    → (length (put_mid i n row four) ≡ length row) × ((j : ℕ) → j < i + 4 → P j (get_or (put_mid i n row four) j 0))
put_four_more P row four i n within width len before here =
    let fits : i ≤ length row = omega arith in
    let front : take (i + 4) (put_mid i n row four) ≡ take i row ++ four = take-put_mid i n row four (i + 4) (omega (arith, len)) fits in
    let rest : drop (i + 4) (put_mid i n row four) ≡ drop (i + 4) row =
    drop-put_mid i n row four (i + 4) (omega (arith, width)) fits (omega (arith, len, width)) in
    let long : length (take i row) ≡ i = length-take-le i row fits in
    let whole : length (put_mid i n row four) ≡ length (take i row ++ four) + length (drop (i + 4) row) =
    ap length (sym (take-append-drop (i + 4) (put_mid i n row four))) ∙ length-append (take (i + 4) (put_mid i n row four)) (drop (i + 4) (put_mid i n row four))
    ∙ ap (λ l. length l + length (drop (i + 4) (put_mid i n row four))) front ∙ ap (λ l. length (take i row ++ four) + length l) rest in
    let same : length (put_mid i n row four) ≡ length row =
    omega (arith, whole, length-append (take i row) four, long, len, length-drop (i + 4) row) in
    let word : (j : ℕ) → j < i + 4 → get_or (put_mid i n row four) j 0 ≡ get_or (take i row ++ four) j 0 =
    λ j lt. sym (get_or-take (i + 4) (put_mid i n row four) j 0 lt) ∙ ap (λ l. get_or l j 0) front in (
      same,
      λ j lt. elim (cases_lt j i) [
        | inl early ↦
            subst (λ x. P j x)
            (sym (word j lt ∙ get_or_append_left (take i row) four 0 j (omega (arith, long)) ∙ get_or-take i row j 0 early))
            (before j early)
        | inr late ↦
            let back : i + (j - i) ≡ j = omega arith in
            let x_is : get_or (put_mid i n row four) j 0 ≡ get_or four (j - i) 0 =
            word j lt ∙ get_or-append_right (take i row) four i j 0 long late in
            subst (λ x. P j x) (sym x_is) (subst (λ k. P k (get_or four (j - i) 0)) back (here (j - i) (omega arith)))
      ],
    )
