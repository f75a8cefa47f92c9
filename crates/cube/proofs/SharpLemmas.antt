-- What is left of a row without another: one row for each input that can be split, and one for the
-- outputs.
use Rattle.std.proofs.Common.{◌≡◌, ℕ, zero, suc, ◌<◌, ◌≤◌, Bool, true, false, not, ◌&&◌, cond, List, [], ◌∷◌, length, get_or, set, refl, ap, sym, subst, ◌∙◌, arith, inl, inr, ◌⊎◌}
use Rattle.std.specs.List.{Contains, list_any}
use Rattle.std.specs.List.Sorted.{IsStrictlySortedBy}
use Rattle.std.specs.Ordering.{ordering_then, bool_cmp}
use Rattle.std.specs.Cmp.{both_ways}
use Rattle.std.specs.Cmp.Lexicographic.{slice_cmp}
use Rattle.std.specs.declared.cmp.Ordering.TheVariants.{Less}
use Rattle.std.proofs.lemmas.Bool.{cases_lt, cases_eq, false≢true, and_parts, and_from, not-true, not_from_false, false_from_ne_true}
use Rattle.std.proofs.lemmas.List.{get_or_past, get_or-set_same, get_or-set_other, length-set, ext_get_or}
use Rattle.cube.specs.declared.symbol.Symbol.{Symbol}
use Rattle.cube.specs.declared.symbol.Symbol.TheVariants.{Dash, Zero, One}
use Rattle.cube.specs.Size.{Size}
use Rattle.cube.specs.Pattern.{agrees, matches}
use Rattle.cube.specs.Cube.{Cube, Place, holds, HasSize, SameSize, IsCube, IsSubset, IsDisjoint, difference}
use Rattle.cube.specs.Order.{symbol_cmp, row_cmp}
use Rattle.cube.specs.Sharp.{opposite, is_split, minus, rest_row, piece, splits, pieces_below}
use Rattle.cube.specs.Sum.{complete_sum, IsMaximal}
use Rattle.cube.specs.Packing.{bit_of}
use Rattle.cube.proofs.PackingLemmas.{symbol_from_bits}
use Rattle.std.proofs.lemmas.Simd.{length-zip2}
use Rattle.cube.proofs.ZipLemmas.{get_or-zip2_any}
use Rattle.cube.proofs.HoldsLemmas.{agrees_at-matches, Covers, IsSubset-from_Covers, Covers-from_IsSubset}
use Rattle.cube.proofs.MeetLemmas.{compatible, decide_inputs, decide_outputs, common_place, InputsMeet, SharesOutput}
use Rattle.cube.proofs.Members.{Contains-here, Contains-there, Contains-nil, Contains-cases, all_from}
use Rattle.cube.proofs.SumLemmas.{complete_sum-from_members, complete_sum-same, symbol_same}

-- ---- symbols

split_dash : (s t : Symbol) → is_split s t ≡ true → s ≡ Dash
split_dash Dash t h = refl
split_dash Zero t h = absurd (false≢true h)
split_dash One t h = absurd (false≢true h)

-- no bit agrees with a literal and with its opposite
pub dash_from_opposites : (s : Symbol) (bit : Bool) → agrees s bit ≡ true → agrees (opposite s) bit ≡ true → s ≡ Dash
dash_from_opposites Dash bit h x = refl
dash_from_opposites Zero true h x = absurd (false≢true h)
dash_from_opposites Zero false h x = absurd (false≢true x)
dash_from_opposites One true h x = absurd (false≢true x)
dash_from_opposites One false h x = absurd (false≢true h)

split_partial : (s t : Symbol) → is_split s t ≡ true → ((bit : Bool) → agrees (opposite t) bit ≡ true) → ⊥
split_partial Dash Dash h all = false≢true h
split_partial Dash Zero h all = false≢true (all false)
split_partial Dash One h all = false≢true (all true)
split_partial Zero t h all = false≢true h
split_partial One t h all = false≢true h

split_right : (s : Symbol) → is_split s Dash ≡ false
split_right Dash = refl
split_right Zero = refl
split_right One = refl

split_apart : (s t : Symbol) (bit : Bool) → is_split s t ≡ true → agrees (opposite t) bit ≡ true → agrees t bit ≡ true → ⊥
split_apart s t bit h x y = false≢true (sym (split_right s) ∙ subst (λ u. is_split s u ≡ true) (dash_from_opposites t bit y x) h)

split_less : (s t : Symbol) → is_split s t ≡ true → symbol_cmp s (opposite t) ≡ Less
split_less Dash Dash h = absurd (false≢true h)
split_less Dash Zero h = refl
split_less Dash One h = refl
split_less Zero t h = absurd (false≢true h)
split_less One t h = absurd (false≢true h)

-- c within a and against b, where a and b meet
conflict_opposite : (c b : Symbol) → compatible c b ≡ false → c ≡ opposite b
unfolding compatible
conflict_opposite Dash b h = absurd (false≢true (sym h))
conflict_opposite Zero Dash h = absurd (false≢true (sym h))
conflict_opposite Zero Zero h = absurd (false≢true (sym h))
conflict_opposite Zero One h = refl
conflict_opposite One Dash h = absurd (false≢true (sym h))
conflict_opposite One Zero h = refl
conflict_opposite One One h = absurd (false≢true (sym h))

conflict_split : (a b c : Symbol) → compatible c b ≡ false → compatible a b ≡ true
    → ((bit : Bool) → agrees c bit ≡ true → agrees a bit ≡ true) → is_split a b ≡ true
unfolding compatible
conflict_split a b Dash h k cover = absurd (false≢true (sym h))
conflict_split a Dash Zero h k cover = absurd (false≢true (sym h))
conflict_split a Zero Zero h k cover = absurd (false≢true (sym h))
conflict_split Dash One Zero h k cover = refl
conflict_split Zero One Zero h k cover = absurd (false≢true k)
conflict_split One One Zero h k cover = absurd (false≢true (cover false refl))
conflict_split a Dash One h k cover = absurd (false≢true (sym h))
conflict_split a One One h k cover = absurd (false≢true (sym h))
conflict_split Dash Zero One h k cover = refl
conflict_split Zero Zero One h k cover = absurd (false≢true (cover true refl))
conflict_split One Zero One h k cover = absurd (false≢true k)

same_symbol : (s t : Symbol) → ((bit : Bool) → agrees s bit ≡ true → agrees t bit ≡ true)
    → ((bit : Bool) → agrees t bit ≡ true → agrees s bit ≡ true) → s ≡ t
same_symbol s t to from = symbol_from_bits s t (same false) (same true)
  where
    same : (bit : Bool) → bit_of (agrees s bit) ≡ bit_of (agrees t bit)
    same bit = ap (λ b. bit_of b) (both_ways (agrees s bit) (agrees t bit) (to bit) (from bit))

-- rows that cover each other are equal
pub Covers-antisym : (a b : Cube) → SameSize a b → Covers a b → Covers b a → a ≡ b
Covers-antisym a b size ab ba =
    let row = λ (s : List Symbol). λ (o : List Bool). let r : Cube = record { symbols = s; outputs = o } in r in
    ap (λ s. row s a.outputs) (ext_get_or Dash a.symbols b.symbols size.0 (λ i _.
    same_symbol (get_or a.symbols i Dash) (get_or b.symbols i Dash) (ba.inputs i) (ab.inputs i)))
    ∙ ap (λ o. row b.symbols o) (ext_get_or false a.outputs b.outputs size.1 (λ j _.
    both_ways (get_or a.outputs j false) (get_or b.outputs j false) (ba.outputs j) (ab.outputs j)))

pub Covers-trans : (a b c : Cube) → Covers a b → Covers b c → Covers a c
Covers-trans a b c ab bc = record {
  inputs = λ i bit h. ab.inputs i bit (bc.inputs i bit h);
  outputs = λ j h. ab.outputs j (bc.outputs j h);
}

-- ---- the rows that are left

-- all rows that are left
abbrev pub left_rows : Cube → Cube → List Cube
left_rows a b =
    cond (list_any (λ x. x) (minus a.outputs b.outputs)) (rest_row a b ∷ pieces_below a b (length a.symbols))
    (pieces_below a b (length a.symbols))

pub get_or-minus : (bs os : List Bool) (j : ℕ) → length bs ≡ length os → get_or (minus bs os) j false ≡ (get_or bs j false && not (get_or os j false))
get_or-minus bs os j e = get_or-zip2_any (λ b o. b && not o) bs os j false false false e refl

pub length-minus : (bs os : List Bool) → length bs ≡ length os → length (minus bs os) ≡ length bs
length-minus bs os e = length-zip2 (λ b o. b && not o) bs os e

module _ (a b : Cube) where
  pub Contains-pieces : (k i : ℕ) → i < k → splits a b i ≡ true → Contains (pieces_below a b k) (piece a b i)
  Contains-pieces zero i lt h = absurd (omega arith)
  Contains-pieces (suc k) i lt h = elim (cases_eq i k) [
    | inl e ↦
        let on : splits a b k ≡ true = ap (splits a b) (sym e) ∙ h in
        rw on (subst (λ z. Contains (piece a b z ∷ pieces_below a b k) (piece a b i)) e (Contains-here (piece a b i) (pieces_below a b k)))
    | inr ne ↦ later k i (splits a b k) (Contains-pieces k i (omega arith) h)
  ]
    where
      later : (k i : ℕ) (t : Bool) → Contains (pieces_below a b k) (piece a b i) → Contains (cond t (piece a b k ∷ pieces_below a b k) (pieces_below a b k)) (piece a b i)
      later k i true h = Contains-there (piece a b k) (pieces_below a b k) (piece a b i) h
      later k i false h = h

  piece_cases : (k : ℕ) (c : Cube) → (Contains (pieces_below a b k) c → (i : ℕ) × (i < k) × (splits a b i ≡ true) × (piece a b i ≡ c))
      → (t : Bool) → splits a b k ≡ t → Contains (cond t (piece a b k ∷ pieces_below a b k) (pieces_below a b k)) c
      → (i : ℕ) × (i < suc k) × (splits a b i ≡ true) × (piece a b i ≡ c)
  piece_cases k c below true e h = elim (Contains-cases (piece a b k) (pieces_below a b k) c h) [
    | inl here ↦ (k, omega arith, e, here)
    | inr there ↦ let r = below there in (r.0, omega (arith, r.1), r.2, r.3)
  ]
  piece_cases k c below false e h = let r = below h in (r.0, omega (arith, r.1), r.2, r.3)

  pub Contains-pieces_cases : (k : ℕ) (c : Cube) → Contains (pieces_below a b k) c → (i : ℕ) × (i < k) × (splits a b i ≡ true) × (piece a b i ≡ c)
  Contains-pieces_cases zero c h = absurd (Contains-nil c h)
  Contains-pieces_cases (suc k) c h = piece_cases k c (Contains-pieces_cases k c) (splits a b k) refl h

-- ---- their order

less_set : (xs : List Symbol) (i k : ℕ) (y z : Symbol) → i < k → k < length xs → symbol_cmp (get_or xs i Dash) z ≡ Less
    → slice_cmp symbol_cmp (set xs k y) (set xs i z) ≡ Less
less_set [] i k y z lt within h = absurd (omega arith)
less_set (x ∷ xs) i zero y z lt within h = absurd (omega arith)
less_set (x ∷ xs) zero (suc k) y z lt within h = ap (λ o. ordering_then o (slice_cmp symbol_cmp (set xs k y) xs)) h
less_set (x ∷ xs) (suc i) (suc k) y z lt within h =
    ap (λ o. ordering_then o (slice_cmp symbol_cmp (set xs k y) (set xs i z))) (symbol_same x)
    ∙ less_set xs i k y z (omega arith) (omega arith) h

less_set_one : (xs : List Symbol) (i : ℕ) (z : Symbol) → i < length xs → symbol_cmp (get_or xs i Dash) z ≡ Less
    → slice_cmp symbol_cmp xs (set xs i z) ≡ Less
less_set_one [] i z within h = absurd (omega arith)
less_set_one (x ∷ xs) zero z within h = ap (λ o. ordering_then o (slice_cmp symbol_cmp xs xs)) h
less_set_one (x ∷ xs) (suc i) z within h =
    ap (λ o. ordering_then o (slice_cmp symbol_cmp xs (set xs i z))) (symbol_same x) ∙ less_set_one xs i z (omega arith) h

module _ (a b : Cube) where
  sorted_front : (m : Cube) (rows : List Cube) (t : Bool) → (t ≡ true → (c : Cube) → Contains rows c → row_cmp m c ≡ Less)
      → IsStrictlySortedBy row_cmp rows → IsStrictlySortedBy row_cmp (cond t (m ∷ rows) rows)
  unfolding IsStrictlySortedBy
  sorted_front m rows true below s = (all_from (λ c. row_cmp m c ≡ Less) rows (below refl), s)
  sorted_front m rows false below s = s

  sorted-pieces : (k : ℕ) → k ≤ length a.symbols → IsStrictlySortedBy row_cmp (pieces_below a b k)
  unfolding IsStrictlySortedBy
  sorted-pieces zero le = tt
  sorted-pieces (suc k) le =
      sorted_front (piece a b k) (pieces_below a b k) (splits a b k) (λ on c member. piece_first k c (omega arith) (Contains-pieces_cases a b k c member))
      (sorted-pieces k (omega arith))
    where
      piece_first : (k : ℕ) (c : Cube) → k < length a.symbols → (i : ℕ) × (i < k) × (splits a b i ≡ true) × (piece a b i ≡ c)
          → row_cmp (piece a b k) c ≡ Less
      piece_first k c within r =
          let less = less_set a.symbols r.0 k (opposite (get_or b.symbols k Dash)) (opposite (get_or b.symbols r.0 Dash)) r.1 within
          (split_less (get_or a.symbols r.0 Dash) (get_or b.symbols r.0 Dash) r.2) in
          ap (λ x. row_cmp (piece a b k) x) (sym r.3)
          ∙ ap (λ o. ordering_then o (slice_cmp bool_cmp a.outputs a.outputs)) less

  pub sorted-left_rows : IsStrictlySortedBy row_cmp (left_rows a b)
  sorted-left_rows =
      let n = length a.symbols in
      sorted_front (rest_row a b) (pieces_below a b n) (list_any (λ x. x) (minus a.outputs b.outputs))
      (λ _ c member. rest_first c (Contains-pieces_cases a b n c member))
      (sorted-pieces n (omega arith))
    where
      rest_first : (c : Cube) → (i : ℕ) × (i < length a.symbols) × (splits a b i ≡ true) × (piece a b i ≡ c) → row_cmp (rest_row a b) c ≡ Less
      rest_first c r =
          let less = less_set_one a.symbols r.0 (opposite (get_or b.symbols r.0 Dash)) r.1
          (split_less (get_or a.symbols r.0 Dash) (get_or b.symbols r.0 Dash) r.2) in
          ap (λ x. row_cmp (rest_row a b) x) (sym r.3)
          ∙ ap (λ o. ordering_then o (slice_cmp bool_cmp (minus a.outputs b.outputs) a.outputs)) less

-- ---- what they hold

pub some_true : (os : List Bool) → list_any (λ x. x) os ≡ true → (j : ℕ) × (get_or os j false ≡ true)
some_true [] h = absurd (false≢true h)
some_true (true ∷ os) h = (0, refl)
some_true (false ∷ os) h = let r = some_true os h in (suc r.0, r.1)

pub true_some : (os : List Bool) (j : ℕ) → get_or os j false ≡ true → list_any (λ x. x) os ≡ true
true_some [] j h = absurd (false≢true h)
true_some (true ∷ os) j h = refl
true_some (false ∷ os) zero h = absurd (false≢true h)
true_some (false ∷ os) (suc j) h = true_some os j h

-- cubes that hold the same places are equal
pub same_from_places : (sz : Size) (c d : Cube) → IsCube sz c → IsCube sz d → IsSubset (holds c) (holds d) → IsSubset (holds d) (holds c) → c ≡ d
same_from_places sz c d is_c is_d below above =
    let size_cd : SameSize c d = (is_c.has_size.0 ∙ sym is_d.has_size.0, is_c.has_size.1 ∙ sym is_d.has_size.1) in
    let size_dc : SameSize d c = (sym size_cd.0, sym size_cd.1) in
    let on_c = some_true c.outputs is_c.some_output in
    let on_d = some_true d.outputs is_d.some_output in
    Covers-antisym c d size_cd (Covers-from_IsSubset c d size_cd on_d.0 on_d.1 above) (Covers-from_IsSubset d c size_dc on_c.0 on_c.1 below)

module _ (sz : Size) (a b : Cube) (cube_a : IsCube sz a) (size_b : HasSize b sz) (size : SameSize a b)
    (meets : InputsMeet a b size) (shared : SharesOutput a b size) where
  abbrev left : Place → Bool
  left = difference (holds a) (holds b)

  same_size : (c d : Cube) → HasSize c sz → HasSize d sz → SameSize c d
  same_size c d hc hd = (hc.0 ∙ sym hd.0, hc.1 ∙ sym hd.1)

  rest_size : HasSize (rest_row a b) sz
  rest_size = (cube_a.has_size.0, length-minus a.outputs b.outputs size.1 ∙ cube_a.has_size.1)

  piece_cube : (i : ℕ) → IsCube sz (piece a b i)
  piece_cube i = record {
    has_size = (length-set a.symbols i (opposite (get_or b.symbols i Dash)) ∙ cube_a.has_size.0, cube_a.has_size.1);
    some_output = cube_a.some_output;
  }

  rest_within : IsSubset (holds (rest_row a b)) left
  rest_within p held =
      let parts = and_parts (matches a.symbols p.point) (get_or (minus a.outputs b.outputs) p.output false) held in
      let outs = and_parts (get_or a.outputs p.output false) (not (get_or b.outputs p.output false))
      (sym (get_or-minus a.outputs b.outputs p.output size.1) ∙ parts.1) in
      and_from (holds a p) (not (holds b p)) (and_from (matches a.symbols p.point) (get_or a.outputs p.output false) parts.0 outs.0)
      (not_from_false (holds b p) (false_from_ne_true (holds b p) (λ in_b.
      false≢true (sym (not-true (get_or b.outputs p.output false) outs.1)
      ∙ (and_parts (matches b.symbols p.point) (get_or b.outputs p.output false) in_b).1))))

  Covers-piece : (i : ℕ) → splits a b i ≡ true → Covers a (piece a b i)
  Covers-piece i on = record {
    inputs = λ k bit h. elim (cases_eq k i) [
      | inl e ↦ ap (λ s. agrees s bit) (ap (λ x. get_or a.symbols x Dash) e ∙ split_dash (get_or a.symbols i Dash) (get_or b.symbols i Dash) on)
      | inr ne ↦ ap (λ s. agrees s bit) (sym (get_or-set_other a.symbols i k (opposite (get_or b.symbols i Dash)) Dash ne)) ∙ h
    ];
    outputs = λ j h. h;
  }

  piece_within : (i : ℕ) → i < length a.symbols → splits a b i ≡ true → IsSubset (holds (piece a b i)) left
  piece_within i lt on p held =
      let a_piece = same_size a (piece a b i) cube_a.has_size (piece_cube i).has_size in
      let ss = set a.symbols i (opposite (get_or b.symbols i Dash)) in
      let parts = and_parts (matches ss p.point) (get_or a.outputs p.output false) held in
      let in_set : i < length ss = omega (arith, length-set a.symbols i (opposite (get_or b.symbols i Dash))) in
      let in_b : i < length b.symbols = omega (arith, size.0) in
      and_from (holds a p) (not (holds b p)) (IsSubset-from_Covers a (piece a b i) a_piece (Covers-piece i on) p held)
      (not_from_false (holds b p) (false_from_ne_true (holds b p) (λ held_b.
      split_apart (get_or a.symbols i Dash) (get_or b.symbols i Dash) (get_or p.point i false) on
      (ap (λ s. agrees s (get_or p.point i false)) (sym (get_or-set_same a.symbols i (opposite (get_or b.symbols i Dash)) Dash lt))
      ∙ agrees_at-matches ss p.point i parts.0 in_set)
      (agrees_at-matches b.symbols p.point i (and_parts (matches b.symbols p.point) (get_or b.outputs p.output false) held_b).0 in_b))))

  -- a row of the list, by what it is
  left_cases : (c : Cube) → Contains (left_rows a b) c
      → ((list_any (λ x. x) (minus a.outputs b.outputs) ≡ true) × (rest_row a b ≡ c))
      ⊎ ((i : ℕ) × (i < length a.symbols) × (splits a b i ≡ true) × (piece a b i ≡ c))
  left_cases c h = go (list_any (λ x. x) (minus a.outputs b.outputs)) refl h
    where
      go : (t : Bool) → list_any (λ x. x) (minus a.outputs b.outputs) ≡ t
          → Contains (cond t (rest_row a b ∷ pieces_below a b (length a.symbols)) (pieces_below a b (length a.symbols))) c
          → ((list_any (λ x. x) (minus a.outputs b.outputs) ≡ true) × (rest_row a b ≡ c))
          ⊎ ((i : ℕ) × (i < length a.symbols) × (splits a b i ≡ true) × (piece a b i ≡ c))
      go true e h = elim (Contains-cases (rest_row a b) (pieces_below a b (length a.symbols)) c h) [
        | inl here ↦ inl (e, here)
        | inr there ↦ inr (Contains-pieces_cases a b (length a.symbols) c there)
      ]
      go false e h = inr (Contains-pieces_cases a b (length a.symbols) c h)

  left_piece : (i : ℕ) → i < length a.symbols → splits a b i ≡ true → Contains (left_rows a b) (piece a b i)
  left_piece i lt on = go (list_any (λ x. x) (minus a.outputs b.outputs)) (Contains-pieces a b (length a.symbols) i lt on)
    where
      go : (t : Bool) → Contains (pieces_below a b (length a.symbols)) (piece a b i)
          → Contains (cond t (rest_row a b ∷ pieces_below a b (length a.symbols)) (pieces_below a b (length a.symbols))) (piece a b i)
      go true h = Contains-there (rest_row a b) (pieces_below a b (length a.symbols)) (piece a b i) h
      go false h = h

  left_rest : list_any (λ x. x) (minus a.outputs b.outputs) ≡ true → Contains (left_rows a b) (rest_row a b)
  left_rest on = rw on (Contains-here (rest_row a b) (pieces_below a b (length a.symbols)))

  row_facts : (c : Cube) → Contains (left_rows a b) c → IsCube sz c × IsSubset (holds c) left
  row_facts c member = elim (left_cases c member) [
    | inl r ↦ subst (λ x. IsCube sz x × IsSubset (holds x) left) r.1 (record { has_size = rest_size; some_output = r.0 }, rest_within)
    | inr r ↦ subst (λ x. IsCube sz x × IsSubset (holds x) left) r.3 (piece_cube r.0, piece_within r.0 r.1 r.2)
  ]

  -- each cube of what is left lies within a row
  covered_by_row : (c : Cube) → IsCube sz c → IsSubset (holds c) left → (m : Cube) × Contains (left_rows a b) m × Covers m c
  covered_by_row c cube sub =
      let size_ac = same_size a c cube_a.has_size cube.has_size in
      let size_cb = same_size c b cube.has_size size_b in
      let on = some_true c.outputs cube.some_output in
      let in_a : IsSubset (holds c) (holds a) = λ p h. (and_parts (holds a p) (not (holds b p)) (sub p h)).0 in
      let cover = Covers-from_IsSubset a c size_ac on.0 on.1 in_a in
      elim (decide_inputs c.symbols b.symbols size_cb.0) [
        | inl all ↦ elim (decide_outputs c.outputs b.outputs size_cb.1) [
          | inl both ↦
              let place = common_place c b size_cb all both in
              absurd (false≢true (sym (not-true (holds b place.0) (and_parts (holds a place.0) (not (holds b place.0)) (sub place.0 place.1)).1) ∙ place.2))
          | inr apart ↦
              let outs : (j : ℕ) → get_or c.outputs j false ≡ true → get_or (minus a.outputs b.outputs) j false ≡ true =
              λ j h. get_or-minus a.outputs b.outputs j size.1
              ∙ and_from (get_or a.outputs j false) (not (get_or b.outputs j false)) (cover.outputs j h)
              (not_from_false (get_or b.outputs j false) (false_from_ne_true (get_or b.outputs j false) (apart j h))) in (
                rest_row a b,
                left_rest (true_some (minus a.outputs b.outputs) on.0 (outs on.0 on.1)),
                record { inputs = cover.inputs; outputs = outs },
              )
        ]
        | inr conflict ↦
            let i = conflict.0 in
            let split = conflict_split (get_or a.symbols i Dash) (get_or b.symbols i Dash) (get_or c.symbols i Dash) conflict.1 (meets i) (cover.inputs i) in
            let lt : i < length a.symbols = elim (cases_lt i (length a.symbols)) [
              | inl lt ↦ lt
              | inr past ↦
                  let b_past : length b.symbols ≤ i = omega (arith, size.0) in
                  absurd (false≢true (sym (split_right (get_or a.symbols i Dash))
                  ∙ ap (λ s. is_split (get_or a.symbols i Dash) s) (sym (get_or_past b.symbols i Dash b_past)) ∙ split))
            ] in (
              piece a b i,
              left_piece i lt split,
              record {
                inputs = λ k bit h. elim (cases_eq k i) [
                  | inl e ↦
                      ap (λ x. agrees (get_or (set a.symbols i (opposite (get_or b.symbols i Dash))) x Dash) bit) e
                      ∙ ap (λ s. agrees s bit) (get_or-set_same a.symbols i (opposite (get_or b.symbols i Dash)) Dash lt
                      ∙ sym (conflict_opposite (get_or c.symbols i Dash) (get_or b.symbols i Dash) conflict.1))
                      ∙ ap (λ x. agrees (get_or c.symbols x Dash) bit) (sym e) ∙ h
                  | inr ne ↦
                      ap (λ s. agrees s bit) (get_or-set_other a.symbols i k (opposite (get_or b.symbols i Dash)) Dash ne) ∙ cover.inputs k bit h
                ];
                outputs = cover.outputs;
              },
            )
      ]

  -- no row lies within another
  apart_rows : (c d : Cube) → Contains (left_rows a b) c → Contains (left_rows a b) d → Covers d c → c ≡ d
  apart_rows c d in_c in_d cover = elim (left_cases c in_c) [
    | inl rc ↦ elim (left_cases d in_d) [
      | inl rd ↦ sym rc.1 ∙ rd.1
      | inr pd ↦ absurd (full pd.0 pd.1 pd.2
          (λ bit. (subst (λ x. Covers x c) (sym pd.3) cover).inputs pd.0 bit
          (ap (λ x. agrees (get_or x.symbols pd.0 Dash) bit) (sym rc.1)
          ∙ ap (λ s. agrees s bit) (split_dash (get_or a.symbols pd.0 Dash) (get_or b.symbols pd.0 Dash) pd.2))))
    ]
    | inr pc ↦ elim (left_cases d in_d) [
      | inl rd ↦
          let on = (subst (λ x. Covers x c) (sym rd.1) cover).outputs shared.0 (ap (λ x. get_or x.outputs shared.0 false) (sym pc.3) ∙ shared.1) in
          let outs = and_parts (get_or a.outputs shared.0 false) (not (get_or b.outputs shared.0 false))
          (sym (get_or-minus a.outputs b.outputs shared.0 size.1) ∙ on) in
          absurd (false≢true (sym (not-true (get_or b.outputs shared.0 false) outs.1) ∙ shared.2))
      | inr pd ↦ elim (cases_eq pc.0 pd.0) [
        | inl e ↦ sym pc.3 ∙ ap (piece a b) e ∙ pd.3
        | inr ne ↦ absurd (full pd.0 pd.1 pd.2
            (λ bit. (subst (λ x. Covers x c) (sym pd.3) cover).inputs pd.0 bit
            (ap (λ x. agrees (get_or x.symbols pd.0 Dash) bit) (sym pc.3)
            ∙ ap (λ s. agrees s bit)
            (get_or-set_other a.symbols pc.0 pd.0 (opposite (get_or b.symbols pc.0 Dash)) Dash (λ e. ne (sym e))
            ∙ split_dash (get_or a.symbols pd.0 Dash) (get_or b.symbols pd.0 Dash) pd.2))))
      ]
    ]
  ]
    where
      full : (i : ℕ) → i < length a.symbols → splits a b i ≡ true
          → ((bit : Bool) → agrees (get_or (set a.symbols i (opposite (get_or b.symbols i Dash))) i Dash) bit ≡ true) → ⊥
      full i lt on all =
          split_partial (get_or a.symbols i Dash) (get_or b.symbols i Dash) on
          (λ bit. ap (λ s. agrees s bit) (sym (get_or-set_same a.symbols i (opposite (get_or b.symbols i Dash)) Dash lt)) ∙ all bit)

  -- the rows are the complete sum of what is left
  pub left_rows-complete_sum : left_rows a b ≡ complete_sum sz left
  left_rows-complete_sum =
      complete_sum-from_members sz left (left_rows a b) (sorted-left_rows a b)
      (λ c member.
      let facts = row_facts c member in
      record {
        is_cube = facts.0;
        within = facts.1;
        largest = λ d d_cube in_left above.
            let r = covered_by_row d d_cube in_left in
            let m_cube = (row_facts r.0 r.1).0 in
            let some_c = some_true c.outputs facts.0.some_output in
            let d_over_c = Covers-from_IsSubset d c (same_size d c d_cube.has_size facts.0.has_size) some_c.0 some_c.1 above in
            let same = apart_rows c r.0 member r.1 (Covers-trans r.0 d c r.2 d_over_c) in
            IsSubset-from_Covers c d (same_size c d facts.0.has_size d_cube.has_size) (subst (λ x. Covers x d) (sym same) r.2);
      })
      (λ c h.
      let r = covered_by_row c h.is_cube h.within in
      let m = row_facts r.0 r.1 in
      let c_size = same_size c r.0 h.is_cube.has_size m.0.has_size in
      let m_size = same_size r.0 c m.0.has_size h.is_cube.has_size in
      let below = h.largest r.0 m.0 m.1 (IsSubset-from_Covers r.0 c m_size r.2) in
      let some_m = some_true r.0.outputs m.0.some_output in
      let c_over_m = Covers-from_IsSubset c r.0 c_size some_m.0 some_m.1 below in
      subst (λ x. Contains (left_rows a b) x) (Covers-antisym r.0 c m_size r.2 c_over_m) r.1)

-- ---- where the rows share no place

pub complete_sum-holds : (sz : Size) (a : Cube) → IsCube sz a → a ∷ [] ≡ complete_sum sz (holds a)
unfolding IsStrictlySortedBy
complete_sum-holds sz a cube =
    complete_sum-from_members sz (holds a) (a ∷ []) (tt, tt)
    (λ c member. elim (Contains-cases a [] c member) [
      | inl e ↦ subst (IsMaximal sz (holds a)) e (record { is_cube = cube; within = λ p h. h; largest = λ d d_cube below above. below })
      | inr none' ↦ absurd (Contains-nil c none')
    ])
    (λ c h. subst (λ x. Contains (a ∷ []) x) (same_from_places sz a c cube h.is_cube (h.largest a cube (λ p k. k) h.within) h.within) (Contains-here a []))

pub complete_sum-disjoint : (sz : Size) (a b : Cube) → IsCube sz a → IsDisjoint (holds a) (holds b)
    → a ∷ [] ≡ complete_sum sz (difference (holds a) (holds b))
complete_sum-disjoint sz a b cube apart =
    complete_sum-holds sz a cube ∙ complete_sum-same sz (holds a) (difference (holds a) (holds b)) (λ p. kept (holds a p) (holds b p) (apart p))
  where
    kept : (x y : Bool) → (x ≡ true → y ≡ true → ⊥) → x ≡ (x && not y)
    kept true true h = absurd (h refl refl)
    kept true false h = refl
    kept false y h = refl
