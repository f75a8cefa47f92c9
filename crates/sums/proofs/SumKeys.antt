-- Rows met by their keys.
use Rattle.std.proofs.Common.{◌≡◌, ℕ, suc, ◌+◌, ◌-◌, ◌*◌, ◌/◌, ◌%◌, ◌^◌, ◌<◌, ◌≤◌, max, bit_and, bit_or, add-one, Bool, true, false, if◌then◌else◌, ◌&&◌, ◌||◌, List, [], ◌∷◌, ◌++◌, length, take, drop, get_or, refl, ap, sym, subst, ◌∙◌, arith, inl, inr}
use Rattle.std.specs.Int.{bit_at}
use Rattle.std.specs.List.{Contains}
use Rattle.std.proofs.lemmas.Bool.{cases_lt, cases_Bool, false≢true, and_parts}
use Rattle.std.proofs.lemmas.List.{append-nil, take-append-drop, take_more, get_or_past, get_or_append_left, get_or-take, get_or-drop, length-append, length-take, length-drop}
use Rattle.std.proofs.Math.Nat.{pow-suc, div-div-eq-div-mul}
use Rattle.std.proofs.Math.Seq.{get_or-append_seam}
use Rattle.std.proofs.lemmas.List.Elements.{All-nil}
use Rattle.cube.specs.declared.symbol.Symbol.{Symbol}
use Rattle.cube.specs.declared.symbol.Symbol.TheVariants.{Dash, Zero, One}
use Rattle.cube.specs.Size.{Size}
use Rattle.cube.specs.Pattern.{agrees, matches, is_literal}
use Rattle.cube.specs.Literals.{has_literal, IsOrderKey}
use Rattle.cube.specs.Order.{rank}
use Rattle.cube.specs.Cube.{Cube, Place, holds, IsCube}
use Rattle.cube.proofs.HoldsLemmas.{agrees_at-matches}
use Rattle.cube.proofs.LiteralMarks.{pow_four, even_bits-even, order_key_of_32_inputs-same}
use Rattle.cube.proofs.WordLemmas.{folded_bit}
use Rattle.rows.specs.Cubes.{AreCubes}
use Rattle.rows.specs.Places.{places}
use Rattle.sums.specs.Keys.{HasLiteralsAt, IsKey, HasKeys}
use Rattle.rows.specs.Reduced.{IsMeets}
use Rattle.rows.proofs.Lists.{list_any_witness}
use Rattle.rows.proofs.SumMeets.{IsMeets-others}

-- ---- the inputs of a key

digit_case : (s : Symbol) (q : ℕ) → q % 4 ≡ rank s → max (q % 2) (q / 2 % 2) ≡ (if is_literal s then 1 else 0)
digit_case Dash q e = omega (arith, e)
digit_case Zero q e = omega (arith, e)
digit_case One q e = omega (arith, e)

pub literal_pairs-key : (c : Cube) (key : ℕ) → IsOrderKey c key → HasLiteralsAt (bit_and (bit_or key (key / 2)) 6148914691236517205) c
literal_pairs-key c key is k lt =
    let j = 31 - k in
    let square : 4 ^ j ≡ 2 ^ (2 * j) = pow_four j in
    let low : bit_at key (2 * j) ≡ key / 4 ^ j % 2 = ap (λ x. key / x % 2) (sym square) in
    let next : 2 * j + 1 ≡ suc (2 * j) = add-one (2 * j) in
    let high : bit_at key (2 * j + 1) ≡ key / 4 ^ j / 2 % 2 =
    ap (λ x. key / x % 2) (omega (arith, ap (λ i. 2 ^ i) next, pow-suc 2 (2 * j), square)) ∙ ap (λ x. x % 2) (sym (div-div-eq-div-mul key (4 ^ j) 2)) in
    even_bits-even (bit_or key (key / 2)) j (omega arith) ∙ folded_bit key (2 * j)
    ∙ ap (λ x. max x (bit_at key (2 * j + 1))) low ∙ ap (λ x. max (key / 4 ^ j % 2) x) high
    ∙ digit_case (get_or c.symbols k Dash) (key / 4 ^ j) (is k lt)

-- two symbols, both literals or both none, that agree with one bit are equal
one_symbol : (s t : Symbol) (b : Bool) → is_literal s ≡ is_literal t → agrees s b ≡ true → agrees t b ≡ true → s ≡ t
one_symbol Dash Dash b e h g = refl
one_symbol Dash Zero b e h g = absurd (false≢true e)
one_symbol Dash One b e h g = absurd (false≢true e)
one_symbol Zero Dash b e h g = absurd (false≢true (sym e))
one_symbol Zero Zero b e h g = refl
one_symbol Zero One true e h g = absurd (false≢true h)
one_symbol Zero One false e h g = absurd (false≢true g)
one_symbol One Dash b e h g = absurd (false≢true (sym e))
one_symbol One Zero true e h g = absurd (false≢true g)
one_symbol One Zero false e h g = absurd (false≢true h)
one_symbol One One b e h g = refl

same_test : (x y : Bool) (n : ℕ) → n ≡ (if x then 1 else 0) → n ≡ (if y then 1 else 0) → x ≡ y
same_test true true n e h = refl
same_test true false n e h = absurd (omega arith)
same_test false true n e h = absurd (omega arith)
same_test false false n e h = refl

-- two cubes that share a place have one key
module _ (inputs : ℕ) (c d : Cube) (n m : ℕ) (mine : IsKey inputs c n) (theirs : IsKey inputs d m) (size : length c.symbols ≡ length d.symbols)
    (p : Place) (in_c : holds c p ≡ true) (in_d : holds d p ≡ true) where
  same_symbol : (k : ℕ) → k < 32 → get_or c.symbols k Dash ≡ get_or d.symbols k Dash
  same_symbol k lt =
      elim (cases_lt k (length c.symbols)) [
        | inl inside ↦
            one_symbol (get_or c.symbols k Dash) (get_or d.symbols k Dash) (get_or p.point k false)
            (same_test (has_literal c k) (has_literal d k) (bit_at inputs (2 * (31 - k))) (mine.literals k lt) (theirs.literals k lt))
            (agrees_at-matches c.symbols p.point k (and_parts (matches c.symbols p.point) (get_or c.outputs p.output false) in_c).0 inside)
            (agrees_at-matches d.symbols p.point k (and_parts (matches d.symbols p.point) (get_or d.outputs p.output false) in_d).0 (omega (arith, inside, size)))
        | inr past ↦ get_or_past c.symbols k Dash past ∙ sym (get_or_past d.symbols k Dash (omega (arith, past, size)))
      ]

  same_key : n ≡ m
  same_key = order_key_of_32_inputs-same c d n m mine.fits theirs.fits mine.key theirs.key same_symbol

-- ---- the keys of one more row

pub HasKeys-none : (inputs : ℕ) (rows : List Cube) (keys : List ℕ) → keys ≡ [] → HasKeys inputs (take 0 rows) keys
HasKeys-none inputs rows keys e = record {
  len = ap length e;
  rising = λ i j le lt. absurd (omega (arith, lt, ap length e));
  each = λ k c lt at. absurd (omega (arith, lt));
}

module _ (inputs : ℕ) (rows : List Cube) (i : ℕ) (row : Cube) (keys : List ℕ) (last key : ℕ) (lt : i < length rows) (at : row ≡ get_or rows i row)
    (before : HasKeys inputs (take i rows) keys) (upto : (j : ℕ) → j < length keys → get_or keys j 0 ≤ last) (le : last ≤ key) (own : IsKey inputs row key) where
  new_len : length (keys ++ key ∷ []) ≡ length keys + 1
  new_len = length-append keys (key ∷ [])

  seam : (j : ℕ) → j ≡ length keys → get_or (keys ++ key ∷ []) j 0 ≡ key
  seam j e = ap (λ n. get_or (keys ++ key ∷ []) n 0) e ∙ get_or-append_seam keys key [] 0

  earlier : (j : ℕ) → j < length keys → get_or (keys ++ key ∷ []) j 0 ≡ get_or keys j 0
  earlier j below = get_or_append_left keys (key ∷ []) 0 j below

  new_upto : (j : ℕ) → j < length (keys ++ key ∷ []) → get_or (keys ++ key ∷ []) j 0 ≤ key
  new_upto j below = elim (cases_lt j (length keys)) [
    | inl old ↦ omega (arith, earlier j old, upto j old, le)
    | inr late ↦ omega (arith, seam j (omega (arith, late, below, new_len)))
  ]

  more_rows : take (i + 1) rows ≡ take i rows ++ row ∷ []
  more_rows = take_more rows i row lt ∙ ap (λ c. take i rows ++ c ∷ []) (sym at)

  rows_len : length (take i rows) ≡ length keys
  rows_len = sym before.len

  new_keys : HasKeys inputs (take i rows ++ row ∷ []) (keys ++ key ∷ [])
  new_keys = record {
    len = new_len ∙ omega (arith, rows_len, length-append (take i rows) (row ∷ []));
    rising = λ a b below small. elim (cases_lt b (length keys)) [
      | inl old ↦ omega (arith, earlier a (omega (arith, below, old)), earlier b old, before.rising a b below old)
      | inr late ↦ omega (arith, seam b (omega (arith, late, small, new_len)), new_upto a (omega (arith, below, small)))
    ];
    each = λ k c small is. elim (cases_lt k (length keys)) [
      | inl old ↦
          let inside : k < length (take i rows) = omega (arith, old, rows_len) in
          subst (IsKey inputs c) (sym (earlier k old)) (before.each k c inside (is ∙ get_or_append_left (take i rows) (row ∷ []) c k inside))
      | inr late ↦
          let here : k ≡ length keys = omega (arith, late, small, rows_len, length-append (take i rows) (row ∷ [])) in
          let same : c ≡ row = is ∙ ap (λ n. get_or (take i rows ++ row ∷ []) n c) (here ∙ sym rows_len) ∙ get_or-append_seam (take i rows) row [] c in
          subst (λ d. IsKey inputs d (get_or (keys ++ key ∷ []) k 0)) (sym same) (subst (IsKey inputs row) (sym (seam k here)) own)
    ];
  }

  pub HasKeys-more : (keys' : List ℕ) → keys' ≡ keys ++ key ∷ []
      → HasKeys inputs (take (i + 1) rows) keys' × ((j : ℕ) → j < length keys' → get_or keys' j 0 ≤ key)
  HasKeys-more keys' e = (
    subst (λ l. HasKeys inputs l keys') (sym more_rows) (subst (HasKeys inputs (take i rows ++ row ∷ [])) (sym e) new_keys),
    subst (λ l. (j : ℕ) → j < length l → get_or l j 0 ≤ key) (sym e) new_upto,
  )

-- ---- a row and those of its key

module _ (size : Size) (inputs : ℕ) (row : Cube) (key : ℕ) (cube : IsCube size row) (own : IsKey inputs row key) where
  -- cubes of other keys have no place of the row
  apart : (list : List Cube) → ((d : Cube) → Contains list d → (m : ℕ) × IsKey inputs d m × (key ≡ m → ⊥) × IsCube size d) → IsMeets size (row ∷ []) list []
  apart list other = record {
    are_cubes = All-nil (IsCube size);
    places = λ p. elim (cases_Bool (places (row ∷ []) p && places list p)) [
      | inl on ↦
          let both = and_parts (places (row ∷ []) p) (places list p) on in
          let d = list_any_witness (λ (e : Cube). holds e p) list both.1 in
          let o = other d.0 d.1 in
          absurd (o.2 (same_key inputs row d.0 key o.0 own o.1 (cube.has_size.0 ∙ sym o.3.has_size.0) p (only (holds row p) both.0) d.2))
      | inr off ↦ sym off
    ];
    literals = λ k h g. refl;
  }
    where
      only : (b : Bool) → (b || false) ≡ true → b ≡ true
      only true e = refl
      only false e = absurd (false≢true e)

  module _ (others : List Cube) (keys : List ℕ) (cubes : AreCubes size others) (all : HasKeys inputs others keys) (start end : ℕ)
      (rises : start ≤ end) (within : end ≤ length keys)
      (below : (j : ℕ) → j < start → get_or keys j 0 < key) (above : (j : ℕ) → end ≤ j → j < length keys → key < get_or keys j 0) where
    front_apart : IsMeets size (row ∷ []) (take start (take end others)) []
    front_apart = apart (take start (take end others)) (λ d h.
        let k = h.0 in
        let short : k < start = omega (arith, h.1, length-take start (take end others)) in
        let inside : k < length others = omega (arith, short, rises, within, all.len) in
        let at : d ≡ get_or others k d = sym h.2 ∙ get_or-take start (take end others) k d short ∙ get_or-take end others k d (omega (arith, short, rises)) in (
          get_or keys k 0,
          all.each k d inside at,
          λ e. omega (arith, e, below k short),
          subst (IsCube size) (sym at) (cubes k d inside),
        ))

    back_apart : IsMeets size (row ∷ []) (drop end others) []
    back_apart = apart (drop end others) (λ d h.
        let k = end + h.0 in
        let inside : k < length others = omega (arith, h.1, length-drop end others) in
        let at : d ≡ get_or others k d = sym h.2 ∙ get_or-drop end others h.0 d in (
          get_or keys k 0,
          all.each k d inside at,
          λ e. omega (arith, e, above k (omega arith) (omega (arith, inside, all.len))),
          subst (IsCube size) (sym at) (cubes k d inside),
        ))

    pub IsMeets-middle : (meets : List Cube) → IsMeets size (row ∷ []) (drop start (take end others)) meets → IsMeets size (row ∷ []) others meets
    IsMeets-middle meets middle =
        let front = IsMeets-others size (row ∷ []) (take start (take end others)) (drop start (take end others)) [] meets front_apart middle in
        let whole = IsMeets-others size (row ∷ []) (take start (take end others) ++ drop start (take end others)) (drop end others) meets [] front back_apart in
        subst (λ l. IsMeets size (row ∷ []) l meets) (ap (λ l. l ++ drop end others) (take-append-drop start (take end others)) ∙ take-append-drop end others)
        (subst (IsMeets size (row ∷ []) ((take start (take end others) ++ drop start (take end others)) ++ drop end others)) (append-nil meets) whole)
