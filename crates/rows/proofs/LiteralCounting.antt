-- The literals of one more cube.
use Rattle.std.proofs.Common.{◌≡◌, ℕ, ◌+◌, ◌<◌, ◌≤◌, List, length, take, get_or, slice_get, slice_set, Some, ap, sym, subst, ◌∙◌, inl, inr, arith}
use Rattle.std.specs.List.{Contains}
use Rattle.std.specs.Borrow.{Bor}
use Rattle.std.proofs.lemmas.Bool.{cases_lt}
use Rattle.std.proofs.lemmas.List.{length-set, get_or-set_same, get_or-set_other}
use Rattle.std.proofs.lemmas.Option.{get_or_from_slice_get, slice_get_within}
use Rattle.cube.specs.declared.symbol.Symbol.{Symbol}
use Rattle.cube.specs.declared.symbol.Symbol.TheVariants.{Dash, Zero, One}
use Rattle.cube.specs.Cube.{Cube, IsNextLiteral}
use Rattle.rows.specs.Places.{behind}
use Rattle.rows.specs.Splits.{Grows, CountsLiterals}
use Rattle.rows.proofs.Lists.{behind-more_cases}

counted : (rows : List (Bor Cube)) (i : ℕ) (row : Bor Cube) → i < length rows → row ≡ get_or rows i row
    → (t : Symbol) (old new : List ℕ) (inputs : ℕ) → length row.now.symbols ≡ inputs
    → ((c : Cube) (k : ℕ) → Contains (behind (take i rows)) c → slice_get c.symbols k ≡ Some t → 1 ≤ get_or old k 0)
    → Grows t row.now (length row.now.symbols) old new
    → (c : Cube) (k : ℕ) → Contains (behind (take (i + 1) rows)) c → slice_get c.symbols k ≡ Some t → 1 ≤ get_or new k 0
counted rows i row lt at t old new inputs long before grows c k h e =
    elim (behind-more_cases rows i row lt at c h) [
      | inl earlier ↦ grows.kept k (before c k earlier e)
      | inr same ↦
          let own : slice_get row.now.symbols k ≡ Some t = ap (λ d. slice_get d.symbols k) same ∙ e in
          grows.own k (slice_get_within row.now.symbols k t own) own
    ]

pub CountsLiterals-more : (rows : List (Bor Cube)) (i : ℕ) (row : Bor Cube) → i < length rows → row ≡ get_or rows i row
    → (inputs : ℕ) (zeros ones zeros' ones' : List ℕ) → length row.now.symbols ≡ inputs
    → CountsLiterals inputs zeros ones (behind (take i rows))
    → Grows Zero row.now (length row.now.symbols) zeros zeros' → Grows One row.now (length row.now.symbols) ones ones'
    → CountsLiterals inputs zeros' ones' (behind (take (i + 1) rows))
CountsLiterals-more rows i row lt at inputs zeros ones zeros' ones' long t low high = record {
  zeros_len = low.len ∙ t.zeros_len;
  ones_len = high.len ∙ t.ones_len;
  zero = counted rows i row lt at Zero zeros zeros' inputs long t.zero low;
  one = counted rows i row lt at One ones ones' inputs long t.one high;
}

module _ (t : Symbol) (literal : t ≡ Dash → ⊥) (row : Cube) (from : ℕ) (old now : List ℕ) (so_far : Grows t row from old now) where
  not_dash : (k : ℕ) → slice_get row.symbols k ≡ Some t → get_or row.symbols k Dash ≡ Dash → ⊥
  not_dash k own dash = literal (sym (get_or_from_slice_get row.symbols k t Dash own) ∙ dash)

  -- up to an input past dashes alone
  Grows-over : (end : ℕ) → ((k : ℕ) → from ≤ k → k < end → get_or row.symbols k Dash ≡ Dash) → Grows t row end old now
  Grows-over end dashes = record {
    len = so_far.len;
    kept = so_far.kept;
    own = λ k lt own.
        elim (cases_lt k from) [
          | inl before ↦ so_far.own k before own
          | inr on ↦ absurd (not_dash k own (dashes k on lt))
        ];
  }

  -- to the end of the cube, past its last literal
  pub Grows-to_end : ((k : ℕ) → from ≤ k → get_or row.symbols k Dash ≡ Dash) → (end : ℕ) → Grows t row end old now
  Grows-to_end dashes end = Grows-over end (λ k on _. dashes k on)

  -- past the other literal
  pub Grows-past_other : (i : ℕ) → IsNextLiteral row from i → (slice_get row.symbols i ≡ Some t → ⊥) → Grows t row (i + 1) old now
  Grows-past_other i next other = record {
    len = so_far.len;
    kept = so_far.kept;
    own = λ k lt own.
        elim (cases_lt k i) [
          | inl below ↦ (Grows-over i next.dashes).own k below own
          | inr above ↦
              let here : k ≡ i = omega (arith, lt, above) in
              absurd (other (subst (λ j. slice_get row.symbols j ≡ Some t) here own))
        ];
  }

  -- past the literal, which is counted
  pub Grows-past_own : (i : ℕ) → IsNextLiteral row from i → i < length now → (n : ℕ) → 1 ≤ n → Grows t row (i + 1) old (slice_set now i n)
  Grows-past_own i next within n some =
      let here : (k : ℕ) → k ≡ i → 1 ≤ get_or (slice_set now i n) k 0 =
      λ k e. subst (λ j. 1 ≤ get_or (slice_set now i n) j 0) (sym e) (subst (λ m. 1 ≤ m) (sym (get_or-set_same now i n 0 within)) some) in
      let other : (k : ℕ) → (k ≡ i → ⊥) → 1 ≤ get_or now k 0 → 1 ≤ get_or (slice_set now i n) k 0 =
      λ k e h. subst (λ m. 1 ≤ m) (sym (get_or-set_other now i k n 0 e)) h in
      let each : (k : ℕ) → 1 ≤ get_or now k 0 → 1 ≤ get_or (slice_set now i n) k 0 =
      λ k h. elim (cases_lt k i) [
        | inl below ↦ other k (λ e. omega (arith, below, e)) h
        | inr above ↦ elim (cases_lt i k) [
          | inl past ↦ other k (λ e. omega (arith, past, e)) h
          | inr not_past ↦ here k (omega (arith, above, not_past))
        ]
      ] in
      record {
        len = length-set now i n ∙ so_far.len;
        kept = λ k h. each k (so_far.kept k h);
        own = λ k lt own.
            elim (cases_lt k i) [
              | inl below ↦ each k ((Grows-over i next.dashes).own k below own)
              | inr above ↦ here k (omega (arith, lt, above))
            ];
      }
