-- One more row put to those with its symbol.
use Rattle.std.proofs.Common.{◌≡◌, ℕ, suc, ◌+◌, ◌<◌, ◌≤◌, true, false, cond, List, [], ◌∷◌, ◌++◌, length, drop, get_or, slice_get, Some, refl, ap, sym, ◌∙◌, add-one, append_assoc, append-nil}
use Rattle.std.proofs.Math.Seq.{drop-cons}
use Rattle.std.proofs.lemmas.List.{drop_all}
use Rattle.std.proofs.lemmas.Option.{get_or_from_slice_get}
use Rattle.cube.specs.declared.symbol.Symbol.{Symbol}
use Rattle.cube.specs.declared.symbol.Symbol.TheVariants.{Dash, Zero, One}
use Rattle.cube.specs.Cube.{Cube, with_symbol}
use Rattle.rows.specs.Marks.{is_symbol}
use Rattle.rows.specs.Parts.{part}

own_symbol : (t : Symbol) → is_symbol t t ≡ true
own_symbol Dash = refl
own_symbol Zero = refl
own_symbol One = refl

module _ (i : ℕ) (rows : List Cube) (k : ℕ) (row : Cube) (s : Symbol) (lt : k < length rows) (at : row ≡ get_or rows k row)
    (own : slice_get row.symbols i ≡ Some s) where
  next : drop k rows ≡ row ∷ drop (k + 1) rows
  next = drop-cons rows k row lt ∙ ap (λ x. x ∷ drop (suc k) rows) (sym at) ∙ ap (λ n. row ∷ drop n rows) (sym (add-one k))

  symbol_is : get_or row.symbols i Dash ≡ s
  symbol_is = get_or_from_slice_get row.symbols i s Dash own

  -- the rows with its symbol
  pub part-kept : (t : Symbol) (kept new : List Cube) (freed : Cube) → s ≡ t → freed ≡ with_symbol row i Dash → new ≡ kept ++ freed ∷ []
      → kept ++ part i t (drop k rows) ≡ part i t rows → new ++ part i t (drop (k + 1) rows) ≡ part i t rows
  part-kept t kept new freed same is more before =
      let rest = part i t (drop (k + 1) rows) in
      let test : is_symbol t (get_or row.symbols i Dash) ≡ true = ap (is_symbol t) (symbol_is ∙ same) ∙ own_symbol t in
      ap (λ l. l ++ rest) more ∙ append_assoc kept (freed ∷ []) rest ∙ ap (λ d. kept ++ (d ∷ rest)) is
      ∙ ap (λ b. kept ++ cond b (with_symbol row i Dash ∷ rest) rest) (sym test) ∙ ap (λ l. kept ++ part i t l) (sym next) ∙ before

  -- those with another
  pub part-skipped : (t : Symbol) (kept : List Cube) → is_symbol t s ≡ false
      → kept ++ part i t (drop k rows) ≡ part i t rows → kept ++ part i t (drop (k + 1) rows) ≡ part i t rows
  part-skipped t kept other before =
      let rest = part i t (drop (k + 1) rows) in
      let test : is_symbol t (get_or row.symbols i Dash) ≡ false = ap (is_symbol t) symbol_is ∙ other in
      ap (λ b. kept ++ cond b (with_symbol row i Dash ∷ rest) rest) (sym test) ∙ ap (λ l. kept ++ part i t l) (sym next) ∙ before

-- after the last row
pub part-all : (i : ℕ) (rows : List Cube) (k : ℕ) (t : Symbol) (kept : List Cube) → length rows ≤ k
    → kept ++ part i t (drop k rows) ≡ part i t rows → kept ≡ part i t rows
part-all i rows k t kept le before = sym (append-nil kept) ∙ ap (λ l. kept ++ part i t l) (sym (drop_all k rows le)) ∙ before
