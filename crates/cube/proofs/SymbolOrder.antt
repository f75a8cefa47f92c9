-- Cubes by their literals: the order of lists of symbols, and maximal cubes with equal symbols.
use Rattle.std.proofs.Common.{◌≡◌, ◌≢◌, ◌<◌, Bool, true, false, List, [], ◌∷◌, get_or, set, refl, ap, sym, ◌∙◌, arith, inl, inr, ◌⊎◌}
use Rattle.std.specs.List.{Contains}
use Rattle.std.specs.Ordering.{ordering_then, ordering_reverse, bool_cmp}
use Rattle.std.specs.Cmp.{IsTotalOrder}
use Rattle.std.specs.Cmp.Lexicographic.{slice_cmp}
use Rattle.std.specs.declared.cmp.Ordering.{Ordering}
use Rattle.std.specs.declared.cmp.Ordering.TheVariants.{Less, Equal, Greater}
use Rattle.std.proofs.lemmas.Bool.{cases_eq, and_parts, and_from}
use Rattle.std.proofs.lemmas.Cmp.{on_total, lists_total, nat_cmp_total, alike_right, tied_itself}
use Rattle.std.proofs.lemmas.List.{get_or-set_same, get_or-set_other, length-set}
use Rattle.cube.specs.declared.symbol.Symbol.{Symbol}
use Rattle.cube.specs.declared.symbol.Symbol.TheVariants.{Dash, Zero, One}
use Rattle.cube.specs.Size.{Size}
use Rattle.cube.specs.Pattern.{matches}
use Rattle.cube.specs.Cube.{Cube, Place, IsPlace, holds, IsCube, IsSubset}
use Rattle.cube.specs.Order.{rank, symbol_cmp, row_cmp}
use Rattle.cube.specs.Sum.{IsMaximal, complete_sum}
use Rattle.cube.proofs.SharpLemmas.{true_some, same_from_places}
use Rattle.cube.proofs.SumLemmas.{Contains-complete_sum, IsPlace-from_holds}

-- ---- the order of lists of symbols

pub symbols_total : IsTotalOrder (slice_cmp symbol_cmp)
symbols_total = lists_total (on_total rank nat_cmp_total)

then_equal : (a b : Ordering) → ordering_then a b ≡ Equal → (a ≡ Equal) × (b ≡ Equal)
then_equal Less b e = cc
then_equal Equal b e = (refl, e)
then_equal Greater b e = cc

exact_symbol : (s t : Symbol) → symbol_cmp s t ≡ Equal → s ≡ t
exact_symbol Dash Dash e = refl
exact_symbol Dash Zero e = cc
exact_symbol Dash One e = cc
exact_symbol Zero Dash e = cc
exact_symbol Zero Zero e = refl
exact_symbol Zero One e = cc
exact_symbol One Dash e = cc
exact_symbol One Zero e = cc
exact_symbol One One e = refl

-- it tells lists apart
pub symbols_exact : (xs ys : List Symbol) → slice_cmp symbol_cmp xs ys ≡ Equal → xs ≡ ys
symbols_exact [] [] e = refl
symbols_exact [] (y ∷ ys) e = cc
symbols_exact (x ∷ xs) [] e = cc
symbols_exact (x ∷ xs) (y ∷ ys) e =
    let r = then_equal (symbol_cmp x y) (slice_cmp symbol_cmp xs ys) e in
    ap (λ z. z ∷ xs) (exact_symbol x y r.0) ∙ ap (λ zs. y ∷ zs) (symbols_exact xs ys r.1)

module _ (xs ys : List Symbol) where
  pub symbols_asymmetric : slice_cmp symbol_cmp xs ys ≡ Less → slice_cmp symbol_cmp ys xs ≡ Less → ⊥
  symbols_asymmetric one two = not_both (slice_cmp symbol_cmp xs ys) one (sym (symbols_total.antisymm ys xs) ∙ two)
    where
      not_both : (o : Ordering) → o ≡ Less → ordering_reverse o ≡ Less → ⊥
      not_both Less e f = cc
      not_both Equal e f = cc
      not_both Greater e f = cc

  pub symbols_irreflexive : xs ≡ ys → slice_cmp symbol_cmp xs ys ≡ Less → ⊥
  symbols_irreflexive e less = let t = tied_itself symbols_total xs in let l : slice_cmp symbol_cmp xs xs ≡ Less = ap (slice_cmp symbol_cmp xs) e ∙ less in cc

  -- what is not after is equal, or before
  pub symbols_up_to : slice_cmp symbol_cmp xs ys ≢ Greater → (xs ≡ ys) ⊎ (slice_cmp symbol_cmp xs ys ≡ Less)
  symbols_up_to h = go (slice_cmp symbol_cmp xs ys) refl
    where
      go : (o : Ordering) → slice_cmp symbol_cmp xs ys ≡ o → (xs ≡ ys) ⊎ (slice_cmp symbol_cmp xs ys ≡ Less)
      go Less e = inr e
      go Equal e = inl (symbols_exact xs ys e)
      go Greater e = absurd (h e)

  pub symbols_less : slice_cmp symbol_cmp xs ys ≡ Less → slice_cmp symbol_cmp xs ys ≢ Greater
  symbols_less e f = cc

  pub symbols_same : xs ≡ ys → slice_cmp symbol_cmp xs ys ≢ Greater
  symbols_same e f = let t = tied_itself symbols_total xs in let l : slice_cmp symbol_cmp xs xs ≡ Greater = ap (slice_cmp symbol_cmp xs) e ∙ f in cc

  module _ (zs : List Symbol) where
    pub symbols_before : slice_cmp symbol_cmp xs ys ≡ Less → slice_cmp symbol_cmp ys zs ≢ Greater → slice_cmp symbol_cmp xs zs ≡ Less
    symbols_before less h = go (slice_cmp symbol_cmp ys zs) refl
      where
        go : (o : Ordering) → slice_cmp symbol_cmp ys zs ≡ o → slice_cmp symbol_cmp xs zs ≡ Less
        go Less e = symbols_total.trans xs ys zs less e
        go Equal e = sym (alike_right symbols_total ys zs xs e) ∙ less
        go Greater e = absurd (h e)

    pub symbols_behind : slice_cmp symbol_cmp xs ys ≢ Greater → slice_cmp symbol_cmp ys zs ≡ Less → slice_cmp symbol_cmp xs zs ≡ Less
    symbols_behind h less = go (slice_cmp symbol_cmp xs ys) refl
      where
        go : (o : Ordering) → slice_cmp symbol_cmp xs ys ≡ o → slice_cmp symbol_cmp xs zs ≡ Less
        go Less e = symbols_total.trans xs ys zs e less
        go Equal e = symbols_total.congr xs ys zs e ∙ less
        go Greater e = absurd (h e)

-- row order is that of the symbols, unless these are equal
pub row_by_symbols : (c d : Cube) → row_cmp c d ≡ Less → (c.symbols ≡ d.symbols) ⊎ (slice_cmp symbol_cmp c.symbols d.symbols ≡ Less)
row_by_symbols c d less = go (slice_cmp symbol_cmp c.symbols d.symbols) refl less
  where
    go : (o : Ordering) → slice_cmp symbol_cmp c.symbols d.symbols ≡ o → ordering_then o (slice_cmp bool_cmp c.outputs d.outputs) ≡ Less → (c.symbols ≡ d.symbols) ⊎ (slice_cmp symbol_cmp c.symbols d.symbols ≡ Less)
    go Less e h = inr e
    go Equal e h = inl (symbols_exact c.symbols d.symbols e)
    go Greater e h = cc

-- ---- maximal cubes

-- the one has each output of the other, as their join lies in the set
module _ (size : Size) (s : Place → Bool) where
  lies_in : (c d : Cube) → IsMaximal size s c → IsMaximal size s d → c.symbols ≡ d.symbols → IsSubset (holds c) (holds d)
  lies_in c d of_c of_d same p h =
      let parts = and_parts (matches c.symbols p.point) (get_or c.outputs p.output false) h in
      let j = p.output in
      let long = of_d.is_cube.has_size.1 in
      let lt : j < size.outputs = (IsPlace-from_holds size c p of_c.is_cube.has_size h).1 in
      let wide : Cube = record { symbols = d.symbols; outputs = set d.outputs j true } in
      let on : get_or wide.outputs j false ≡ true = get_or-set_same d.outputs j true false (omega (arith, long, lt)) in
      let wide_cube : IsCube size wide = record { has_size = (of_d.is_cube.has_size.0, length-set d.outputs j true ∙ long); some_output = true_some wide.outputs j on } in
      let over : IsSubset (holds d) (holds wide) = λ r k. (
      let own = and_parts (matches d.symbols r.point) (get_or d.outputs r.output false) k in
      and_from (matches d.symbols r.point) (get_or wide.outputs r.output false) own.0 (elim (cases_eq r.output j) [
        | inl f ↦ ap (λ n. get_or wide.outputs n false) f ∙ on
        | inr f ↦ get_or-set_other d.outputs j r.output true false f ∙ own.1
      ])) in
      let within : IsSubset (holds wide) s = λ r k. (
      let own = and_parts (matches d.symbols r.point) (get_or wide.outputs r.output false) k in
      elim (cases_eq r.output j) [
        | inl f ↦ of_c.within r (and_from (matches c.symbols r.point) (get_or c.outputs r.output false) (ap (λ l. matches l r.point) same ∙ own.0) (ap (λ n. get_or c.outputs n false) f ∙ parts.1))
        | inr f ↦ of_d.within r (and_from (matches d.symbols r.point) (get_or d.outputs r.output false) own.0 (sym (get_or-set_other d.outputs j r.output true false f) ∙ own.1))
      ]) in
      of_d.largest wide wide_cube within over p (and_from (matches d.symbols p.point) (get_or wide.outputs j false) (ap (λ l. matches l p.point) (sym same) ∙ parts.0) on)

  -- no two maximal cubes have the same literals
  pub same_symbols : (c d : Cube) → IsMaximal size s c → IsMaximal size s d → c.symbols ≡ d.symbols → c ≡ d
  same_symbols c d of_c of_d same = same_from_places size c d of_c.is_cube of_d.is_cube (lies_in c d of_c of_d same) (lies_in d c of_d of_c (sym same))

  pub same_symbols_in_sum : (c d : Cube) → Contains (complete_sum size s) c → Contains (complete_sum size s) d → c.symbols ≡ d.symbols → c ≡ d
  same_symbols_in_sum c d in_c in_d = same_symbols c d ((Contains-complete_sum size s c).0 in_c) ((Contains-complete_sum size s d).0 in_d)

  -- what is maximal in a set, and lies in a part of it, is maximal there
  pub maximal_in_part : (t : Place → Bool) (c : Cube) → ((p : Place) → IsPlace size p → t p ≡ true → s p ≡ true) → IsMaximal size s c → IsSubset (holds c) t → IsMaximal size t c
  maximal_in_part t c part of_c within = record {
    is_cube = of_c.is_cube;
    within = within;
    largest = λ d cube inside above. of_c.largest d cube (λ p h. part p (IsPlace-from_holds size d p cube.has_size h) (inside p h)) above;
  }
