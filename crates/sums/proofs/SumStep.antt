-- The complete sum of a set from those at both values of an input, at `0` and at `1`.
use Rattle.std.proofs.Common.{◌≡◌, ℕ, ◌<◌, Bool, true, false, not, ◌&&◌, ◌||◌, List, [], ◌∷◌, ◌++◌, length, get_or, refl, ap, sym, subst, ◌∙◌, arith, inl, inr, ◌⊎◌}
use Rattle.std.specs.List.{Contains}
use Rattle.std.specs.List.Sorted.{IsStrictlySortedBy}
use Rattle.cube.specs.declared.symbol.Symbol.{Symbol}
use Rattle.cube.specs.declared.symbol.Symbol.TheVariants.{Dash, Zero, One}
use Rattle.cube.specs.Size.{Size}
use Rattle.std.proofs.lemmas.List.Elements.{All-head}
use Rattle.cube.proofs.SharpLemmas.{complete_sum-holds}
use Rattle.cube.specs.Cube.{Cube, Place, holds, IsCube, IsPlace, with_symbol, difference, intersection, size_of}
use Rattle.cube.specs.Order.{row_cmp}
use Rattle.cube.specs.Sum.{complete_sum, IsMaximal}
use Rattle.cube.proofs.SumLemmas.{Contains-complete_sum, sorted-complete_sum, complete_sum-from_members, complete_sum-same}
use Rattle.rows.specs.Cubes.{Cubes, AreCubes}
use Rattle.rows.specs.Places.{places, universal}
use Rattle.rows.specs.Complete.{literal, cofactor_at, consensus_at, smoothing_at}
use Rattle.rows.specs.Parts.{merged, without_equal_rows, combination, has_literal, live}
use Rattle.rows.specs.Reduced.{IsBranch, IsMeets, IsAbsorbed, HasSameCubes}
use Rattle.rows.proofs.Lists.{members_all}
use Rattle.rows.proofs.SumParts.{live-less}
use Rattle.rows.proofs.SumRows.{nothing_left}
use Rattle.sums.proofs.SumEnds.{complete_sum-none, complete_sum-agree, universal-holds}
use Rattle.sums.proofs.SumBranches.{places-kept, IsPartlyAbsorbed-same}
use Rattle.rows.proofs.SumSplit.{with_symbol-twice, with_symbol-own, IsCube-with_symbol, symbol-with_symbol, put-put, maximal_dash, maximal_at_both, maximal_from_both, maximal_freed, maximal_not_both, maximal_from_freed}
use Rattle.rows.proofs.SumOrder.{merged-cases, merged-left, merged-right, merged-rising, without_equal_rows-cases, without_equal_rows-from, without_equal_rows-rising}

symbol_cases : (t : Symbol) → (t ≡ Dash) ⊎ ((b : Bool) × (t ≡ literal b))
symbol_cases Dash = inl refl
symbol_cases Zero = inr (false, refl)
symbol_cases One = inr (true, refl)

module _ (size : Size) (i : ℕ) (lt : i < size.inputs) (s : Place → Bool) where
  dash_at : (b : Bool) (c : Cube) → IsMaximal size (cofactor_at i b s) c → get_or c.symbols i Dash ≡ Dash
  dash_at b c h = maximal_dash size i lt (cofactor_at i b s) (λ p x. put-put size i lt s b x p) c h

  -- the sum at one value of the input
  module _ (b : Bool) where
    low : List Cube
    low = complete_sum size (cofactor_at i b s)

    both : List Cube
    both = complete_sum size (consensus_at i s)

    pub part_rising : IsStrictlySortedBy row_cmp (without_equal_rows i (literal b) (complete_sum size (cofactor_at i b s)) (complete_sum size (consensus_at i s)))
    part_rising =
        without_equal_rows-rising i (literal b) Dash (complete_sum size (cofactor_at i b s)) (complete_sum size (consensus_at i s))
        (sorted-complete_sum size (cofactor_at i b s)) (sorted-complete_sum size (consensus_at i s))
        (λ c h.
        let m = (Contains-complete_sum size (cofactor_at i b s) c).0 h in
        (omega (arith, m.is_cube.has_size.0), dash_at b c m))

    pub part_maximal : (c : Cube) → Contains (without_equal_rows i (literal b) (complete_sum size (cofactor_at i b s)) (complete_sum size (consensus_at i s))) c → IsMaximal size s c
    part_maximal c h =
        let r = without_equal_rows-cases i (literal b) (complete_sum size (cofactor_at i b s)) (complete_sum size (consensus_at i s)) c
        (sorted-complete_sum size (cofactor_at i b s)) (sorted-complete_sum size (consensus_at i s)) h in
        let m = (Contains-complete_sum size (cofactor_at i b s) r.0).0 r.1 in
        let cube = m.is_cube in
        let freed : with_symbol (with_symbol r.0 i (literal b)) i Dash ≡ r.0 = with_symbol-twice r.0 i (literal b) Dash ∙ with_symbol-own r.0 i Dash (dash_at b r.0 m) in
        subst (IsMaximal size s) r.3
        (maximal_from_freed size i lt s (with_symbol r.0 i (literal b)) b (IsCube-with_symbol size r.0 i (literal b) cube)
        (symbol-with_symbol size i lt r.0 (literal b) cube)
        (subst (IsMaximal size (cofactor_at i b s)) (sym freed) m)
        (λ k. r.2 ((Contains-complete_sum size (consensus_at i s) r.0).1 (subst (IsMaximal size (consensus_at i s)) freed k))))

    pub part_from_maximal : (c : Cube) → get_or c.symbols i Dash ≡ literal b → IsMaximal size s c
        → Contains (without_equal_rows i (literal b) (complete_sum size (cofactor_at i b s)) (complete_sum size (consensus_at i s))) c
    part_from_maximal c e h =
        let freed = with_symbol c i Dash in
        let back : with_symbol freed i (literal b) ≡ c = with_symbol-twice c i Dash (literal b) ∙ with_symbol-own c i (literal b) e in
        subst (Contains (without_equal_rows i (literal b) (complete_sum size (cofactor_at i b s)) (complete_sum size (consensus_at i s)))) back
        (without_equal_rows-from i (literal b) (complete_sum size (cofactor_at i b s)) (complete_sum size (consensus_at i s)) freed
        ((Contains-complete_sum size (cofactor_at i b s) freed).1 (maximal_freed size i lt s c b e h))
        (λ k. maximal_not_both size i lt s c b e h ((Contains-complete_sum size (consensus_at i s) freed).0 k)))

  pub complete_sum-three : combination i (complete_sum size (consensus_at i s)) (complete_sum size (cofactor_at i false s)) (complete_sum size (cofactor_at i true s)) ≡ complete_sum size s
  complete_sum-three =
      let ds = complete_sum size (consensus_at i s) in
      let zeros = without_equal_rows i Zero (complete_sum size (cofactor_at i false s)) ds in
      let ones = without_equal_rows i One (complete_sum size (cofactor_at i true s)) ds in
      complete_sum-from_members size s (merged (merged ds zeros) ones)
      (merged-rising (merged ds zeros) ones (merged-rising ds zeros (sorted-complete_sum size (consensus_at i s)) (part_rising false)) (part_rising true))
      (λ c h. elim (merged-cases (merged ds zeros) ones c h) [
        | inl front ↦ elim (merged-cases ds zeros c front) [
          | inl middle ↦ maximal_from_both size i lt s c ((Contains-complete_sum size (consensus_at i s) c).0 middle)
          | inr a ↦ part_maximal false c a
        ]
        | inr a ↦ part_maximal true c a
      ])
      (λ c h. elim (symbol_cases (get_or c.symbols i Dash)) [
        | inl dash ↦ merged-left (merged ds zeros) ones c
            (merged-left ds zeros c ((Contains-complete_sum size (consensus_at i s) c).1 (maximal_at_both size i lt s c dash h)))
        | inr (false, e) ↦ merged-left (merged ds zeros) ones c (merged-right ds zeros c (part_from_maximal false c e h))
        | inr (true, e) ↦ merged-right (merged ds zeros) ones c (part_from_maximal true c e h)
      ])

-- ---- the recursion over two lists

and_nor : (a b c d : Bool) → ((a && b) && not (c || d)) ≡ ((a && not c) && (b && not d))
and_nor true true true d = refl
and_nor true true false d = refl
and_nor true false true d = refl
and_nor true false false d = refl
and_nor false b c d = refl

module _ (size : Size) (i : ℕ) (lt : i < size.inputs) (minuend subtrahend : List Cube) where
  between : Place → Bool
  between = difference (places minuend) (places subtrahend)

  pub branch_sum : (b : Bool) (in_b out_b rows : List Cube) → IsBranch size i minuend (cofactor_at i b (places minuend)) in_b → IsBranch size i subtrahend (cofactor_at i b (places subtrahend)) out_b
      → rows ≡ complete_sum size (difference (places in_b) (places out_b)) → rows ≡ complete_sum size (cofactor_at i b (difference (places minuend) (places subtrahend)))
  branch_sum b in_b out_b rows x y e =
      e ∙ complete_sum-same size (difference (places in_b) (places out_b)) (cofactor_at i b (difference (places minuend) (places subtrahend)))
      (λ p. ap (λ z. z && not (places out_b p)) (x.places p) ∙ ap (λ z. cofactor_at i b (places minuend) p && not z) (y.places p))

  pub both_sum : (in_b out_b rows : List Cube) → IsBranch size i minuend (consensus_at i (places minuend)) in_b → IsBranch size i subtrahend (smoothing_at i (places subtrahend)) out_b
      → rows ≡ complete_sum size (difference (places in_b) (places out_b)) → rows ≡ complete_sum size (consensus_at i (difference (places minuend) (places subtrahend)))
  both_sum in_b out_b rows x y e =
      e ∙ complete_sum-same size (difference (places in_b) (places out_b)) (consensus_at i (difference (places minuend) (places subtrahend)))
      (λ p. ap (λ z. z && not (places out_b p)) (x.places p) ∙ ap (λ z. consensus_at i (places minuend) p && not z) (y.places p)
      ∙ and_nor (cofactor_at i false (places minuend) p) (cofactor_at i true (places minuend) p) (cofactor_at i false (places subtrahend) p) (cofactor_at i true (places subtrahend) p))

-- the cubes of a complete sum are of the size
pub AreCubes-complete_sum : (size : Size) (s : Place → Bool) (rows : List Cube) → rows ≡ complete_sum size s → AreCubes size rows
AreCubes-complete_sum size s rows e =
    subst (AreCubes size) (sym e) (members_all (IsCube size) (complete_sum size s) (λ c h. ((Contains-complete_sum size s c).0 h).is_cube))

-- the sum of a list is that of an equal one
pub sum_of_copy : (size : Size) (rows minuend sum : List Cube) → rows ≡ minuend → AreCubes size minuend
    → ((t : Size) → AreCubes t rows → sum ≡ complete_sum t (places rows)) → sum ≡ complete_sum size (places minuend)
sum_of_copy size rows minuend sum same cubes is = is size (subst (AreCubes size) (sym same) cubes) ∙ ap (λ l. complete_sum size (places l)) same

-- a list that is its own complete sum, with nothing taken from it
pub complete_sum-no_outer : (size : Size) (rows minuend subtrahend : List Cube) → subtrahend ≡ [] → rows ≡ complete_sum size (places minuend)
    → rows ≡ complete_sum size (difference (places minuend) (places subtrahend))
complete_sum-no_outer size rows minuend subtrahend none' e =
    e ∙ complete_sum-same size (places minuend) (difference (places minuend) (places subtrahend))
    (λ p. sym (and_true (places minuend p)) ∙ ap (λ l. places minuend p && not (places l p)) (sym none'))
  where
    and_true : (x : Bool) → (x && true) ≡ x
    and_true true = refl
    and_true false = refl

-- the measure falls
pub branch_falls : (size : Size) (i : ℕ) (minuend subtrahend in_b out_b : List Cube) (s t : Place → Bool) (now now' : List Cube) → i < size.inputs → now ≡ minuend → now' ≡ subtrahend
    → (has_literal i now || has_literal i now') ≡ true → IsBranch size i minuend s in_b → IsBranch size i subtrahend t out_b
    → live size.inputs in_b out_b < live size.inputs minuend subtrahend
branch_falls size i minuend subtrahend in_b out_b s t now now' lt e f on x y =
    live-less i minuend subtrahend in_b out_b x.frees y.frees size.inputs lt
    (ap (λ l. has_literal i l || has_literal i subtrahend) (sym e) ∙ ap (λ l. has_literal i now || has_literal i l) (sym f) ∙ on)

-- ---- where the recursion ends

pub complete_sum-empty : (size : Size) (minuend subtrahend : List Cube) → length minuend ≡ 0 → minuend ≡ complete_sum size (difference (places minuend) (places subtrahend))
complete_sum-empty size minuend subtrahend h =
    let e = nothing_left minuend h in
    e ∙ complete_sum-none size (difference (places minuend) (places subtrahend)) (λ p _. ap (λ l. places l p && not (places subtrahend p)) e)

-- one cube without another
pub complete_sum-sharp : (size : Size) (minuend subtrahend rows : List Cube) (a b : Cube) → AreCubes size minuend → length minuend ≡ 1 → length subtrahend ≡ 1
    → a ≡ get_or minuend 0 a → b ≡ get_or subtrahend 0 b → rows ≡ complete_sum (size_of a) (difference (holds a) (holds b))
    → rows ≡ complete_sum size (difference (places minuend) (places subtrahend))
complete_sum-sharp size [] subtrahend rows a b h e f at at' is = absurd (omega arith)
complete_sum-sharp size (c ∷ []) [] rows a b h e f at at' is = absurd (omega arith)
complete_sum-sharp size (c ∷ []) (d ∷ []) rows a b h e f at at' is =
    is ∙ ap (λ x. complete_sum (size_of x) (difference (holds x) (holds b))) at
    ∙ ap (λ n. complete_sum (record { inputs = n; outputs = length c.outputs }) (difference (holds c) (holds b))) (All-head (IsCube size) c [] h).has_size.0
    ∙ ap (λ n. complete_sum (record { inputs = size.inputs; outputs = n }) (difference (holds c) (holds b))) (All-head (IsCube size) c [] h).has_size.1
    ∙ ap (λ x. complete_sum size (difference (holds c) (holds x))) at'
    ∙ complete_sum-same size (difference (holds c) (holds d)) (difference (places (c ∷ [])) (places (d ∷ [])))
    (λ p. ap (λ x. x && not (holds d p)) (sym (or_none (holds c p))) ∙ ap (λ x. (holds c p || false) && not x) (sym (or_none (holds d p))))
  where
    or_none : (x : Bool) → (x || false) ≡ x
    or_none true = refl
    or_none false = refl
complete_sum-sharp size (c ∷ []) (d ∷ g ∷ rest) rows a b h e f at at' is = absurd (omega arith)
complete_sum-sharp size (c ∷ g ∷ rest) subtrahend rows a b h e f at at' is = absurd (omega arith)

pub complete_sum-covered : (size : Size) (minuend subtrahend : List Cube) → ((p : Place) → IsPlace size p → places subtrahend p ≡ true)
    → [] ≡ complete_sum size (difference (places minuend) (places subtrahend))
complete_sum-covered size minuend subtrahend all =
    complete_sum-none size (difference (places minuend) (places subtrahend)) (λ p is. ap (λ b. places minuend p && not b) (all p is) ∙ none (places minuend p))
  where
    none : (b : Bool) → (b && false) ≡ false
    none true = refl
    none false = refl

-- ---- the calls

abbrev pub cubes_of : Size → List Cube → Cubes
cubes_of size rows = record { size = size; cubes = rows }

-- a list made of a complete sum
pub Cubes-sum : (size size' : Size) (rows : List Cube) (s t : Place → Bool) → size' ≡ size → rows ≡ complete_sum size' s → complete_sum size s ≡ complete_sum size t
    → cubes_of size' rows ≡ cubes_of size (complete_sum size t)
Cubes-sum size size' rows s t e f g =
    ap (λ l. cubes_of size' l) f ∙ ap (λ z. cubes_of z (complete_sum z s)) e ∙ ap (λ l. cubes_of size l) g

pub sum_of_list : (size : Size) (rows cubes none' : List Cube) → rows ≡ cubes → none' ≡ [] → complete_sum size (difference (places rows) (places none')) ≡ complete_sum size (places cubes)
sum_of_list size rows cubes none' e f =
    sym (complete_sum-no_outer size (complete_sum size (places rows)) rows none' f refl) ∙ ap (λ l. complete_sum size (places l)) e

pub sum_of_lists : (size : Size) (rows cubes others subtrahend : List Cube) → rows ≡ cubes → others ≡ subtrahend
    → complete_sum size (difference (places rows) (places others)) ≡ complete_sum size (difference (places cubes) (places subtrahend))
sum_of_lists size rows cubes others subtrahend e f =
    ap (λ l. complete_sum size (difference (places l) (places others))) e ∙ ap (λ l. complete_sum size (difference (places cubes) (places l))) f

pub sum_of_both_lists : (size : Size) (rows cubes others others' : List Cube) → rows ≡ cubes → others ≡ others'
    → complete_sum size (intersection (places rows) (places others)) ≡ complete_sum size (intersection (places cubes) (places others'))
sum_of_both_lists size rows cubes others others' e f =
    ap (λ l. complete_sum size (intersection (places l) (places others))) e ∙ ap (λ l. complete_sum size (intersection (places cubes) (places l))) f

-- lists with the same cubes have the same places
places-same : (cubes others : List Cube) → HasSameCubes cubes others → (p : Place) → places others p ≡ places cubes p
places-same cubes others same p = let h = IsPartlyAbsorbed-same cubes others same in places-kept cubes others h.within h.over p

pub sum_of_same : (size : Size) (rows cubes others subtrahend : List Cube) → HasSameCubes rows cubes → HasSameCubes others subtrahend
    → complete_sum size (difference (places cubes) (places subtrahend)) ≡ complete_sum size (difference (places rows) (places others))
sum_of_same size rows cubes others subtrahend e f =
    complete_sum-same size (difference (places cubes) (places subtrahend)) (difference (places rows) (places others))
    (λ p. ap (λ x. x && not (places subtrahend p)) (places-same rows cubes e p) ∙ ap (λ x. places rows p && not x) (places-same others subtrahend f p))

-- of what two lists have in common
pub sum_of_meets : (size : Size) (cubes others now now' meets kept none' : List Cube) → HasSameCubes cubes now → HasSameCubes others now' → IsMeets size now now' meets
    → IsAbsorbed meets kept → none' ≡ []
    → complete_sum size (difference (places kept) (places none')) ≡ complete_sum size (intersection (places cubes) (places others))
sum_of_meets size cubes others now now' meets kept none' e f m a n =
    sum_of_list size kept kept none' refl n
    ∙ complete_sum-same size (places kept) (intersection (places cubes) (places others))
    (λ p. places-kept meets kept a.within a.over p ∙ m.places p ∙ ap (λ x. x && places now' p) (places-same cubes now e p) ∙ ap (λ x. places cubes p && x) (places-same others now' f p))

-- outside a list
pub sum_of_outside : (size : Size) (all rows subtrahend cubes : List Cube) (c : Cube) → all ≡ [] → rows ≡ all ++ c ∷ [] → c ≡ universal size → subtrahend ≡ cubes
    → complete_sum size (difference (places rows) (places subtrahend)) ≡ complete_sum size (λ p. not (places cubes p))
sum_of_outside size all rows subtrahend cubes c none' is univ e =
    complete_sum-agree size (difference (places rows) (places subtrahend)) (λ p. not (places cubes p))
    (λ p place.
    ap (λ l. places l p && not (places subtrahend p)) (is ∙ ap (λ l. l ++ c ∷ []) none' ∙ ap (λ d. d ∷ []) univ)
    ∙ ap (λ x. (x || false) && not (places subtrahend p)) (universal-holds size p place)
    ∙ ap (λ l. not (places l p)) e)

-- a single cube
pub complete_sum-single : (size : Size) (minuend subtrahend : List Cube) → AreCubes size minuend → length minuend ≡ 1 → length subtrahend ≡ 0
    → minuend ≡ complete_sum size (difference (places minuend) (places subtrahend))
complete_sum-single size [] subtrahend h e f = absurd (omega arith)
complete_sum-single size (c ∷ []) subtrahend h e f =
    complete_sum-no_outer size (c ∷ []) (c ∷ []) subtrahend (nothing_left subtrahend f)
    (complete_sum-holds size c (All-head (IsCube size) c [] h) ∙ complete_sum-same size (holds c) (places (c ∷ [])) (λ p. sym (or_none (holds c p))))
  where
    or_none : (x : Bool) → (x || false) ≡ x
    or_none true = refl
    or_none false = refl
complete_sum-single size (c ∷ d ∷ rest) subtrahend h e f = absurd (omega arith)
