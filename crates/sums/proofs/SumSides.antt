-- What the sum at one value of an input adds to that at both values.
use Rattle.std.proofs.Common.{◌≡◌, ℕ, ◌<◌, Bool, true, false, not, ◌&&◌, ◌||◌, cond, List, [], ◌∷◌, get_or, refl, ap, sym, subst, ◌∙◌}
use Rattle.std.proofs.Math.Bool.{or-false}
use Rattle.std.specs.List.{Contains}
use Rattle.std.proofs.lemmas.Bool.{or_parts}
use Rattle.std.proofs.lemmas.List.Elements.{All-nil}
use Rattle.cube.specs.declared.symbol.Symbol.{Symbol}
use Rattle.cube.specs.declared.symbol.Symbol.TheVariants.{Dash, Zero, One}
use Rattle.cube.specs.Size.{Size}
use Rattle.cube.specs.Cube.{Cube, Place, IsCube, with_symbol, difference}
use Rattle.cube.specs.Sum.{complete_sum}
use Rattle.cube.proofs.Members.{Contains-here}
use Rattle.cube.proofs.SumLemmas.{sorted-complete_sum, complete_sum-same}
use Rattle.rows.specs.Cubes.{AreCubes}
use Rattle.rows.specs.Places.{places}
use Rattle.rows.specs.Complete.{literal, cofactor_at, consensus_at, smoothing_at}
use Rattle.rows.specs.Marks.{is_symbol}
use Rattle.rows.specs.Parts.{part, has_symbol, merged, without_equal_rows, combination}
use Rattle.rows.specs.Reduced.{IsBranch}
use Rattle.sums.specs.Sides.{IsSide}
use Rattle.rows.proofs.SumParts.{places-cofactor_at}
use Rattle.rows.proofs.SumOrder.{without_equal_rows-cases}
use Rattle.sums.proofs.SumStep.{both_sum, complete_sum-three, AreCubes-complete_sum, part_rising}
use Rattle.std.specs.List.Sorted.{IsStrictlySortedBy}
use Rattle.cube.specs.Order.{row_cmp}

part-none : (i : ℕ) (t : Symbol) (cs : List Cube) → has_symbol i t cs ≡ false → part i t cs ≡ []
part-none i t [] h = refl
part-none i t (c ∷ cs) h =
    let parts = or_parts (is_symbol t (get_or c.symbols i Dash)) (has_symbol i t cs) h in
    ap (λ b. cond b (with_symbol c i Dash ∷ part i t cs) (part i t cs)) parts.0 ∙ part-none i t cs parts.1

no_members : (cs : List Cube) → ((c : Cube) → Contains cs c → ⊥) → cs ≡ []
no_members [] h = refl
no_members (c ∷ cs) h = absurd (h c (Contains-here c cs))

-- a set that lies within another at each place
within : (d x e y : Bool) → ((d && not (e || y)) && ((d || x) && not e)) ≡ (d && not (e || y))
within true x true y = refl
within true x false true = refl
within true x false false = refl
within false x e y = refl

and_swap : (x y : Bool) → (x && y) ≡ (y && x)
and_swap true true = refl
and_swap true false = refl
and_swap false true = refl
and_swap false false = refl

module _ (size : Size) (i : ℕ) (lt : i < size.inputs) (minuend subtrahend : List Cube) where
  between : Place → Bool
  between = difference (places minuend) (places subtrahend)

  module _ (in_cubes : AreCubes size minuend) (out_cubes : AreCubes size subtrahend) (b : Bool)
      (no_inner : has_symbol i (literal b) minuend ≡ false) (no_outer : has_symbol i (literal (not b)) subtrahend ≡ false) where
    here : (p : Place) → cofactor_at i b (difference (places minuend) (places subtrahend)) p
        ≡ (places (part i Dash minuend) p && not (places (part i Dash subtrahend) p || places (part i (literal b) subtrahend) p))
    here p =
        let own = ap (λ l. places (part i Dash minuend) p || places l p) (part-none i (literal b) minuend no_inner) ∙ or-false (places (part i Dash minuend) p) in
        ap (λ z. z && not (cofactor_at i b (places subtrahend) p)) (sym (places-cofactor_at size i lt b minuend p in_cubes) ∙ own)
        ∙ ap (λ z. places (part i Dash minuend) p && not z) (sym (places-cofactor_at size i lt b subtrahend p out_cubes))

    there : (p : Place) → cofactor_at i (not b) (difference (places minuend) (places subtrahend)) p
        ≡ ((places (part i Dash minuend) p || places (part i (literal (not b)) minuend) p) && not (places (part i Dash subtrahend) p))
    there p =
        let own = ap (λ l. places (part i Dash subtrahend) p || places l p) (part-none i (literal (not b)) subtrahend no_outer) ∙ or-false (places (part i Dash subtrahend) p) in
        ap (λ z. z && not (cofactor_at i (not b) (places subtrahend) p)) (sym (places-cofactor_at size i lt (not b) minuend p in_cubes))
        ∙ ap (λ z. (places (part i Dash minuend) p || places (part i (literal (not b)) minuend) p) && not z) (sym (places-cofactor_at size i lt (not b) subtrahend p out_cubes) ∙ own)

    side_within : (p : Place) → (cofactor_at i b (difference (places minuend) (places subtrahend)) p && cofactor_at i (not b) (difference (places minuend) (places subtrahend)) p)
        ≡ cofactor_at i b (difference (places minuend) (places subtrahend)) p
    side_within p =
        ap (λ z. z && cofactor_at i (not b) (difference (places minuend) (places subtrahend)) p) (here p)
        ∙ ap (λ z. (places (part i Dash minuend) p && not (places (part i Dash subtrahend) p || places (part i (literal b) subtrahend) p)) && z) (there p)
        ∙ within (places (part i Dash minuend) p) (places (part i (literal (not b)) minuend) p) (places (part i Dash subtrahend) p) (places (part i (literal b) subtrahend) p)
        ∙ sym (here p)

    side_order : (x : Bool) (s : Place → Bool) (p : Place) → consensus_at i s p ≡ (cofactor_at i x s p && cofactor_at i (not x) s p)
    side_order false s p = refl
    side_order true s p = and_swap (cofactor_at i false s p) (cofactor_at i true s p)

    same_sum : complete_sum size (consensus_at i (difference (places minuend) (places subtrahend))) ≡ complete_sum size (cofactor_at i b (difference (places minuend) (places subtrahend)))
    same_sum = complete_sum-same size (consensus_at i (difference (places minuend) (places subtrahend))) (cofactor_at i b (difference (places minuend) (places subtrahend)))
        (λ p. side_order b (difference (places minuend) (places subtrahend)) p ∙ side_within p)

    -- the sum at this value is that at both, so it adds nothing
    pub IsSide-none : (rows : List Cube) → rows ≡ [] → IsSide size i b (difference (places minuend) (places subtrahend)) rows
    IsSide-none rows none' = subst (IsSide size i b (difference (places minuend) (places subtrahend))) (sym none') (record {
      are_cubes = All-nil (IsCube size);
      adds = sym (ap (λ l. without_equal_rows i (literal b) l (complete_sum size (consensus_at i (difference (places minuend) (places subtrahend))))) (sym same_sum)
          ∙ no_members (without_equal_rows i (literal b) (complete_sum size (consensus_at i (difference (places minuend) (places subtrahend)))) (complete_sum size (consensus_at i (difference (places minuend) (places subtrahend)))))
          (λ c h.
          let r = without_equal_rows-cases i (literal b) (complete_sum size (consensus_at i (difference (places minuend) (places subtrahend)))) (complete_sum size (consensus_at i (difference (places minuend) (places subtrahend)))) c
          (sorted-complete_sum size (consensus_at i (difference (places minuend) (places subtrahend)))) (sorted-complete_sum size (consensus_at i (difference (places minuend) (places subtrahend)))) h in
          r.2 r.1));
    })

module _ (size : Size) (i : ℕ) (s : Place → Bool) where
  pub IsSide-sum : (b : Bool) (rows : List Cube) → rows ≡ complete_sum size (cofactor_at i b s) → IsSide size i b s rows
  IsSide-sum b rows e = record {
    are_cubes = AreCubes-complete_sum size (cofactor_at i b s) rows e;
    adds = ap (λ l. without_equal_rows i (literal b) l (complete_sum size (consensus_at i s))) e;
  }

  -- what such cubes add is in row order
  pub IsSide-rising : i < size.inputs → (b : Bool) (rows both : List Cube) → IsSide size i b s rows → both ≡ complete_sum size (consensus_at i s)
      → IsStrictlySortedBy row_cmp (without_equal_rows i (literal b) rows both)
  IsSide-rising lt b rows both side is =
      subst (IsStrictlySortedBy row_cmp) (sym (ap (λ l. without_equal_rows i (literal b) rows l) is ∙ side.adds)) (part_rising size i lt s b)

  pub complete_sum-sides : i < size.inputs → (ds ps qs all : List Cube) → ds ≡ complete_sum size (consensus_at i s) → IsSide size i false s ps → IsSide size i true s qs
      → all ≡ combination i ds ps qs → all ≡ complete_sum size s
  complete_sum-sides lt ds ps qs all d low high is =
      is ∙ ap (λ l. combination i l ps qs) d
      ∙ ap (λ l. merged (merged (complete_sum size (consensus_at i s)) l) (without_equal_rows i One qs (complete_sum size (consensus_at i s)))) low.adds
      ∙ ap (λ l. merged (merged (complete_sum size (consensus_at i s)) (without_equal_rows i Zero (complete_sum size (cofactor_at i false s)) (complete_sum size (consensus_at i s)))) l) high.adds
      ∙ complete_sum-three size i lt s

-- the same of the lists of a split: what is added to the sum of the consensus of the minuend and the smoothing of the subtrahend
pub side-rising : (size : Size) (i : ℕ) → i < size.inputs → (minuend subtrahend in_b out_b both : List Cube)
    → IsBranch size i minuend (consensus_at i (places minuend)) in_b → IsBranch size i subtrahend (smoothing_at i (places subtrahend)) out_b
    → both ≡ complete_sum size (difference (places in_b) (places out_b))
    → (b : Bool) (rows : List Cube) → IsSide size i b (difference (places minuend) (places subtrahend)) rows
    → IsStrictlySortedBy row_cmp (without_equal_rows i (literal b) rows both)
side-rising size i lt minuend subtrahend in_b out_b both x y e b rows side =
    IsSide-rising size i (difference (places minuend) (places subtrahend)) lt b rows both side (both_sum size i lt minuend subtrahend in_b out_b both x y e)
