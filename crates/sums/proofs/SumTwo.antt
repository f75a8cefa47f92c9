-- The complete sum of rows of which each value of an input has one.
use Rattle.std.proofs.Common.{◌≡◌, ℕ, zero, suc, ◌<◌, ◌≤◌, Bool, ◌||◌, false, true, cond, List, [], ◌∷◌, ◌++◌, length, get_or, drop, refl, sym, ap, ◌∙◌, arith, All, IsTrue, ◌↔◌}
use Rattle.std.specs.List.{insert}
use Rattle.std.specs.Ordering.{is_lt, is_eq, ordering_reverse}
use Rattle.std.specs.declared.cmp.Ordering.{Ordering}
use Rattle.std.specs.declared.cmp.Ordering.TheVariants.{Less, Equal, Greater}
use Rattle.std.proofs.lemmas.Bool.{false≢true}
use Rattle.std.proofs.lemmas.Cmp.{tied_itself}
use Rattle.std.proofs.lemmas.List.{append-nil, length-drop}
use Rattle.std.proofs.lemmas.List.Elements.{All-cons, All-nil, All-same}
use Rattle.cube.specs.declared.symbol.Symbol.{Symbol}
use Rattle.cube.specs.declared.symbol.Symbol.TheVariants.{Dash, Zero, One}
use Rattle.cube.specs.Size.{Size}
use Rattle.cube.specs.Cube.{Cube, IsCube, holds, with_symbol}
use Rattle.cube.specs.Order.{row_cmp}
use Rattle.cube.specs.Sum.{complete_sum}
use Rattle.cube.proofs.SumLemmas.{complete_sum-same, row_total}
use Rattle.rows.specs.Cubes.{AreCubes}
use Rattle.rows.specs.Places.{places}
use Rattle.rows.specs.Complete.{cofactor_at, consensus_at}
use Rattle.rows.specs.Marks.{is_symbol}
use Rattle.rows.specs.Parts.{part, combination, merged, drop_below, drop_equal, begins_with, without_equal_rows}
use Rattle.rows.specs.Reduced.{IsMeets}
use Rattle.sums.proofs.SumBranches.{IsBranch-both_list, IsBranch-side}
use Rattle.rows.proofs.SumOrder.{row_exact}
use Rattle.rows.proofs.SumRows.{merged-nothing, All-merged}
use Rattle.rows.proofs.SumSplit.{with_symbol-twice, with_symbol-own}
use Rattle.sums.proofs.SumStep.{complete_sum-three, complete_sum-empty, complete_sum-single, sum_of_list}

-- a list of one cube or none is its own sum
pub complete_sum-few : (size : Size) (rows : List Cube) → AreCubes size rows → length rows ≤ 1 → rows ≡ complete_sum size (places rows)
complete_sum-few size [] h few = complete_sum-empty size [] [] refl ∙ sum_of_list size [] [] [] refl refl
complete_sum-few size (c ∷ []) h few = complete_sum-single size (c ∷ []) [] h refl refl ∙ sum_of_list size (c ∷ []) (c ∷ []) [] refl refl
complete_sum-few size (c ∷ d ∷ rest) h few = absurd (omega arith)

-- ---- a list with one more cube

length-drop_below : (c : Cube) (cs : List Cube) → length (drop_below c cs) ≤ length cs
length-drop_below c [] = omega arith
length-drop_below c (d ∷ ds) = go (length-drop_below c ds) (is_lt (row_cmp d c))
  where
    go : length (drop_below c ds) ≤ length ds → (b : Bool) → length (cond b (drop_below c ds) (d ∷ ds)) ≤ length (d ∷ ds)
    go more true = omega (arith, more)
    go more false = omega arith

-- at its place, where it is not there
pub merged-inserted : (c : Cube) (cs : List Cube) (n : ℕ) → n ≤ length cs → drop n cs ≡ drop_below c cs → begins_with c (drop n cs) ≡ false
    → insert cs n c ≡ merged cs (c ∷ [])
merged-inserted c [] zero le left out = refl
merged-inserted c [] (suc n) le left out = absurd (omega arith)
merged-inserted c (d ∷ ds) n le left out = go (merged-inserted c ds) (row_cmp d c) refl n le left out
  where
    front : (n : ℕ) → length (drop n (d ∷ ds)) ≡ length (d ∷ ds) → n ≤ length (d ∷ ds) → n ≡ 0
    front n same le = omega (arith, length-drop n (d ∷ ds))

    go : ((n : ℕ) → n ≤ length ds → drop n ds ≡ drop_below c ds → begins_with c (drop n ds) ≡ false → insert ds n c ≡ merged ds (c ∷ []))
        → (o : Ordering) → row_cmp d c ≡ o → (n : ℕ) → n ≤ length (d ∷ ds) → drop n (d ∷ ds) ≡ drop_below c (d ∷ ds) → begins_with c (drop n (d ∷ ds)) ≡ false
        → insert (d ∷ ds) n c ≡ merged (d ∷ ds) (c ∷ [])
    go more Less e zero le left out =
        let below : d ∷ ds ≡ drop_below c ds = left ∙ ap (λ o. cond (is_lt o) (drop_below c ds) (d ∷ ds)) e in
        absurd (omega (arith, ap length below, length-drop_below c ds))
    go more Less e (suc n) le left out =
        let below : drop n ds ≡ drop_below c ds = left ∙ ap (λ o. cond (is_lt o) (drop_below c ds) (d ∷ ds)) e in
        let above : row_cmp c d ≡ Greater = row_total.antisymm c d ∙ ap ordering_reverse e in
        ap (λ l. d ∷ l) (more n (omega arith) below out)
        ∙ sym (
        ap (λ o. cond (is_lt o) (c ∷ []) [] ++ (d ∷ merged ds (drop_equal d (cond (is_lt o) [] (c ∷ []))))) above
        ∙ ap (λ o. d ∷ merged ds (cond (is_eq o) [] (c ∷ []))) above
        )
    go more Equal e n le left out =
        let all : drop n (d ∷ ds) ≡ d ∷ ds = left ∙ ap (λ o. cond (is_lt o) (drop_below c ds) (d ∷ ds)) e in
        absurd (false≢true (sym out ∙ ap (begins_with c) all ∙ ap is_eq e))
    go more Greater e n le left out =
        let all : drop n (d ∷ ds) ≡ d ∷ ds = left ∙ ap (λ o. cond (is_lt o) (drop_below c ds) (d ∷ ds)) e in
        let above : row_cmp c d ≡ Less = row_total.antisymm c d ∙ ap ordering_reverse e in
        ap (λ n. insert (d ∷ ds) n c) (front n (ap length all) le)
        ∙ sym (
        ap (λ o. cond (is_lt o) (c ∷ []) [] ++ (d ∷ merged ds (drop_equal d (cond (is_lt o) [] (c ∷ []))))) above
        ∙ ap (λ l. c ∷ d ∷ l) (merged-nothing ds)
        )

insert-end : (c : Cube) (cs : List Cube) → insert cs (length cs) c ≡ cs ++ c ∷ []
insert-end c [] = refl
insert-end c (d ∷ ds) = ap (λ l. d ∷ l) (insert-end c ds)

-- at the end, if that is its place
pub merged-pushed : (c : Cube) (cs : List Cube) (n : ℕ) → n ≡ length cs → drop n cs ≡ drop_below c cs → begins_with c (drop n cs) ≡ false
    → cs ++ c ∷ [] ≡ merged cs (c ∷ [])
merged-pushed c cs n end left out =
    sym (insert-end c cs) ∙ ap (λ k. insert cs k c) (sym end) ∙ merged-inserted c cs n (omega (arith, end)) left out

-- and where it is there, the list
pub merged-there : (c : Cube) (cs : List Cube) → begins_with c (drop_below c cs) ≡ true → merged cs (c ∷ []) ≡ cs
merged-there c [] there = absurd (false≢true there)
merged-there c (d ∷ ds) there = go (merged-there c ds) (row_cmp d c) refl there
  where
    go : (begins_with c (drop_below c ds) ≡ true → merged ds (c ∷ []) ≡ ds) → (o : Ordering) → row_cmp d c ≡ o → begins_with c (drop_below c (d ∷ ds)) ≡ true → merged (d ∷ ds) (c ∷ []) ≡ d ∷ ds
    go more Less e there =
        let above : row_cmp c d ≡ Greater = row_total.antisymm c d ∙ ap ordering_reverse e in
        ap (λ o. cond (is_lt o) (c ∷ []) [] ++ (d ∷ merged ds (drop_equal d (cond (is_lt o) [] (c ∷ []))))) above
        ∙ ap (λ o. d ∷ merged ds (cond (is_eq o) [] (c ∷ []))) above
        ∙ ap (λ l. d ∷ l) (more (ap (λ o. begins_with c (cond (is_lt o) (drop_below c ds) (d ∷ ds))) (sym e) ∙ there))
    go more Equal e there =
        let same : row_cmp c d ≡ Equal = row_total.antisymm c d ∙ ap ordering_reverse e in
        ap (λ o. cond (is_lt o) (c ∷ []) [] ++ (d ∷ merged ds (drop_equal d (cond (is_lt o) [] (c ∷ []))))) same
        ∙ ap (λ o. d ∷ merged ds (cond (is_eq o) [] (c ∷ []))) same
        ∙ ap (λ l. d ∷ l) (merged-nothing ds)
    go more Greater e there =
        absurd (false≢true (sym (ap (λ o. begins_with c (cond (is_lt o) (drop_below c ds) (d ∷ ds))) e ∙ ap is_eq e) ∙ there))

-- properties of each cube
pub All-inserted : (P : Cube → Type 0) (rows all : List Cube) (c : Cube) (b : Bool) → All P rows → P c → all ≡ merged rows (cond b [] (c ∷ [])) → All P all
All-inserted P rows all c b h k is = All-same P all (merged rows (cond b [] (c ∷ []))) is (All-merged P rows (cond b [] (c ∷ [])) h (added b))
  where
    added : (b : Bool) → All P (cond b [] (c ∷ []))
    added true = All-nil P
    added false = All-cons P c [] k (All-nil P)

-- ---- the sum

-- a list of one cube has a second one if the two are equal, and else not
pub begins_with-one : (c d : Cube) (b : Bool) → IsTrue b ↔ c ≡ d → b ≡ begins_with c (drop_below c (d ∷ []))
begins_with-one c d b same = go (row_cmp d c) refl b same
  where
    tied : c ≡ d → row_cmp d c ≡ Equal
    tied e = ap (row_cmp d) e ∙ tied_itself row_total d

    go : (o : Ordering) → row_cmp d c ≡ o → (b : Bool) → IsTrue b ↔ c ≡ d → b ≡ begins_with c (cond (is_lt o) [] (d ∷ []))
    go Less e true same = let impossible : Less ≡ Equal = sym e ∙ tied (same.0 refl) in cc impossible
    go Less e false same = refl
    go Equal e b same = same.1 (sym (row_exact d c e)) ∙ sym (ap is_eq e)
    go Greater e true same = let impossible : Greater ≡ Equal = sym e ∙ tied (same.0 refl) in cc impossible
    go Greater e false same = sym (ap is_eq e)

-- from the rows of both values and that of each
module _ (size : Size) (i : ℕ) (lt : i < size.inputs) (rows zeros ones both sum : List Cube) where
  pub complete_sum-two : AreCubes size rows → [] ≡ part i Dash rows → zeros ≡ part i Zero rows → ones ≡ part i One rows → IsMeets size zeros ones both
      → length zeros ≤ 1 → length ones ≤ 1 → length both ≤ 1 → sum ≡ combination i both zeros ones → sum ≡ complete_sum size (places rows)
  complete_sum-two h d z o m few_zeros few_ones few_both is =
      let middle = IsBranch-both_list size i lt rows h [] zeros ones both both d z o m refl in
      let low = IsBranch-side size i lt rows h false zeros [] zeros z d (sym (append-nil zeros)) in
      let high = IsBranch-side size i lt rows h true ones [] ones o d (sym (append-nil ones)) in
      is
      ∙ ap (λ l. combination i l zeros ones) (complete_sum-few size both middle.are_cubes few_both ∙ complete_sum-same size (places both) (consensus_at i (places rows)) middle.places)
      ∙ ap (λ l. combination i (complete_sum size (consensus_at i (places rows))) l ones)
      (complete_sum-few size zeros low.are_cubes few_zeros ∙ complete_sum-same size (places zeros) (cofactor_at i false (places rows)) low.places)
      ∙ ap (λ l. combination i (complete_sum size (consensus_at i (places rows))) (complete_sum size (cofactor_at i false (places rows))) l)
      (complete_sum-few size ones high.are_cubes few_ones ∙ complete_sum-same size (places ones) (cofactor_at i true (places rows)) high.places)
      ∙ complete_sum-three size i lt (places rows)

-- of a cube with `0` and one with `1`
module _ (size : Size) (i : ℕ) (lt : i < size.inputs) (zero' one : Cube) (cube_zero : IsCube size zero') (cube_one : IsCube size one)
    (low : get_or zero'.symbols i Dash ≡ Zero) (high : get_or one.symbols i Dash ≡ One) where
  parts : (t : Symbol) → part i t (zero' ∷ one ∷ [])
      ≡ cond (is_symbol t Zero) (with_symbol zero' i Dash ∷ cond (is_symbol t One) (with_symbol one i Dash ∷ []) []) (cond (is_symbol t One) (with_symbol one i Dash ∷ []) [])
  parts t =
      ap (λ s. cond (is_symbol t s) (with_symbol zero' i Dash ∷ part i t (one ∷ [])) (part i t (one ∷ []))) low
      ∙ ap (λ s. cond (is_symbol t Zero) (with_symbol zero' i Dash ∷ cond (is_symbol t s) (with_symbol one i Dash ∷ []) []) (cond (is_symbol t s) (with_symbol one i Dash ∷ []) [])) high

  put_back : (c : Cube) (t : Symbol) → get_or c.symbols i Dash ≡ t → with_symbol (with_symbol c i Dash) i t ≡ c
  put_back c t e = with_symbol-twice c i Dash t ∙ with_symbol-own c i t e

  -- the consensus and then each of the two, unless it lies in the consensus, as a and b tell
  module _ (both : List Cube) (a b : Bool) where
    in_turn : a ≡ begins_with (with_symbol zero' i Dash) (drop_below (with_symbol zero' i Dash) both) → b ≡ begins_with (with_symbol one i Dash) (drop_below (with_symbol one i Dash) both)
        → merged (merged both (cond a [] (zero' ∷ []))) (cond b [] (one ∷ [])) ≡ combination i both (with_symbol zero' i Dash ∷ []) (with_symbol one i Dash ∷ [])
    in_turn first second =
        sym (
        ap (λ x. merged (merged both (cond x [] (with_symbol (with_symbol zero' i Dash) i Zero ∷ []))) (without_equal_rows i One (with_symbol one i Dash ∷ []) both)) (sym first)
        ∙ ap (λ x. merged (merged both (cond a [] (with_symbol (with_symbol zero' i Dash) i Zero ∷ []))) (cond x [] (with_symbol (with_symbol one i Dash) i One ∷ []))) (sym second)
        ∙ ap (λ c. merged (merged both (cond a [] (c ∷ []))) (cond b [] (with_symbol (with_symbol one i Dash) i One ∷ []))) (put_back zero' Zero low)
        ∙ ap (λ c. merged (merged both (cond a [] (zero' ∷ []))) (cond b [] (c ∷ []))) (put_back one One high)
        )

    pub complete_sum-opposites : (sum : List Cube) → IsMeets size (with_symbol zero' i Dash ∷ []) (with_symbol one i Dash ∷ []) both → length both ≤ 1
        → a ≡ begins_with (with_symbol zero' i Dash) (drop_below (with_symbol zero' i Dash) both) → b ≡ begins_with (with_symbol one i Dash) (drop_below (with_symbol one i Dash) both)
        → sum ≡ merged (merged both (cond a [] (zero' ∷ []))) (cond b [] (one ∷ [])) → sum ≡ complete_sum size (places (zero' ∷ one ∷ []))
    complete_sum-opposites sum meets few first second is =
        complete_sum-two size i lt (zero' ∷ one ∷ []) (with_symbol zero' i Dash ∷ []) (with_symbol one i Dash ∷ []) both sum
        (All-cons (IsCube size) zero' (one ∷ []) cube_zero (All-cons (IsCube size) one [] cube_one (All-nil (IsCube size))))
        (sym (parts Dash)) (sym (parts Zero)) (sym (parts One)) meets (omega arith) (omega arith) few (is ∙ in_turn first second)

-- the order of the two does not matter
pub complete_sum-other_order : (size : Size) (c d : Cube) → complete_sum size (places (c ∷ d ∷ [])) ≡ complete_sum size (places (d ∷ c ∷ []))
complete_sum-other_order size c d =
    complete_sum-same size (places (c ∷ d ∷ [])) (places (d ∷ c ∷ [])) (λ p. swapped (holds c p) (holds d p))
  where
    swapped : (x y : Bool) → (x || (y || false)) ≡ (y || (x || false))
    swapped true true = refl
    swapped true false = refl
    swapped false true = refl
    swapped false false = refl

pub two_rows : (rows : List Cube) (c d : Cube) → length rows ≡ 2 → c ≡ get_or rows 0 c → d ≡ get_or rows 1 d → rows ≡ c ∷ d ∷ []
two_rows [] c d len first second = absurd (omega arith)
two_rows (x ∷ []) c d len first second = absurd (omega arith)
two_rows (x ∷ y ∷ []) c d len first second = ap (λ z. z ∷ y ∷ []) (sym first) ∙ ap (λ z. c ∷ z ∷ []) (sym second)
two_rows (x ∷ y ∷ z ∷ rest) c d len first second = absurd (omega arith)
