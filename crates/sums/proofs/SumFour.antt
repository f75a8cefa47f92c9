-- The complete sum of four rows with the four pairs of literals at two inputs.
use Rattle.std.proofs.Common.{◌≡◌, ◌≢◌, ℕ, ◌<◌, ◌≤◌, Bool, ◌&&◌, ◌||◌, ◌↔◌, true, false, cond, List, [], ◌∷◌, ◌++◌, length, get_or, Option, Some, None, IsNone, IfSome, option_to_list, refl, sym, ap, subst, ◌∙◌, arith}
use Rattle.std.specs.List.Sorted.{IsStrictlySortedBy}
use Rattle.std.proofs.lemmas.Bool.{false≢true, and_parts}
use Rattle.std.proofs.Math.Bool.{or-false}
use Rattle.std.proofs.lemmas.List.{append-nil, get_or-set_other}
use Rattle.std.proofs.lemmas.List.Elements.{All-nil, All-cons, All-append}
use Rattle.cube.specs.declared.symbol.Symbol.{Symbol}
use Rattle.cube.specs.declared.symbol.Symbol.TheVariants.{Dash, Zero, One}
use Rattle.cube.specs.Size.{Size}
use Rattle.cube.specs.Order.{row_cmp}
use Rattle.cube.specs.Pattern.{agrees, matches}
use Rattle.cube.specs.Cube.{Cube, Place, IsCube, IsSubset, IsDisjoint, SameSize, holds, intersection, with_symbol}
use Rattle.cube.specs.Sum.{complete_sum}
use Rattle.cube.proofs.HoldsLemmas.{agrees_at-matches, Covers-from_IsSubset}
use Rattle.cube.proofs.SharpLemmas.{some_true}
use Rattle.cube.proofs.SumLemmas.{complete_sum-same, sorted-complete_sum}
use Rattle.rows.specs.Cubes.{AreCubes}
use Rattle.rows.specs.Places.{places}
use Rattle.rows.specs.Complete.{literal, cofactor_at, consensus_at}
use Rattle.rows.specs.Marks.{is_symbol}
use Rattle.rows.specs.Parts.{part, has_symbols, combination, without_equal_rows}
use Rattle.rows.proofs.ContainmentLemmas.{is_symbol-same}
use Rattle.rows.proofs.Found.{meet_IsCube}
use Rattle.sums.proofs.SumBranches.{IsBranch-side}
use Rattle.rows.proofs.SumMeets.{places-append}
use Rattle.sums.proofs.SumSides.{IsSide-sum, IsSide-rising}
use Rattle.rows.proofs.SumSplit.{IsCube-with_symbol}
use Rattle.sums.proofs.SumStep.{complete_sum-three, AreCubes-complete_sum}
use Rattle.sums.proofs.SumTwo.{complete_sum-few}

-- ---- symbols at two inputs

pub first_symbol : (i j : ℕ) (s t : Symbol) (c : Cube) → has_symbols i s j t c ≡ true → get_or c.symbols i Dash ≡ s
first_symbol i j s t c has = sym (is_symbol-same s (get_or c.symbols i Dash) (and_parts (is_symbol s (get_or c.symbols i Dash)) (is_symbol t (get_or c.symbols j Dash)) has).0)

pub second_symbol : (i j : ℕ) (s t : Symbol) (c : Cube) → has_symbols i s j t c ≡ true → get_or c.symbols j Dash ≡ t
second_symbol i j s t c has = sym (is_symbol-same t (get_or c.symbols j Dash) (and_parts (is_symbol s (get_or c.symbols i Dash)) (is_symbol t (get_or c.symbols j Dash)) has).1)

-- ---- one cube or none

all_of_option : (size : Size) (z : Option Cube) → IfSome z (IsCube size) → AreCubes size (option_to_list z)
all_of_option size None h = All-nil (IsCube size)
all_of_option size (Some c) h = All-cons (IsCube size) c [] h (All-nil (IsCube size))

pub complete_sum-some : (size : Size) (zero' one : Option Cube) (rows : List Cube) → IfSome zero' (IsCube size) → IfSome one (IsCube size)
    → rows ≡ option_to_list zero' ++ option_to_list one → length rows ≤ 1 → rows ≡ complete_sum size (places (option_to_list zero' ++ option_to_list one))
complete_sum-some size zero' one rows z o is few =
    is ∙ complete_sum-few size (option_to_list zero' ++ option_to_list one)
    (All-append (IsCube size) (option_to_list zero') (option_to_list one) (all_of_option size zero' z) (all_of_option size one o)) (omega (arith, ap length is, few))

-- ---- the rows of one value

part-own : (i : ℕ) (t : Symbol) (c : Cube) (cs : List Cube) → is_symbol t t ≡ true → get_or c.symbols i Dash ≡ t → part i t (c ∷ cs) ≡ with_symbol c i Dash ∷ part i t cs
part-own i t c cs own e = ap (λ b. cond b (with_symbol c i Dash ∷ part i t cs) (part i t cs)) (ap (is_symbol t) e ∙ own)

part-other : (i : ℕ) (t s : Symbol) (c : Cube) (cs : List Cube) → is_symbol t s ≡ false → get_or c.symbols i Dash ≡ s → part i t (c ∷ cs) ≡ part i t cs
part-other i t s c cs other e = ap (λ b. cond b (with_symbol c i Dash ∷ part i t cs) (part i t cs)) (ap (is_symbol t) e ∙ other)

module _ (i : ℕ) (a b c d : Cube) (at_a : get_or a.symbols i Dash ≡ Zero) (at_b : get_or b.symbols i Dash ≡ Zero)
    (at_c : get_or c.symbols i Dash ≡ One) (at_d : get_or d.symbols i Dash ≡ One) where
  part_zeros : part i Zero (a ∷ b ∷ c ∷ d ∷ []) ≡ with_symbol a i Dash ∷ with_symbol b i Dash ∷ []
  part_zeros =
      part-own i Zero a (b ∷ c ∷ d ∷ []) refl at_a
      ∙ ap (λ l. with_symbol a i Dash ∷ l) (part-own i Zero b (c ∷ d ∷ []) refl at_b
      ∙ ap (λ l. with_symbol b i Dash ∷ l) (part-other i Zero One c (d ∷ []) refl at_c ∙ part-other i Zero One d [] refl at_d))

  part_ones : part i One (a ∷ b ∷ c ∷ d ∷ []) ≡ with_symbol c i Dash ∷ with_symbol d i Dash ∷ []
  part_ones =
      part-other i One Zero a (b ∷ c ∷ d ∷ []) refl at_a ∙ part-other i One Zero b (c ∷ d ∷ []) refl at_b
      ∙ part-own i One c (d ∷ []) refl at_c ∙ ap (λ l. with_symbol c i Dash ∷ l) (part-own i One d [] refl at_d)

  part_dashes : part i Dash (a ∷ b ∷ c ∷ d ∷ []) ≡ []
  part_dashes =
      part-other i Dash Zero a (b ∷ c ∷ d ∷ []) refl at_a ∙ part-other i Dash Zero b (c ∷ d ∷ []) refl at_b
      ∙ part-other i Dash One c (d ∷ []) refl at_c ∙ part-other i Dash One d [] refl at_d

-- ---- the sum

-- sums of the three branches at input i that can be put together
pub record AreBranches (size : Size) (i : ℕ) (both low high : List Cube) : Type 0 where
  pub both_cubes : AreCubes size both
  pub low_cubes : AreCubes size low
  pub high_cubes : AreCubes size high
  pub rising : IsStrictlySortedBy row_cmp both
  pub zeros : IsStrictlySortedBy row_cmp (without_equal_rows i Zero low both)
  pub ones : IsStrictlySortedBy row_cmp (without_equal_rows i One high both)

module _ (size : Size) (i : ℕ) (lt : i < size.inputs) (a b c d : Cube) (cubes : AreCubes size (a ∷ b ∷ c ∷ d ∷ []))
    (at_a : get_or a.symbols i Dash ≡ Zero) (at_b : get_or b.symbols i Dash ≡ Zero) (at_c : get_or c.symbols i Dash ≡ One) (at_d : get_or d.symbols i Dash ≡ One)
    (both low high : List Cube)
    (both_is : both ≡ complete_sum size (intersection (places (with_symbol a i Dash ∷ with_symbol b i Dash ∷ [])) (places (with_symbol c i Dash ∷ with_symbol d i Dash ∷ []))))
    (low_is : low ≡ complete_sum size (places (with_symbol a i Dash ∷ with_symbol b i Dash ∷ [])))
    (high_is : high ≡ complete_sum size (places (with_symbol c i Dash ∷ with_symbol d i Dash ∷ []))) where
  abbrev pub lows : List Cube
  lows = with_symbol a i Dash ∷ with_symbol b i Dash ∷ []

  abbrev pub highs : List Cube
  highs = with_symbol c i Dash ∷ with_symbol d i Dash ∷ []

  abbrev pub rows : List Cube
  rows = a ∷ b ∷ c ∷ d ∷ []

  abbrev pub s : Place → Bool
  s = places rows

  low_places : (p : Place) → places lows p ≡ cofactor_at i false s p
  low_places = (IsBranch-side size i lt rows cubes false lows [] lows (sym (part_zeros i a b c d at_a at_b at_c at_d)) (sym (part_dashes i a b c d at_a at_b at_c at_d)) (sym (append-nil lows))).places

  high_places : (p : Place) → places highs p ≡ cofactor_at i true s p
  high_places = (IsBranch-side size i lt rows cubes true highs [] highs (sym (part_ones i a b c d at_a at_b at_c at_d)) (sym (part_dashes i a b c d at_a at_b at_c at_d)) (sym (append-nil highs))).places

  both_sum : both ≡ complete_sum size (consensus_at i s)
  both_sum = both_is ∙ complete_sum-same size (intersection (places lows) (places highs)) (consensus_at i s)
      (λ p. ap (λ x. x && places highs p) (low_places p) ∙ ap (λ x. cofactor_at i false s p && x) (high_places p))

  low_sum : low ≡ complete_sum size (cofactor_at i false s)
  low_sum = low_is ∙ complete_sum-same size (places lows) (cofactor_at i false s) low_places

  high_sum : high ≡ complete_sum size (cofactor_at i true s)
  high_sum = high_is ∙ complete_sum-same size (places highs) (cofactor_at i true s) high_places

  pub square-branches : AreBranches size i both low high
  square-branches = record {
    both_cubes = AreCubes-complete_sum size (consensus_at i s) both both_sum;
    low_cubes = AreCubes-complete_sum size (cofactor_at i false s) low low_sum;
    high_cubes = AreCubes-complete_sum size (cofactor_at i true s) high high_sum;
    rising = subst (IsStrictlySortedBy row_cmp) (sym both_sum) (sorted-complete_sum size (consensus_at i s));
    zeros = IsSide-rising size i s lt false low both (IsSide-sum size i s false low low_sum) both_sum;
    ones = IsSide-rising size i s lt true high both (IsSide-sum size i s true high high_sum) both_sum;
  }

  pub complete_sum-square : (sum : List Cube) → sum ≡ combination i both low high → sum ≡ complete_sum size s
  complete_sum-square sum is =
      is ∙ ap (λ l. combination i l low high) both_sum ∙ ap (λ l. combination i (complete_sum size (consensus_at i s)) l high) low_sum
      ∙ ap (λ l. combination i (complete_sum size (consensus_at i s)) (complete_sum size (cofactor_at i false s)) l) high_sum
      ∙ complete_sum-three size i lt s

-- ---- the meets of the rows of both values

-- two pairs of sets, the first of each pair apart from the second of the other
square : (x y z w : Bool) → (x && w) ≡ false → (y && z) ≡ false → ((x && z) || (y && w)) ≡ ((x || (y || false)) && (z || (w || false)))
square true true z w h g = ap (λ u. z || u) (sym (or-false w))
square true false z w h g = ap (λ u. z || (u || false)) (sym h)
square false true z w h g = sym (ap (λ u. u || (w || false)) g ∙ or-false w)
square false false z w h g = refl

never : (x y : Bool) → (x ≡ true → y ≡ true → ⊥) → (x && y) ≡ false
never true true h = absurd (h refl refl)
never true false h = refl
never false y h = refl

one_bit : (b : Bool) → agrees Zero b ≡ true → agrees One b ≡ true → ⊥
one_bit true h g = false≢true h
one_bit false h g = false≢true g

apart : (size : Size) (j : ℕ) → j < size.inputs → (c d : Cube) → IsCube size c → IsCube size d → get_or c.symbols j Dash ≡ Zero → get_or d.symbols j Dash ≡ One
    → (p : Place) → holds c p ≡ true → holds d p ≡ true → ⊥
apart size j lt c d cube_c cube_d zero' one p in_c in_d =
    let at : (e : Cube) → IsCube size e → holds e p ≡ true → agrees (get_or e.symbols j Dash) (get_or p.point j false) ≡ true =
    λ e cube held. agrees_at-matches e.symbols p.point j (and_parts (matches e.symbols p.point) (get_or e.outputs p.output false) held).0 (omega (arith, cube.has_size.0)) in
    one_bit (get_or p.point j false) (ap (λ s. agrees s (get_or p.point j false)) (sym zero') ∙ at c cube_c in_c) (ap (λ s. agrees s (get_or p.point j false)) (sym one) ∙ at d cube_d in_d)

meet_places : (z : Option Cube) (x y : Cube) → (IsNone z ↔ IsDisjoint (holds x) (holds y)) → IfSome z (λ m. (p : Place) → holds m p ≡ (holds x p && holds y p))
    → (p : Place) → places (option_to_list z) p ≡ (holds x p && holds y p)
meet_places None x y none' some p = sym (never (holds x p) (holds y p) (none'.0 refl p))
meet_places (Some m) x y none' some p = or-false (holds m p) ∙ some p

module _ (size : Size) (j : ℕ) (lt : j < size.inputs) (a b c d : Cube) (cube_a : IsCube size a) (cube_b : IsCube size b) (cube_c : IsCube size c) (cube_d : IsCube size d)
    (at_a : get_or a.symbols j Dash ≡ Zero) (at_b : get_or b.symbols j Dash ≡ One) (at_c : get_or c.symbols j Dash ≡ Zero) (at_d : get_or d.symbols j Dash ≡ One)
    (zero' one : Option Cube) (none_zero : IsNone zero' ↔ IsDisjoint (holds a) (holds c)) (none_one : IsNone one ↔ IsDisjoint (holds b) (holds d))
    (some_zero : IfSome zero' (λ m. (p : Place) → holds m p ≡ (holds a p && holds c p))) (some_one : IfSome one (λ m. (p : Place) → holds m p ≡ (holds b p && holds d p))) where
  pub places-meets : (p : Place) → places (option_to_list zero' ++ option_to_list one) p ≡ (places (a ∷ b ∷ []) p && places (c ∷ d ∷ []) p)
  places-meets p =
      places-append (option_to_list zero') (option_to_list one) p
      ∙ ap (λ x. x || places (option_to_list one) p) (meet_places zero' a c none_zero some_zero p) ∙ ap (λ x. (holds a p && holds c p) || x) (meet_places one b d none_one some_one p)
      ∙ square (holds a p) (holds b p) (holds c p) (holds d p) (never (holds a p) (holds d p) (apart size j lt a d cube_a cube_d at_a at_d p))
      (never (holds b p) (holds c p) (λ in_b in_c. apart size j lt c b cube_c cube_b at_c at_b p in_c in_b))

-- a cube within another has its literals
within_literal : (b : Bool) (s : Symbol) → ((bit : Bool) → agrees s bit ≡ true → agrees (literal b) bit ≡ true) → s ≡ literal b
within_literal true Dash h = absurd (false≢true (h false refl))
within_literal true Zero h = absurd (false≢true (h false refl))
within_literal true One h = refl
within_literal false Dash h = absurd (false≢true (h true refl))
within_literal false Zero h = refl
within_literal false One h = absurd (false≢true (h true refl))

pub literal-within : (size : Size) (j : ℕ) (b : Bool) (c m : Cube) → IsCube size c → IsCube size m → IsSubset (holds m) (holds c) → get_or c.symbols j Dash ≡ literal b
    → get_or m.symbols j Dash ≡ literal b
literal-within size j b c m cube_c cube_m sub at =
    let on = some_true m.outputs cube_m.some_output in
    let covers = Covers-from_IsSubset c m (cube_c.has_size.0 ∙ sym cube_m.has_size.0, cube_c.has_size.1 ∙ sym cube_m.has_size.1) on.0 on.1 sub in
    within_literal b (get_or m.symbols j Dash) (λ bit ok. ap (λ s. agrees s bit) (sym at) ∙ covers.inputs j bit ok)

-- what the rows meet in, without literals at another input
module _ (size : Size) (i j : ℕ) (other : j ≢ i) (x y : Cube) (cube_x : IsCube size x) (cube_y : IsCube size y) where
  pub freed_meet-cube : (found : Option Cube) → (IsNone found ↔ IsDisjoint (holds (with_symbol x i Dash)) (holds (with_symbol y i Dash))) → IfSome found (λ m. SameSize m x)
      → IfSome found (λ m. (p : Place) → holds m p ≡ (holds (with_symbol x i Dash) p && holds (with_symbol y i Dash) p)) → IfSome found (IsCube size)
  freed_meet-cube None none' same some = tt
  freed_meet-cube (Some m) none' same some =
      let freed = IsCube-with_symbol size x i Dash cube_x in
      meet_IsCube size (with_symbol x i Dash) (with_symbol y i Dash) m (Some m) freed.has_size
      (same.0 ∙ cube_x.has_size.0 ∙ sym freed.has_size.0, same.1) refl none' some

  pub freed_meet-literal : (b : Bool) → get_or x.symbols j Dash ≡ literal b → (found : Option Cube) → IfSome found (IsCube size)
      → IfSome found (λ m. (p : Place) → holds m p ≡ (holds (with_symbol x i Dash) p && holds (with_symbol y i Dash) p)) → IfSome found (λ m. get_or m.symbols j Dash ≡ literal b)
  freed_meet-literal b at None cube some = tt
  freed_meet-literal b at (Some m) cube some =
      literal-within size j b (with_symbol x i Dash) m (IsCube-with_symbol size x i Dash cube_x) cube
      (λ p held. (and_parts (holds (with_symbol x i Dash) p) (holds (with_symbol y i Dash) p) (sym (some p) ∙ held)).0)
      (get_or-set_other x.symbols i j Dash Dash other ∙ at)

pub four_rows : (rows : List Cube) (a b c d : Cube) → length rows ≡ 4 → a ≡ get_or rows 0 a → b ≡ get_or rows 1 b → c ≡ get_or rows 2 c → d ≡ get_or rows 3 d
    → rows ≡ a ∷ b ∷ c ∷ d ∷ []
four_rows [] a b c d len first second third fourth = absurd (omega arith)
four_rows (x ∷ []) a b c d len first second third fourth = absurd (omega arith)
four_rows (x ∷ y ∷ []) a b c d len first second third fourth = absurd (omega arith)
four_rows (x ∷ y ∷ z ∷ []) a b c d len first second third fourth = absurd (omega arith)
four_rows (x ∷ y ∷ z ∷ w ∷ []) a b c d len first second third fourth =
    ap (λ u. u ∷ y ∷ z ∷ w ∷ []) (sym first) ∙ ap (λ u. a ∷ u ∷ z ∷ w ∷ []) (sym second) ∙ ap (λ u. a ∷ b ∷ u ∷ w ∷ []) (sym third)
    ∙ ap (λ u. a ∷ b ∷ c ∷ u ∷ []) (sym fourth)
four_rows (x ∷ y ∷ z ∷ w ∷ v ∷ rest) a b c d len first second third fourth = absurd (omega arith)
