-- The bits of a column's rows, or of a row's columns: a column in all rows of another has all bits of that one's.
use Rattle.std.proofs.Common.{◌≡◌, ℕ, ◌+◌, ◌<◌, max, inl, inr, Bool, true, false, List, [], ◌∷◌, ◌||◌, length, map, take, slice_index_or, bit_or, fold, refl, sym, ap, subst, ◌∙◌, arith}
use Rattle.std.specs.Int.{bit_at}
use Rattle.std.specs.Int.Bits.{or_zero_l}
use Rattle.std.specs.List.{list_any}
use Rattle.std.proofs.lemmas.Nat.Bits.{bit_at_or, same_from_bits}
use Rattle.std.proofs.lemmas.Bool.{cases_Bool, eq-eqb, both_ways, true≢false}
use Rattle.std.proofs.lemmas.List.{take_more}
use Rattle.std.proofs.lemmas.List.Folds.{list_any-append}
use Rattle.std.proofs.Math.ListN.{get_or-map}
use Rattle.covering.specs.Table.{has, IsWithin}
use Rattle.covering.specs.Reduce.{row_at, bit_of, signature_of, has_bits, dominates, is_dominating_row}
use Rattle.covering.proofs.Sets.{has_here, has_later, has_cases}
use Rattle.covering.proofs.Dominance.{dominates_parts, dominating_parts}

-- the second number has all bits of the first
abbrev pub IsUnder : ℕ → ℕ → Type 0
IsUnder x z = bit_or x z ≡ z

max_join : (a b c : ℕ) → max a c ≡ c → max b c ≡ c → max (max a b) c ≡ c
max_join a b c h g = omega arith

max_left : (a b c : ℕ) → max a b ≡ b → max a (max b c) ≡ max b c
max_left a b c h = omega arith

max_right : (a b : ℕ) → max a (max b a) ≡ max b a
max_right a b = omega arith

under_bit : (x z i : ℕ) → IsUnder x z → max (bit_at x i) (bit_at z i) ≡ bit_at z i
under_bit x z i h = sym (bit_at_or x z i) ∙ ap (λ n. bit_at n i) h

under_join : (x y z : ℕ) → IsUnder x z → IsUnder y z → IsUnder (bit_or x y) z
under_join x y z h g = same_from_bits (bit_or (bit_or x y) z) z (λ i.
    bit_at_or (bit_or x y) z i ∙ ap (λ n. max n (bit_at z i)) (bit_at_or x y i)
    ∙ max_join (bit_at x i) (bit_at y i) (bit_at z i) (under_bit x z i h) (under_bit y z i g))

under_left : (x y z : ℕ) → IsUnder x y → IsUnder x (bit_or y z)
under_left x y z h = same_from_bits (bit_or x (bit_or y z)) (bit_or y z) (λ i.
    bit_at_or x (bit_or y z) i ∙ ap (max (bit_at x i)) (bit_at_or y z i)
    ∙ max_left (bit_at x i) (bit_at y i) (bit_at z i) (under_bit x y i h) ∙ sym (bit_at_or y z i))

under_right : (x y : ℕ) → IsUnder x (bit_or y x)
under_right x y = same_from_bits (bit_or x (bit_or y x)) (bit_or y x) (λ i.
    bit_at_or x (bit_or y x) i ∙ ap (max (bit_at x i)) (bit_at_or y x i)
    ∙ max_right (bit_at x i) (bit_at y i) ∙ sym (bit_at_or y x i))

-- the bits of these rows, added to some
abbrev with_bits : ℕ → List ℕ → ℕ
with_bits bits rows = fold (λ bits row. bit_or bits (bit_of row)) bits rows

still_under : (x bits : ℕ) (rows : List ℕ) → IsUnder x bits → IsUnder x (with_bits bits rows)
still_under x bits [] h = h
still_under x bits (row ∷ rows) h = still_under x (bit_or bits (bit_of row)) rows (under_left x bits (bit_of row) h)

bit_under : (n bits : ℕ) (rows : List ℕ) → has n rows ≡ true → IsUnder (bit_of n) (with_bits bits rows)
bit_under n bits [] h = absurd (true≢false (sym h))
bit_under n bits (row ∷ rows) h = elim (has_cases n row rows h) [
  | inl e ↦ still_under (bit_of n) (bit_or bits (bit_of row)) rows (subst (λ m. IsUnder (bit_of n) (bit_or bits (bit_of m))) e (under_right (bit_of n) bits))
  | inr e ↦ bit_under n (bit_or bits (bit_of row)) rows e
]

all_under : (bits z : ℕ) (rows : List ℕ) → IsUnder bits z → ((n : ℕ) → has n rows ≡ true → IsUnder (bit_of n) z) → IsUnder (with_bits bits rows) z
all_under bits z [] h g = h
all_under bits z (row ∷ rows) h g = all_under (bit_or bits (bit_of row)) z rows
    (under_join bits (bit_of row) z h (g row (has_here row row rows refl))) (λ n k. g n (has_later n row rows k))

pub signature_within : (a b : List ℕ) → IsWithin a b → has_bits (signature_of b) (signature_of a) ≡ true
signature_within a b h = eq-eqb _ _ (all_under 0 (signature_of b) a (or_zero_l (signature_of b)) (λ n k. bit_under n 0 b (h n k)))

-- where the signature of b lacks a bit of that of a, b does not dominate a
pub dominates_not : (preferred : ℕ → ℕ → Bool) (transpose : List (List ℕ)) (signatures : List ℕ) (keep : List Bool) (a b : ℕ) → signatures ≡ map signature_of transpose
    → has_bits (slice_index_or signatures b 0) (signature_of (row_at transpose a)) ≡ false → dominates preferred transpose keep a b ≡ false
dominates_not preferred transpose signatures keep a b e h = elim (cases_Bool (dominates preferred transpose keep a b)) [
  | inl d ↦ absurd (both_ways _
      (ap (λ bits. has_bits bits (signature_of (row_at transpose a))) (sym (get_or-map signature_of transpose b []) ∙ ap (λ l. slice_index_or l b 0) (sym e)) ∙ h)
      (signature_within (row_at transpose a) (row_at transpose b) (dominates_parts preferred transpose keep a b d).stands))
  | inr d ↦ d
]

-- where the signature of the row n lacks a bit of that of the row at, n does not have all its columns
pub dominating_not : (rows : List (List ℕ)) (signatures : List ℕ) (at n : ℕ) → signatures ≡ map signature_of rows
    → has_bits (slice_index_or signatures n 0) (signature_of (row_at rows at)) ≡ false → is_dominating_row rows at n ≡ false
dominating_not rows signatures at n e h = elim (cases_Bool (is_dominating_row rows at n)) [
  | inl d ↦ absurd (both_ways _
      (ap (λ bits. has_bits bits (signature_of (row_at rows at))) (sym (get_or-map signature_of rows n []) ∙ ap (λ l. slice_index_or l n 0) (sym e)) ∙ h)
      (signature_within (row_at rows at) (row_at rows n) (dominating_parts rows at n d).1))
  | inr d ↦ d
]

-- a test that fails on one more
pub none_more : (test : ℕ → Bool) (xs : List ℕ) (i : ℕ) → i < length xs → list_any test (take i xs) ≡ false → test (slice_index_or xs i 0) ≡ false → list_any test (take (i + 1) xs) ≡ false
none_more test xs i l h g = ap (list_any test) (take_more xs i 0 l) ∙ list_any-append test (take i xs) (slice_index_or xs i 0 ∷ []) ∙ ap (λ b. b || (test (slice_index_or xs i 0) || false)) h ∙ ap (λ b. b || false) g
