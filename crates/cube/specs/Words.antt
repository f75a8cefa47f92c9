-- What the kernels say of rows of words. No public clause cites this module.
use Rattle.std.specs.Prelude.{◌≡◌, ◌≢◌, ℕ, Bool, true, not, ◌&&◌, ◌||◌, ◌==◌, nat_lt, if◌then◌else◌, ◌/◌, ◌%◌, ◌+◌, ◌-◌, ◌*◌, ◌<◌, ◌≤◌, List, length, slice_index, bit_and, min, max}
use Rattle.std.specs.Int.{bit_at}

-- each bit of b is in a
abbrev pub IsBitSubset : ℕ → ℕ → Type 0
IsBitSubset b a = (k : ℕ) → k < 64 → bit_at b k ≤ bit_at a k

-- each bit of b is in a, word by word
abbrev pub CoversWords : List ℕ → List ℕ → Type 0
CoversWords a b = (v : ℕ) → v < length a → IsBitSubset (slice_index b v) (slice_index a v)

-- no pair of bits of the word is clear
abbrev pub HasNoEmptyPair : ℕ → Type 0
HasNoEmptyPair word = (k : ℕ) → k < 32 → 1 ≤ bit_at word (2 * k) + bit_at word (2 * k + 1)

-- each pair of places has a bit that is in both rows
abbrev pub PairsMeet : List ℕ → List ℕ → Type 0
PairsMeet a b = (v : ℕ) → v < length a
    → HasNoEmptyPair (bit_and (slice_index a v) (slice_index b v))

-- each pair of places from a word on has a bit that is in both rows
abbrev pub PairsMeetFrom : ℕ → List ℕ → List ℕ → Type 0
PairsMeetFrom from a b = (v : ℕ) → from ≤ v → v < length a
    → HasNoEmptyPair (bit_and (slice_index a v) (slice_index b v))

-- some bit is in both rows
abbrev pub ShareBit : List ℕ → List ℕ → Type 0
ShareBit a b = (v : ℕ) × (v < length a)
    × ((k : ℕ) × (k < 64) × (bit_at (bit_and (slice_index a v) (slice_index b v)) k ≡ 1))

-- the bits that are in both rows, word by word
pub record AreCommon (a b words : List ℕ) : Type 0 where
  pub len : length words ≡ length a
  pub each : (v : ℕ) → v < length a → slice_index words v ≡ bit_and (slice_index a v) (slice_index b v)

-- the bits of a that are not in b
abbrev pub IsBitDifference : ℕ → ℕ → ℕ → Type 0
IsBitDifference word a b = (k : ℕ) → k < 64 → bit_at word k ≡ bit_at a k - bit_at b k

-- a bit of pair k where the pair of b has both bits, and else 1
abbrev pub freed_bit : ℕ → ℕ → ℕ → ℕ
freed_bit bit b k = max bit (1 - min (bit_at b (2 * k)) (bit_at b (2 * k + 1)))

-- the lowest bits, as many as given, are set, as far as the words go
abbrev pub HasAll : ℕ → List ℕ → Type 0
HasAll count words = (v k : ℕ) → v < length words → k < 64 → 64 * v + k < count
    → bit_at (slice_index words v) k ≡ 1

-- a bit by its number among those of all words
abbrev pub bit_of_words : List ℕ → ℕ → ℕ
bit_of_words words k = bit_at (slice_index words (k / 64)) (k % 64)

-- the first bit in which two rows of words differ
pub record DiffersFirstAt (a b : List ℕ) (at : ℕ) : Type 0 where
  pub within : at < 64 * length a
  pub differs : bit_of_words a at ≢ bit_of_words b at
  pub before : (k : ℕ) → k < at → bit_of_words a k ≡ bit_of_words b k

-- the first clear bit from a number on
pub record IsFirstClear (words : List ℕ) (from at : ℕ) : Type 0 where
  pub from_on : from ≤ at
  pub within : at < 64 * length words
  pub clear : bit_of_words words at ≡ 0
  pub set_before : (k : ℕ) → from ≤ k → k < at → bit_of_words words k ≡ 1

-- each of the inputs from 32 w on that passes a test has one bit of its pair, and no other has one
abbrev pub Marks : (ℕ → Bool) → ℕ → ℕ → Type 0
Marks test w word = (k : ℕ) → k < 32
    → bit_at word (2 * k) + bit_at word (2 * k + 1) ≡ (if test (32 * w + k) then 1 else 0)

-- the bit that comes to k where groups of bits, which the mask has, are exchanged with those above
abbrev pub exchanged : ℕ → ℕ → ℕ → ℕ
exchanged width mask k = if bit_at mask k == 1 then k + width else k - width

-- a bit of the mask has none of it a width below, and another bit has one
abbrev pub is_exchange : ℕ → ℕ → ℕ → Bool
is_exchange width mask k = if bit_at mask k == 1 then nat_lt k width || bit_at mask (k - width) == 0
    else not (nat_lt k width) && bit_at mask (k - width) == 1

abbrev pub IsExchangeMask : ℕ → ℕ → Type 0
IsExchangeMask width mask = (k : ℕ) → k < 64 → is_exchange width mask k ≡ true
