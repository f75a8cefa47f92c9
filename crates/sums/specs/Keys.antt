-- Keys of cubes by which lists are met.
use Rattle.std.specs.Prelude.{◌≡◌, ℕ, ◌-◌, ◌*◌, ◌^◌, ◌<◌, ◌≤◌, if◌then◌else◌, List, length, slice_index_or}
use Rattle.std.specs.Int.{bit_at}
use Rattle.cube.specs.Cube.{Cube}
use Rattle.cube.specs.Literals.{has_literal, IsOrderKey}

-- `inputs` is the set of the inputs with literals of c, of the first 32: bit 62 - 2 k is for input
-- k, so that the first one is highest, as in a key
abbrev pub HasLiteralsAt : ℕ → Cube → Type 0
HasLiteralsAt inputs c = (k : ℕ) → k < 32
    → bit_at inputs (2 * (31 - k)) ≡ (if has_literal c k then 1 else 0)

-- n is the key of c, and `inputs` is the set of its inputs with literals, of the first 32
pub record IsKey (inputs : ℕ) (c : Cube) (n : ℕ) : Type 0 where
  pub literals : HasLiteralsAt inputs c
  pub key : IsOrderKey c n
  pub fits : n < 2 ^ 64

-- each cube has its key, and the keys do not fall
pub record HasKeys (inputs : ℕ) (cubes : List Cube) (keys : List ℕ) : Type 0 where
  pub len : length keys ≡ length cubes
  pub rising : (i j : ℕ) → i ≤ j → j < length keys
      → slice_index_or keys i 0 ≤ slice_index_or keys j 0
  pub each : (k : ℕ) (c : Cube) → k < length cubes → c ≡ slice_index_or cubes k c
      → IsKey inputs c (slice_index_or keys k 0)
