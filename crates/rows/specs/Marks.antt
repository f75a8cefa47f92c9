-- How the contained cubes of a list are marked. No public clause cites this module.
use Rattle.std.specs.Prelude.{◌≡◌, ℕ, ◌+◌, ◌<◌, Bool, true, false, not, ◌&&◌, ◌||◌, nat_lt, nat_eq, List, [], length, take, drop, slice_index_or}
use Rattle.std.specs.List.{list_any}
use Rattle.cube.specs.declared.symbol.Symbol.{Symbol}
use Rattle.cube.specs.declared.symbol.Symbol.TheVariants.{Dash, Zero, One}
use Rattle.cube.specs.Size.{Size}
use Rattle.cube.specs.Cube.{Cube}
use Rattle.rows.specs.Contained.{is_within, is_contained}

-- the cube at index k
abbrev pub cube_at : List Cube → ℕ → Cube
cube_at cubes k = slice_index_or cubes k (record { symbols = []; outputs = [] })

-- the cube at k is absorbed by that at j: it lies in it, and j is earlier or its cube is larger
abbrev pub is_absorbed_by : Size → List Cube → ℕ → ℕ → Bool
is_absorbed_by size cubes k j =
    is_within size (cube_at cubes k) (cube_at cubes j)
    && (nat_lt j k || (nat_lt k j && not (is_within size (cube_at cubes j) (cube_at cubes k))))

-- the cube at k is absorbed by an earlier one or by a later one
abbrev pub is_contained_at : Size → List Cube → ℕ → Bool
is_contained_at size cubes k = is_contained size (take k cubes) (cube_at cubes k)
    (drop (k + 1) cubes)

-- the symbol at input i of the cube at k
abbrev pub symbol_at : List Cube → ℕ → ℕ → Symbol
symbol_at cubes i k = slice_index_or (cube_at cubes k).symbols i Dash

-- the symbols are one
abbrev pub is_symbol : Symbol → Symbol → Bool
is_symbol Dash Dash = true
is_symbol Zero Zero = true
is_symbol One One = true
is_symbol s t = false

-- what has the second symbol can lie in what has the first
abbrev pub is_over : Symbol → Symbol → Bool
is_over Dash t = true
is_over Zero t = is_symbol Zero t
is_over One t = is_symbol One t

-- some bit agrees with both symbols
abbrev pub is_compatible : Symbol → Symbol → Bool
is_compatible s t = is_over s t || is_over t s

-- the indices of `inner` are marked whose cubes are absorbed by those of `outer`
pub record Marks (size : Size) (cubes : List Cube) (inner outer : List ℕ)
    (old new : List Bool) : Type 0 where
  pub len : length new ≡ length old
  pub each : (k : ℕ) → k < length old
      → slice_index_or new k false
      ≡ (slice_index_or old k false
      || (list_any (λ x. nat_eq x k) inner && list_any (is_absorbed_by size cubes k) outer))

-- the indices of `inner` are marked whose cubes have the symbol at input i and are absorbed by
-- those of `outer`
pub record MarksPart (size : Size) (cubes : List Cube) (i : ℕ) (s : Symbol) (inner outer : List ℕ)
    (old new : List Bool) : Type 0 where
  pub len : length new ≡ length old
  pub each : (k : ℕ) → k < length old
      → slice_index_or new k false
      ≡ (slice_index_or old k false
      || ((is_symbol (symbol_at cubes i k) s && list_any (λ x. nat_eq x k) inner)
      && list_any (is_absorbed_by size cubes k) outer))
