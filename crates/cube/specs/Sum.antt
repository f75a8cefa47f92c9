-- All places and all cubes of a size, and the complete sum of a set of places.
use Rattle.std.specs.Prelude.{ℕ, zero, suc, Bool, true, false, not, ◌&&◌, ◌||◌, List, [], ◌∷◌, map, Contains, ◌↔◌}
use Rattle.std.specs.List.{filter, flat_map, list_any, list_all, range_with_len}
use Rattle.std.specs.List.Sorted.{IsStrictlySortedBy}
use Rattle.cube.specs.declared.symbol.Symbol.TheVariants.{Dash, Zero, One}
use Rattle.cube.specs.Size.{Size}
use Rattle.cube.specs.Cube.{Cube, Place, holds, IsCube, IsSubset}
use Rattle.cube.specs.Order.{row_cmp}

-- the lists of n of these choices, in the order of the choices, the first element first
abbrev pub lists_of : {A : Type 0} → List A → ℕ → List (List A)
lists_of choices zero = [] ∷ []
lists_of choices (suc n) = flat_map (λ x. map (λ rest. x ∷ rest) (lists_of choices n)) choices

-- the places of a size
abbrev pub all_places : Size → List Place
all_places size =
    flat_map (λ point. map (λ j. record { point = point; output = j })
    (range_with_len 0 size.outputs))
    (lists_of (false ∷ true ∷ []) size.inputs)

-- the cubes of a size, which have at least one output, in row order
abbrev pub all_cubes : Size → List Cube
all_cubes size =
    flat_map (λ symbols. map (λ outputs. record { symbols = symbols; outputs = outputs })
    (filter (list_any (λ b. b)) (lists_of (false ∷ true ∷ []) size.outputs)))
    (lists_of (Dash ∷ Zero ∷ One ∷ []) size.inputs)

-- the test that s lies within t
abbrev pub is_subset : Size → (Place → Bool) → (Place → Bool) → Bool
is_subset size s t = list_all (λ p. not (s p) || t p) (all_places size)

-- c lies within s, and no larger cube does
abbrev pub is_maximal : Size → (Place → Bool) → Cube → Bool
is_maximal size s c = is_subset size (holds c) s
    && not (list_any (λ d. is_subset size (holds d) s && is_subset size (holds c) (holds d)
    && not (is_subset size (holds d) (holds c))) (all_cubes size))

-- the complete sum: the maximal cubes, in row order, each once
abbrev pub complete_sum : Size → (Place → Bool) → List Cube
complete_sum size s = filter (is_maximal size s) (all_cubes size)

-- what `is_maximal` tests, of a cube of the size
pub record IsMaximal (size : Size) (s : Place → Bool) (c : Cube) : Type 0 where
  pub is_cube : IsCube size c
  pub within : IsSubset (holds c) s
  pub largest : (d : Cube) → IsCube size d → IsSubset (holds d) s → IsSubset (holds c) (holds d)
      → IsSubset (holds d) (holds c)

-- a list that rises strictly in row order and whose members are the maximal cubes
pub record IsCompleteSum (size : Size) (s : Place → Bool) (cs : List Cube) : Type 0 where
  pub rising : IsStrictlySortedBy row_cmp cs
  pub members : (c : Cube) → Contains cs c ↔ IsMaximal size s c
