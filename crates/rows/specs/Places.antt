-- The places of a list of cubes, and tests of sets of places.
use Rattle.std.specs.Prelude.{Bool, true, false, not, ◌||◌, List, [], ◌∷◌, map, replicate, refl, ◌≡◌}
use Rattle.std.specs.List.{list_any, list_all, filter}
use Rattle.std.specs.Bool.{beq}
use Rattle.std.specs.Borrow.{Bor}
use Rattle.cube.specs.declared.symbol.Symbol.TheVariants.{Dash, Zero, One}
use Rattle.cube.specs.Size.{Size}
use Rattle.cube.specs.Cube.{Cube, Place, holds}
use Rattle.cube.specs.Sum.{all_places, is_subset}

-- the places of a list are those of its cubes
abbrev pub places : List Cube → Place → Bool
places cubes p = list_any (λ c. holds c p) cubes

-- every place of the size is in s
abbrev pub holds_all : Size → (Place → Bool) → Bool
holds_all size s = list_all s (all_places size)

-- the cube of every place
abbrev pub universal : Size → Cube
universal size = record {
  symbols = replicate size.inputs Dash;
  outputs = replicate size.outputs true;
}

-- each place of the size that is in s is outside t
abbrev pub is_disjoint : Size → (Place → Bool) → (Place → Bool) → Bool
is_disjoint size s t = is_subset size s (λ p. not (t p))

-- some place of the size is in both
abbrev pub share_place : Size → (Place → Bool) → (Place → Bool) → Bool
share_place size s t = not (is_disjoint size s t)

-- each place of the size outside `free` is in both or in neither
abbrev pub agree_outside : Size → (Place → Bool) → (Place → Bool) → (Place → Bool) → Bool
agree_outside size s t free = holds_all size (λ p. free p || beq (s p) (t p))

-- the cubes of a list that have a place of c, in their order
abbrev pub meeting : Size → Cube → List Cube → List Cube
meeting size c cubes = filter (λ d. not (is_disjoint size (holds d) (holds c))) cubes

-- the cubes that references are to
abbrev pub behind : List (Bor Cube) → List Cube
behind refs = map (λ r. r.now) refs

-- one row of a dash and both outputs holds every place
example_all : holds_all (record { inputs = 1; outputs = 2 })
    (places (record { symbols = Dash ∷ []; outputs = true ∷ true ∷ [] } ∷ [])) ≡ true
example_all = refl

-- without one of the outputs it doesn't
example_one_output : holds_all (record { inputs = 1; outputs = 2 })
    (places (record { symbols = Dash ∷ []; outputs = true ∷ false ∷ [] } ∷ [])) ≡ false
example_one_output = refl

-- two rows that share the input do
example_two_rows : holds_all (record { inputs = 1; outputs = 1 })
    (places (record { symbols = Zero ∷ []; outputs = true ∷ [] } ∷
    record { symbols = One ∷ []; outputs = true ∷ [] } ∷ [])) ≡ true
example_two_rows = refl

-- without inputs each output has one place
example_no_inputs : holds_all (record { inputs = 0; outputs = 2 })
    (places (record { symbols = []; outputs = true ∷ false ∷ [] } ∷
    record { symbols = []; outputs = false ∷ true ∷ [] } ∷ [])) ≡ true
example_no_inputs = refl

-- no row holds no place
example_none : holds_all (record { inputs = 2; outputs = 1 }) (places []) ≡ false
example_none = refl

-- `1-` and `-1` agree but at `10` and `01`
example_agree : agree_outside (record { inputs = 2; outputs = 1 })
    (places (record { symbols = One ∷ Dash ∷ []; outputs = true ∷ [] } ∷ []))
    (places (record { symbols = Dash ∷ One ∷ []; outputs = true ∷ [] } ∷ []))
    (places (record { symbols = One ∷ Zero ∷ []; outputs = true ∷ [] } ∷
    record { symbols = Zero ∷ One ∷ []; outputs = true ∷ [] } ∷ [])) ≡ true
example_agree = refl

-- without `01` they don't
example_differ : agree_outside (record { inputs = 2; outputs = 1 })
    (places (record { symbols = One ∷ Dash ∷ []; outputs = true ∷ [] } ∷ []))
    (places (record { symbols = Dash ∷ One ∷ []; outputs = true ∷ [] } ∷ []))
    (places (record { symbols = One ∷ Zero ∷ []; outputs = true ∷ [] } ∷ [])) ≡ false
example_differ = refl
