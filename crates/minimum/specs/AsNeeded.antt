-- The least cover by places outside as they are needed. No public clause cites this module.
use Rattle.std.specs.Prelude.{◌≡◌, List, ◌++◌, Contains}
use Rattle.cube.specs.Cube.{Cube, holds, IsSubset, IsDisjoint}
use Rattle.cube.specs.Sum.{complete_sum}
use Rattle.cover.specs.Cubes.{Cubes}
use Rattle.cover.specs.Places.{places}
use Rattle.pla.specs.Sets.{SetLists}
use Rattle.covering.specs.declared.choice.Choice.{Choice}
use Rattle.minimum.specs.declared.as_needed.Known.{Known}
use Rattle.minimum.specs.Points.{function_of, IsFound}

-- the ON cubes and the DC cubes
abbrev pub inside_of : SetLists → Cubes
inside_of sets = record { size = sets.size; cubes = sets.on ++ sets.dc }

-- the maximal cubes that a list holds
abbrev pub primes_inside : Cubes → List Cube
primes_inside all = complete_sum all.size (places all.cubes)

-- cubes of the size of a list, none of whose places it has
pub record AreOutside (all known : Cubes) : Type 0 where
  pub size : known.size ≡ all.size
  pub apart : IsDisjoint (places known.cubes) (places all.cubes)

-- cubes with places outside, and points in no essential prime, with primes that dominate all that
-- contain one of them
pub record IsKnown (choice : Choice) (sets : SetLists) (essential : List Cube) (known : Known)
    : Type 0 where
  pub outside : AreOutside (inside_of sets) known.outside
  pub found : IsFound choice (function_of sets) known.found
  pub apart : (c x : Cube) → Contains essential c → Contains known.found.points.items x
      → IsSubset (holds x) (holds c) → ⊥
