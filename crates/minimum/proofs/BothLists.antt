-- The complete sum of two lists taken together.
use Rattle.std.proofs.Common.{◌≡◌, ◌||◌, List, ◌++◌, ap, ◌∙◌}
use Rattle.std.proofs.lemmas.List.Folds.{list_any-append}
use Rattle.cube.specs.Size.{Size}
use Rattle.cube.specs.Cube.{Cube, holds}
use Rattle.cube.specs.Sum.{complete_sum}
use Rattle.cube.proofs.SumLemmas.{complete_sum-same}
use Rattle.cover.specs.Cubes.{Cubes}
use Rattle.cover.specs.Places.{places}
use Rattle.pla.specs.Sets.{SetLists}
use Rattle.minimum.specs.Primes.{primes_of}

abbrev pub cubes_of : Size → List Cube → Cubes
cubes_of size cubes = record { size = size; cubes = cubes }

pub primes-together : (sets : SetLists) (all : List Cube) → all ≡ sets.on ++ sets.dc → complete_sum sets.size (places all) ≡ primes_of sets
primes-together sets all e =
    ap (λ l. complete_sum sets.size (places l)) e
    ∙ complete_sum-same sets.size (places (sets.on ++ sets.dc)) (λ p. places sets.on p || places sets.dc p)
    (λ p. list_any-append (λ (c : Cube). holds c p) sets.on sets.dc)
