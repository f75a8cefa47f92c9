-- What the definitions come to.
use Rattle.std.specs.Prelude.{◌≡◌, Bool, List}
use Rattle.cube.specs.Size.{Size}
use Rattle.cube.specs.Cube.{Cube, Place, IsCube, IsSubset, holds}
use Rattle.cube.specs.Sum.{complete_sum, IsCompleteSum}

-- the complete sum rises strictly, and its members are the maximal cubes
abbrev pub CompleteSumIsMaximalCubes : Type 0
CompleteSumIsMaximalCubes = (size : Size) (s : Place → Bool)
    → IsCompleteSum size s (complete_sum size s)

-- each such list is the complete sum
abbrev pub MaximalCubesAreCompleteSum : Type 0
MaximalCubesAreCompleteSum = (size : Size) (s : Place → Bool) (cs : List Cube)
    → IsCompleteSum size s cs → cs ≡ complete_sum size s

-- cubes of a size that hold the same places are equal
abbrev pub CubesDifferInPlaces : Type 0
CubesDifferInPlaces = (size : Size) (c d : Cube) → IsCube size c → IsCube size d
    → IsSubset (holds c) (holds d) → IsSubset (holds d) (holds c) → c ≡ d
