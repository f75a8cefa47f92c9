-- The cubes of a list that was computed.
use Rattle.std.proofs.Common.{◌≡◌, List, Result, ap}
use Rattle.std.proofs.lemmas.Result.{IfOk-weaker}
use Rattle.std.specs.Prelude.{IfOk}
use Rattle.cube.specs.Cube.{Cube}
use Rattle.cube.specs.Size.{Size}
use Rattle.cover.specs.Cubes.{Cubes}

pub cubes_of : {E : Type 0} (list : Result Cubes E) (size : Size) (cubes : List Cube) → IfOk list (λ on. on ≡ record { size = size; cubes = cubes }) → IfOk list (λ on. on.cubes ≡ cubes)
cubes_of list size cubes h = IfOk-weaker list _ _ (λ on e. ap (λ (l : Cubes). l.cubes) e) h
