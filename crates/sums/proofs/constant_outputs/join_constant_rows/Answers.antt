use Rattle.std.proofs.Common.{◌≡◌, ◌&&◌, ◌||◌, List, IfSome, false, get_or, subst}
use Rattle.std.specs.Prelude.{Option, Some, None}
use Rattle.std.specs.List.{Contains}
use Rattle.cube.specs.Size.{Size}
use Rattle.cube.specs.Pattern.{matches}
use Rattle.cube.specs.Cube.{Cube, Place, SameSize, IsCube, holds}
use Rattle.sums.specs.Apart.{IsFree}
use Rattle.sums.specs.Free.{IsFreePart}
use Rattle.sums.proofs.SumFree.{IsFreePart-joined, stack_IsCube}
use Rattle.sums.proofs.constant_outputs.join_constant_rows.Goals as goal

-- the output consensus of a part without a literal and of a row that has none
stacked : (found : Option Cube) (size : Size) (cubes : List Cube) (old row : Cube) → IsFreePart size cubes old → IsCube size row → Contains cubes row → IsFree row
    → IfSome found (λ m. SameSize m old)
    → IfSome found (λ m. (p : Place) → holds m p ≡ ((matches old.symbols p.point && matches row.symbols p.point) && (get_or old.outputs p.output false || get_or row.outputs p.output false)))
    → IfSome found (λ m. IsFreePart size cubes m)
stacked None size cubes old row before cube member no_literal same is = tt
stacked (Some both) size cubes old row before cube member no_literal same is =
    IsFreePart-joined size cubes old row both before cube member no_literal (stack_IsCube size old row both before.is_cube cube no_literal same is) is

pub returns : goal.returns
returns c = λ size cubes cube first member no_literal.
    let old = c.in-Some.old in
    let row = c.args.row.now in
    let before : IsFreePart size cubes old = subst (λ o. IfSome o (λ x. IsFreePart size cubes x)) c.in-Some.is first in
    stacked c.in_ok-both.both size cubes old row before cube member no_literal c.in_ok-both.ensures.size c.in_ok-both.ensures.places
