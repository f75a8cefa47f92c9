use Rattle.std.proofs.Common.{◌≡◌, ◌∙◌, Some, slice_get, sym}
use Rattle.std.proofs.lemmas.Bool.{false≢true, not-true}
use Rattle.growth.proofs.FirstPrimes.{member_at, within_apart}
use Rattle.growth.proofs.columns.open_points.meets_row.Goals as goal

pub returns : goal.returns
returns c e within =
    let off = c.args.off.now in
    let row = c.in-Some.row.now in
    let at : slice_get off.cubes c.args.r ≡ Some row = sym c.in-Some.ensures.value in
    false≢true (sym (not-true c.disjoint.result e) ∙ c.disjoint.ensures.1 (within_apart off row c.args.cube.now (member_at off.cubes c.args.r row at) within))
