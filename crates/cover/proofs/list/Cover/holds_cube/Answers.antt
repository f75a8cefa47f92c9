use Rattle.std.proofs.Common.{◌∙◌, is_none}
use Rattle.cube.specs.Cube.{holds}
use Rattle.cube.specs.Sum.{is_subset}
use Rattle.rows.specs.Places.{places}
use Rattle.rows.proofs.Everywhere.{same_test, is_subset-iff}
use Rattle.regions.proofs.LeftOut.{none_if_held, none_if_not_some}
use Rattle.cover.proofs.list.Cover.holds_cube.Goals as goal

pub returns : goal.returns
returns c =
    let size = c.args.self.now.size in
    let rows = c.args.self.now.cubes in
    let cube = c.args.cube.now in
    let found = c.in_ok-part_left_out.field-0 in
    none_if_not_some found c.is_none.result c.is_none.ensures
    ∙ same_test (is_none found) (is_subset size (holds cube) (places rows))
    (none_if_held size rows cube found c.in_ok-part_left_out.ensures.held c.in_ok-part_left_out.ensures.left_out)
    (is_subset-iff size cube (places rows) c.requires)
