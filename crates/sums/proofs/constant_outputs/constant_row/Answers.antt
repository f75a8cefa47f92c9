use Rattle.std.proofs.Common.{◌∙◌, sym}
use Rattle.std.proofs.lemmas.Option.{IfSome_then}
use Rattle.cube.specs.Cube.{IsCube}
use Rattle.rows.proofs.Lists.{all_members}
use Rattle.sums.proofs.constant_outputs.constant_row.Goals as goal

pub join_constant_rows-requires : goal.join_constant_rows-requires
join_constant_rows-requires c =
    let size = c.requires.size in
    let row = c.row-item.result in
    let cube = all_members (IsCube size) c.args.rows.now c.requires.are_cubes row (c.loop-row.row-index, c.loop-row-test.true, sym c.row-item.is) in
    IfSome_then c.loop-row.constant (c.loop-row.invariant size c.requires.are_cubes)
    (λ d h. (h.is_cube.has_size.0 ∙ sym cube.has_size.0, h.is_cube.has_size.1 ∙ sym cube.has_size.1))
