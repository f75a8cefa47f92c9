use Rattle.growth.proofs.RowsAround.{same_implicants}
use Rattle.growth.proofs.columns.rows_around.rows_around.Goals as goal

pub returns-clause-same : goal.returns-clause-same
returns-clause-same c =
    let wide = c.in_ok-widened_rows.field-0 in
    let rows = c.in_ok-rows.rows in
    same_implicants c.args.off.now c.in_ok-around.around c.args.point.now wide.cubes rows.cubes c.in_ok-widened_rows.ensures.around c.in_ok-rows.ensures.cubes
    c.in_ok-around.ensures.members c.in_ok-around.ensures.over
