use Rattle.std.proofs.Common.{◌∙◌, sym}
use Rattle.sums.proofs.Dividing.{literal_shown}
use Rattle.sums.proofs.independent_parts.first_row_has_literal.Goals as goal

pub returns-in-Some : goal.returns-in-Some
returns-in-Some c = λ h size cubes.
    literal_shown size c.args.rows.now c.in-Some.row.now c.next_literal.result cubes c.in-Some.ensures.value (sym c.is_some.ensures ∙ h) c.next_literal.ensures.found
