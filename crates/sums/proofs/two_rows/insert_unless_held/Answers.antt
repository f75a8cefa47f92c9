use Rattle.std.proofs.Common.{◌∷◌, [], cond, ap, sym, ◌∙◌}
use Rattle.rows.specs.Parts.{merged}
use Rattle.rows.proofs.SumRows.{merged-nothing}
use Rattle.sums.proofs.two_rows.insert_unless_held.Goals as goal

pub returns-then-is_held : goal.returns-then-is_held
returns-then-is_held c =
    let rows = c.args.rows.items in
    sym (ap (λ b. merged rows (cond b [] (c.args.row.now ∷ []))) c.if-is_held.true ∙ merged-nothing rows)
