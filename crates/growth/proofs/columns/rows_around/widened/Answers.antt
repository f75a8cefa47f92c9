use Rattle.std.proofs.Common.{◌∙◌, sym, subst}
use Rattle.std.proofs.lemmas.Bool.{false≢true}
use Rattle.growth.specs.Dominating.{IsAgainst}
use Rattle.growth.proofs.RowsAround.{widened_by}
use Rattle.growth.proofs.columns.rows_around.widened.Goals as goal

pub returns-then-not-has_outputs_beyond : goal.returns-then-not-has_outputs_beyond
returns-then-not-has_outputs_beyond c size y row_is y_is all =
    let other = c.index-against-j.result in
    let own = subst (IsAgainst size y) (sym c.index-against-j.is) (all c.first_output-j.result other c.if-j-against.true) in
    widened_by size y c.args.row.now other c.in_ok-wide.wide row_is y_is own (λ h. false≢true (sym c.if-not-has_outputs_beyond.true ∙ c.has_outputs_beyond.ensures.1 h)) c.in_ok-wide.ensures.value
