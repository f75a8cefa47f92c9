use Rattle.std.proofs.lemmas.Result.{IfOk-weaker}
use Rattle.covering.proofs.Keeps.{steps_keep}
use Rattle.covering.proofs.least_covers.least_cover_with_effort.Goals as goal

pub returns : goal.returns
returns c = IfOk-weaker c.least_renumbered.result _ _ (λ v h. ((steps_keep c.args.choice c.args.table.now c.in_ok-core.core c.in_ok-core.ensures.table c.in_ok-core.ensures.steps).1 v.items).1 h) c.least_renumbered.ensures
