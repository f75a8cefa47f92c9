use Rattle.std.proofs.Common.{◌∙◌, ap, arith}
use Rattle.std.proofs.lemmas.Result.{IfOk-weaker}
use Rattle.covering.specs.Search.{marked}
use Rattle.covering.proofs.Branches.{all_marked_at}
use Rattle.covering.proofs.table.Table.all_columns_marked.Goals as goal

pub returns : goal.returns
returns c = IfOk-weaker c.all_marked.result _ _ (λ v h d l. let below = c.columns.ensures.table.within d l in
    ap (λ xs. marked xs d) h ∙ all_marked_at _ d (let same = c.columns.ensures.count in omega arith)) c.all_marked.ensures
