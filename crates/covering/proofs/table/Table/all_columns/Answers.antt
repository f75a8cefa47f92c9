use Rattle.std.proofs.Common.{◌∙◌, sym, ap, subst}
use Rattle.std.proofs.lemmas.Result.{IfOk-weaker}
use Rattle.covering.specs.Choices.{union_of}
use Rattle.covering.specs.Cover.{IsCover}
use Rattle.covering.proofs.Subsets.{all_cover}
use Rattle.covering.proofs.table.Table.all_columns.Goals as goal

pub returns : goal.returns
returns c =
    let t = c.args.self.now in
    IfOk-weaker c.union_of.result _ _ (λ v h. subst (IsCover t) (sym (h ∙ ap (λ ts. union_of ts c.live_columns.result.now) c.taken_columns.ensures.value ∙ ap (union_of t.taken) c.live_columns.ensures.value)) (all_cover t c.taken_columns.ensures.table)) c.union_of.ensures
