use Rattle.covering.proofs.table.Table.with_taken.Goals as goal
use Rattle.std.proofs.Common.{◌∙◌, sym, ap, subst}
use Rattle.std.proofs.lemmas.Result.{IfOk-weaker}
use Rattle.covering.specs.Table.{Table, RisesFrom}
use Rattle.covering.specs.Choices.{union_of}

pub returns : goal.returns
returns c = IfOk-weaker c.union_of.result _ _ (λ v h. h ∙ ap (λ ts. union_of ts c.args.columns.now) (c.deref.ensures.value ∙ ap (λ (t : Table). t.taken) c.self.view_is)) c.union_of.ensures

pub union_of-requires : goal.union_of-requires
union_of-requires c = subst (RisesFrom 0) (sym c.deref.ensures.value) c.self.invariant.taken_rises
