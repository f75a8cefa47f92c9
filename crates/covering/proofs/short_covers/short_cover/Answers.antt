use Rattle.std.proofs.Common.{arith, length, subst}
use Rattle.std.specs.Prelude.{Some}
use Rattle.std.proofs.lemmas.Result.{IfOk-weaker}
use Rattle.covering.specs.declared.choice.Choice.TheVariants.{First}
use Rattle.covering.specs.Cover.{counted, sum_over}
use Rattle.covering.specs.Search.{IsWeaklyReduced}
use Rattle.covering.proofs.short_covers.short_cover.Goals as goal

pub returns : goal.returns
returns c =
    let core = c.in_ok-core.core in
    let reduced = subst (λ t. IsWeaklyReduced First t core) c.in_ok-copy.ensures.copy c.in_ok-core.ensures in
    IfOk-weaker c.short_cover.result _ _
    (λ v h. (reduced.leads (length v.items) (sum_over (counted First core.weights) v.items) (Some v.items) (record { cover = h; fits = omega arith; counts = omega arith })).cover)
    c.short_cover.ensures
