use Rattle.std.proofs.Common.{◌≡◌, ◌∙◌, ◌<◌, ℕ, not, sym, subst, arith}
use Rattle.std.proofs.lemmas.Result.{IfOk-weaker}
use Rattle.covering.specs.Table.{has}
use Rattle.covering.specs.Search.{marked}
use Rattle.covering.proofs.Unions.{union_marked}
use Rattle.covering.proofs.columns.union_of.Goals as goal

pub returns : goal.returns
returns c =
    let taken = c.args.taken.now in
    let choice = c.args.choice.now in
    let end = c.max-end.result in
    IfOk-weaker c.with_unmarked.result _ _
    (λ v same. same ∙ union_marked taken choice c.deref.result.now end c.requires
    (λ n h. let b = c.in-Some.ensures n h in let m = c.max-end.ensures in omega arith) (λ n h. let b = c.in-Some-end_of.ensures n h in let m = c.max-end.ensures in omega arith)
    (subst (λ keep. (n : ℕ) → n < end → marked keep n ≡ not (has n choice)) (sym c.deref.ensures.value) c.in_ok-keep.ensures))
    c.with_unmarked.ensures
