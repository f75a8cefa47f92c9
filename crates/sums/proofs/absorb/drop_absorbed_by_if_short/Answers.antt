use Rattle.std.proofs.Common.{subst}
use Rattle.std.proofs.lemmas.Result.{IfOk-weaker}
use Rattle.rows.specs.Reduced.{IsWithoutAbsorbed}
use Rattle.sums.proofs.SumWithoutAbsorbed.{IsWithoutAbsorbed-all}
use Rattle.sums.proofs.absorb.drop_absorbed_by_if_short.Goals as goal

pub returns-then-not-has_absorbed_by : goal.returns-then-not-has_absorbed_by
returns-then-not-has_absorbed_by c = IsWithoutAbsorbed-all c.args.rows.items c.args.others.now

pub returns : goal.returns
returns c = IfOk-weaker c.drop_absorbed_by.result _ _ (λ kept h. subst (λ l. IsWithoutAbsorbed l c.args.others.now kept.items) c.deref-2.ensures.value h) c.drop_absorbed_by.ensures

pub returns-then-pairs-eq0 : goal.returns-then-pairs-eq0
returns-then-pairs-eq0 c = IsWithoutAbsorbed-all c.args.rows.items c.args.others.now
