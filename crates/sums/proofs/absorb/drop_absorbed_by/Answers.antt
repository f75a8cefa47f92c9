use Rattle.std.proofs.Common.{◌+◌, sym, subst, take}
use Rattle.std.proofs.lemmas.List.{take_all}
use Rattle.rows.specs.Reduced.{IsWithoutAbsorbed}
use Rattle.sums.proofs.SumWithoutAbsorbed.{IsWithoutAbsorbed-kept, IsWithoutAbsorbed-left_out}
use Rattle.sums.proofs.absorb.drop_absorbed_by.Goals as goal
use Rattle.sums.proofs.absorb.drop_absorbed_by.Goals.{then-not-lies_in_some+in_ok-push_copy, else-not-lies_in_some}

pub loop-row-preserved : goal.loop-row-preserved
loop-row-preserved c =
    let rows = c.args.rows.now in
    elim c.if-not-lies_in_some.branch [
      | then-not-lies_in_some+in_ok-push_copy w ↦
          subst (λ v. IsWithoutAbsorbed (take (c.loop-row.row-index + 1) rows) c.args.others.now v.items) (sym w.kept-is)
          (IsWithoutAbsorbed-kept rows c.loop-row.row-index c.row-item.result c.args.others.now c.loop-row.kept.items c.loop-row-test.true c.row-item.is c.loop-row.invariant
          w.push_copy.new.rows.items w.in_ok-push_copy.ensures)
      | else-not-lies_in_some w ↦
          subst (λ v. IsWithoutAbsorbed (take (c.loop-row.row-index + 1) rows) c.args.others.now v.items) (sym w.kept-is)
          (IsWithoutAbsorbed-left_out rows c.loop-row.row-index c.row-item.result c.args.others.now c.loop-row.kept.items c.loop-row-test.true c.row-item.is c.loop-row.invariant
          (c.lies_in_some.ensures.absorbed w.if-not-lies_in_some.false))
    ]

pub returns : goal.returns
returns c = subst (λ l. IsWithoutAbsorbed l c.args.others.now c.loop-row.kept.items) (take_all c.loop-row.row-index c.args.rows.now c.loop-row-test.false) c.loop-row.invariant
