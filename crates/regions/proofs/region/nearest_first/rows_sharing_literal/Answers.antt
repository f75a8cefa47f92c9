use Rattle.std.proofs.Common.{sym, subst}
use Rattle.regions.specs.Reason.{AreAmong}
use Rattle.rows.proofs.Lists.{behind_member}
use Rattle.regions.proofs.Reasons.{among_added}
use Rattle.regions.proofs.region.nearest_first.rows_sharing_literal.Goals as goal
use Rattle.regions.proofs.region.nearest_first.rows_sharing_literal.Goals.{then-shares_literal+in_ok-push, else-shares_literal}

pub loop-row-preserved : goal.loop-row-preserved
loop-row-preserved c =
    elim c.if-shares_literal.branch [
      | then-shares_literal+in_ok-push w ↦
          subst (λ v. AreAmong v.items c.args.rows.now) (sym w.some-is)
          (subst (λ l. AreAmong l c.args.rows.now) (sym w.in_ok-push.ensures.items)
          (among_added c.loop-row.some.items c.args.rows.now c.row-item.result c.loop-row.invariant
          (behind_member c.args.rows.now c.loop-row.row-index c.row-item.result c.loop-row-test.true c.row-item.is)))
      | else-shares_literal w ↦ subst (λ v. AreAmong v.items c.args.rows.now) (sym w.some-is) c.loop-row.invariant
    ]
