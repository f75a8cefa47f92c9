use Rattle.std.proofs.Common.{subst}
use Rattle.std.proofs.lemmas.List.{take_all}
use Rattle.std.proofs.lemmas.Option.{MatchOption-at_some}
use Rattle.rows.specs.Places.{places}
use Rattle.sums.specs.Outside.{IsRest}
use Rattle.sums.proofs.OffSets.{rows-more}
use Rattle.cover.proofs.outside_within_budget.subtract_row_by_row.Goals as goal

pub loop-row-preserved : goal.loop-row-preserved
loop-row-preserved c =
    let more = c.in-Some.more in
    rows-more c.args.shape c.args.rows.now c.args.others.now c.loop-row.row-index c.row-item.result c.loop-row.all.items more.items c.in_ok-all.all.items c.loop-row-test.true c.row-item.is c.in_ok-all.ensures
    c.loop-row.invariant (MatchOption-at_some _ _ more c.in-Some.is c.in_ok-more.ensures)

pub returns : goal.returns
returns c =
    subst (λ l. IsRest c.args.shape (places l) c.args.others.now c.loop-row.all.items) (take_all c.loop-row.row-index c.args.rows.now c.loop-row-test.false) c.loop-row.invariant
