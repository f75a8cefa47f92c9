use Rattle.regions.specs.Reason.{IsClosed}
use Rattle.rows.proofs.Found.{told_by_none}
use Rattle.regions.proofs.Reasons.{closed_leads}
use Rattle.regions.proofs.region.next_step.Goals as goal

pub returns-then-is_none : goal.returns-then-is_none
returns-then-is_none c =
    let row = c.index-near-k.result in
    let closed = told_by_none (IsClosed c.args.region.now row.now) c.first_open_input.result c.first_open_input.ensures.none c.if-is_none.ensures in
    closed_leads c.args.near.now c.args.region.now c.in-Row.k row c.if-k-near.true c.index-near-k.is closed

pub returns-in-None : goal.returns-in-None
returns-in-None c = closed_leads c.args.near.now c.args.region.now 0 c.index-near-0.result c.requires.some c.index-near-0.is c.in-None.ensures.none
