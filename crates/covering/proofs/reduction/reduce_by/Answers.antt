use Rattle.std.proofs.Common.{sym, subst}
use Rattle.covering.specs.Table.{IsTable}
use Rattle.covering.specs.Steps.{SameLeast, done}
use Rattle.covering.proofs.Keeps.{steps_keep}
use Rattle.covering.proofs.Reduced.{steps_join}
use Rattle.covering.proofs.reduction.reduce_by.Goals as goal

pub loop-table-init : goal.loop-table-init
loop-table-init c = done c.args.table

pub loop-table-preserved : goal.loop-table-preserved
loop-table-preserved c =
    let next = rw c.if-not-branch.false at c.in_ok-reduce_once.ensures in
    steps_join c.args.choice c.args.table c.loop-table.table c.reduce_once.new.self c.loop-table.invariant next.steps

pub returns-then-not-branch-clause-least : goal.returns-then-not-branch-clause-least
returns-then-not-branch-clause-least c =
    let same = rw c.if-not-branch.true at c.in_ok-reduce_once.ensures in
    subst (SameLeast c.args.choice c.args.table) (sym same.0) (steps_keep c.args.choice c.args.table c.loop-table.table (subst IsTable c.table.view_is c.table.invariant) c.loop-table.invariant).1
