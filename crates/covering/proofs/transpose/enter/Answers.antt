use Rattle.std.proofs.Common.{subst}
use Rattle.std.proofs.lemmas.List.{take_all}
use Rattle.covering.specs.Table.{items_of}
use Rattle.covering.specs.Reduce.{Enters}
use Rattle.covering.proofs.TransposeSteps.{enters_none, enters_more}
use Rattle.covering.proofs.transpose.enter.Goals as goal

pub loop-column-init : goal.loop-column-init
loop-column-init c = enters_none (items_of c.args.columns.now.items) c.args.number

pub loop-column-preserved : goal.loop-column-preserved
loop-column-preserved c = enters_more (items_of c.args.columns.now.items) (items_of c.loop-column.columns.items) (items_of c.append.new.lists.items) c.args.row.now c.loop-column.column-index c.args.number c.requires c.loop-column-test.true c.loop-column.invariant c.in_ok-append.ensures

pub returns : goal.returns
returns c = subst (λ row. Enters (items_of c.args.columns.now.items) row c.args.number (items_of c.loop-column.columns.items)) (take_all c.loop-column.column-index c.args.row.now c.loop-column-test.false) c.loop-column.invariant
