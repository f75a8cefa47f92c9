use Rattle.std.proofs.Common.{rules, ◌∙◌, ◌+◌, ◌^◌, ◌<◌, ap, arith}
use Rattle.std.proofs.lemmas.List.{take_all}
use Rattle.covering.specs.Cover.{counted, sum_over}
use Rattle.covering.proofs.Sets.{sum_more}
use Rattle.covering.proofs.choice.total_cost.Goals as goal

pub loop-column-preserved : goal.loop-column-preserved
loop-column-preserved c =
    let one = sum_more (counted c.args.choice c.args.literals.now) c.args.columns.now c.loop-column.column-index c.loop-column-test.true in
    let cost = c.from-total.ensures ∙ c.cost.ensures in
    record { sum = (let before = c.loop-column.invariant.sum in omega arith); bound = (let before = c.loop-column.invariant.bound in omega arith) }

pub overflow_add-total : goal.overflow_add-total
overflow_add-total c =
    let before = c.loop-column.invariant.bound in
    let fits : c.loop-column.total + c.from-total.result < 2 ^ 128 = omega arith in
    search (rules, fits)

pub returns : goal.returns
returns c = c.loop-column.invariant.sum ∙ ap (sum_over (counted c.args.choice c.args.literals.now)) (take_all c.loop-column.column-index c.args.columns.now c.loop-column-test.false)
