use Rattle.std.proofs.Common.{arith}
use Rattle.growth.proofs.FewestLiterals.{late_by_number, late_by_order}
use Rattle.growth.proofs.columns.fewest_literals.is_late.Goals as goal

pub returns-then-literals : goal.returns-then-literals
returns-then-literals c e =
    late_by_order c.args.wide.now c.args.best.now (omega (arith, c.if-literals.true, c.literals.ensures.value, c.literals-2.ensures.value)) (c.comes_no_earlier.ensures e)

pub returns-then-literals-2 : goal.returns-then-literals-2
returns-then-literals-2 c _ = late_by_number c.args.wide.now c.args.best.now (omega (arith, c.if-literals-2.true, c.literals-3.ensures.value, c.literals-4.ensures.value))
