use Rattle.std.proofs.Common.{None, length, ap, arith}
use Rattle.covering.proofs.Reduced.{pruned_join, pruned_weakly_reduced, weakly_reduced_pruned}
use Rattle.covering.proofs.table.Table.prune.Goals as goal

pub loop-next-init : goal.loop-next-init
loop-next-init c =
    let bounded = rw c.in-Some.is at c.in_ok-bounded.ensures in
    let reduced = weakly_reduced_pruned c.args.choice c.args.cutoff.columns c.args.cutoff.cost c.in-Some.bounded c.in_ok-table.table c.in_ok-table.ensures in
    pruned_join c.args.choice c.args.cutoff.columns c.args.cutoff.cost c.args.self c.in-Some.bounded c.in_ok-table.table bounded reduced

pub loop-next-preserved : goal.loop-next-preserved
loop-next-preserved c =
    let bounded = rw c.in-Some-2.is at c.in_ok-next.ensures in
    pruned_weakly_reduced c.args.choice c.args.cutoff.columns c.args.cutoff.cost c.args.self c.loop-next.table c.in-Some-2.next c.in_ok-table-2.table c.loop-next.invariant bounded c.in_ok-table-2.ensures

pub returns-then-not-is_worth_a_bound : goal.returns-then-not-is_worth_a_bound
returns-then-not-is_worth_a_bound c =
    let bounded = rw c.in-Some-2.is at c.in_ok-next.ensures in
    pruned_weakly_reduced c.args.choice c.args.cutoff.columns c.args.cutoff.cost c.args.self c.loop-next.table c.in-Some-2.next c.in_ok-table-2.table c.loop-next.invariant bounded c.in_ok-table-2.ensures

pub loop-next-smaller : goal.loop-next-smaller
loop-next-smaller c =
    let falls = c.in_ok-table-2.ensures.live in
    let before = ap length c.live_columns-live.ensures.value in
    let after = ap length c.live_columns.ensures.value in
    omega (arith, c.if-live-live_columns.false)

pub returns-in_default-2 : goal.returns-in_default-2
returns-in_default-2 c =
    let none = rw c.in_default-2.is at c.in_ok-next.ensures in
    c.loop-next.invariant.leads None none

pub returns-then-live-live_columns : goal.returns-then-live-live_columns
returns-then-live-live_columns c =
    let bounded = rw c.in-Some-2.is at c.in_ok-next.ensures in
    pruned_join c.args.choice c.args.cutoff.columns c.args.cutoff.cost c.args.self c.loop-next.table c.in-Some-2.next c.loop-next.invariant bounded
