use Rattle.std.proofs.Common.{[], sym, subst, arith}
use Rattle.std.proofs.lemmas.List.{take_all}
use Rattle.rows.specs.Reduced.{IsMeets}
use Rattle.rows.proofs.SumMeets.{other_sizes, IsMeets-more_rows, IsMeets-none}
use Rattle.rows.proofs.meets.meets_by_pairs.Goals as goal

pub push_meets-requires : goal.push_meets-requires
push_meets-requires c =
    other_sizes c.requires.size c.args.rows.now c.args.others.now c.loop-row.row-index c.row-item.result c.requires.are_cubes c.requires.are_others c.loop-row-test.true c.row-item.is

pub loop-row-preserved : goal.loop-row-preserved
loop-row-preserved c = λ size cubes others.
    IsMeets-more_rows size c.args.rows.now c.args.others.now c.loop-row.row-index c.row-item.result cubes others c.loop-row-test.true c.row-item.is
    c.loop-row.all.items c.push_meets.new.all.items (c.loop-row.invariant size cubes others) c.in_ok-push_meets.ensures

pub loop-row-init : goal.loop-row-init
loop-row-init c = λ size cubes others. subst (IsMeets size [] c.args.others.now) (sym c.new-all.ensures.items) (IsMeets-none size c.args.others.now)

pub returns : goal.returns
returns c = λ size cubes others.
    subst (λ l. IsMeets size l c.args.others.now c.loop-row.all.items) (take_all c.loop-row.row-index c.args.rows.now (omega arith)) (c.loop-row.invariant size cubes others)
