use Rattle.std.proofs.Common.{◌∙◌, ◌++◌, ap, arith}
use Rattle.std.proofs.lemmas.Result.{IfOk-weaker}
use Rattle.sums.proofs.SumThirds.{IsMeets-thirds}
use Rattle.sums.proofs.meets.+meets_by_thirds.Goals as goal

pub meets_by_thirds-returns : goal.meets_by_thirds-returns
meets_by_thirds-returns t c =
    let mine = c.in-Some.mine in
    let theirs = c.in-Some-cut_in_three.theirs in
    IfOk-weaker c.rows_of_both-3.result _ _ (λ rows h. IsMeets-thirds c.args.shape c.args.at (omega (arith, c.inputs.ensures.value)) c.args.rows.now mine.dashes.now mine.zeros.now mine.ones.now
    c.args.others.now theirs.dashes.now theirs.zeros.now theirs.ones.now (c.in-Some.ensures c.args.shape c.requires.rows) (c.in-Some-cut_in_three.ensures c.args.shape c.requires.others)
    c.in_ok-all.all.items c.in_ok-more.more.items c.in_ok-more-2.more.items c.in_ok-more-3.more.items rows.items
    c.in_ok-all.ensures c.in_ok-more.ensures c.in_ok-more-2.ensures c.in_ok-more-3.ensures
    (h ∙ ap (λ l. l ++ c.in_ok-more-3.more.items) (c.in_ok-all-3.ensures ∙ ap (λ l. l ++ c.in_ok-more-2.more.items) c.in_ok-all-2.ensures))) c.rows_of_both-3.ensures

pub meets_by_thirds-meets_with_both-requires : goal.meets_by_thirds-meets_with_both-requires
meets_by_thirds-meets_with_both-requires t c =
    let m = c.in-Some.ensures c.args.shape c.requires.rows in
    let o = c.in-Some-cut_in_three.ensures c.args.shape c.requires.others in
    (omega (arith, c.inputs.ensures.value, c.if-at-inputs.false), (m.dash_cubes, (o.dash_cubes, o.zero_cubes)))

pub meets_by_thirds-meets_by_thirds-requires : goal.meets_by_thirds-meets_by_thirds-requires
meets_by_thirds-meets_by_thirds-requires t c =
    let m = c.in-Some.ensures c.args.shape c.requires.rows in
    let o = c.in-Some-cut_in_three.ensures c.args.shape c.requires.others in
    (omega (arith, c.inputs.ensures.value, c.if-at-inputs.false), (m.dash_cubes, o.one_cubes))

pub meets_by_thirds-meets_with_both-requires-2 : goal.meets_by_thirds-meets_with_both-requires-2
meets_by_thirds-meets_with_both-requires-2 t c =
    let m = c.in-Some.ensures c.args.shape c.requires.rows in
    let o = c.in-Some-cut_in_three.ensures c.args.shape c.requires.others in
    (omega (arith, c.inputs.ensures.value, c.if-at-inputs.false), (m.zero_cubes, (o.dash_cubes, o.zero_cubes)))

pub meets_by_thirds-meets_with_both-requires-3 : goal.meets_by_thirds-meets_with_both-requires-3
meets_by_thirds-meets_with_both-requires-3 t c =
    let m = c.in-Some.ensures c.args.shape c.requires.rows in
    let o = c.in-Some-cut_in_three.ensures c.args.shape c.requires.others in
    (omega (arith, c.inputs.ensures.value, c.if-at-inputs.false), (m.one_cubes, (o.dash_cubes, o.one_cubes)))
