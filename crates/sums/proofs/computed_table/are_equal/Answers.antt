use Rattle.std.proofs.Common.{◌∙◌, ◌++◌, ◌∷◌, [], take, get_or, ap, sym, arith}
use Rattle.std.proofs.lemmas.List.{take_all, take_more}
use Rattle.sums.proofs.computed_table.are_equal.Goals as goal

pub loop-k-preserved : goal.loop-k-preserved
loop-k-preserved c =
    let rows = c.args.rows.now in
    let others = c.args.others.now in
    let k = c.loop-k.k in
    let own = c.index-rows-k.result in
    let other = c.index-others-k.result in
    take_more rows k own (omega arith) ∙ ap (λ d. take k rows ++ d ∷ []) (sym c.index-rows-k.is ∙ c.is_equal.ensures.0 c.if-not-is_equal.false ∙ c.index-others-k.is)
    ∙ ap (λ l. l ++ get_or others k other ∷ []) c.loop-k.invariant ∙ sym (take_more others k other (omega arith))

pub returns : goal.returns
returns c = λ _.
    sym (take_all c.loop-k.k c.args.rows.now (omega arith)) ∙ c.loop-k.invariant ∙ take_all c.loop-k.k c.args.others.now (omega arith)
