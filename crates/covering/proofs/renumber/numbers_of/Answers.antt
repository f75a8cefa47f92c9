use Rattle.std.proofs.Common.{◌∙◌, ◌∷◌, ◌++◌, [], map, take, sym, ap}
use Rattle.std.proofs.lemmas.List.{map-append, take_more, take_all}
use Rattle.covering.specs.Parts.{pick}
use Rattle.covering.proofs.renumber.numbers_of.Goals as goal

pub loop-column-preserved : goal.loop-column-preserved
loop-column-preserved c =
    let live = c.args.live.now in
    let i = c.loop-column.column-index in
    ap (map (pick live)) c.in_ok-push.ensures.items ∙ map-append (pick live) c.loop-column.numbers.items (c.in-Some.number ∷ []) ∙ ap (λ ys. ys ++ pick live c.in-Some.number ∷ []) c.loop-column.invariant
    ∙ ap (λ x. take i c.args.row.now ++ x ∷ []) c.in-Some.ensures ∙ sym (take_more c.args.row.now i 0 c.loop-column-test.true)

pub returns : goal.returns
returns c = c.loop-column.invariant ∙ take_all c.loop-column.column-index c.args.row.now c.loop-column-test.false
