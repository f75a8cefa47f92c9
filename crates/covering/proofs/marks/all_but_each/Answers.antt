use Rattle.std.proofs.Common.{◌≡◌, ◌∙◌, Bool, true, false, cond, not, ◌||◌, eqb, take, slice_index_or, refl, sym, ap}
use Rattle.std.proofs.lemmas.List.{take_more, take_all}
use Rattle.covering.specs.Table.{has}
use Rattle.covering.proofs.TransposeSteps.{has_append}
use Rattle.covering.proofs.marks.all_but_each.Goals as goal

struck : (hit here : Bool) → cond hit false (not here) ≡ not (here || hit)
struck true true = refl
struck true false = refl
struck false true = refl
struck false false = refl

pub loop-column-preserved : goal.loop-column-preserved
loop-column-preserved c = λ n l.
    let columns = c.args.columns.now in
    let i = c.loop-column.column-index in
    let x = slice_index_or columns i 0 in
    c.unmark.ensures.at n ∙ ap (cond (eqb n x) false) (c.loop-column.invariant n l) ∙ struck (eqb n x) (has n (take i columns))
    ∙ ap not (sym (ap (has n) (take_more columns i 0 c.loop-column-test.true) ∙ has_append n (take i columns) x))

pub returns : goal.returns
returns c = λ n l. c.loop-column.invariant n l ∙ ap (λ xs. not (has n xs)) (take_all c.loop-column.column-index c.args.columns.now c.loop-column-test.false)
