use Rattle.std.proofs.Common.{◌≡◌, ◌∙◌, ◌∷◌, ◌++◌, [], map, take, sym, ap}
use Rattle.std.proofs.lemmas.List.{map-append, take_all}
use Rattle.covering.specs.Table.{items_of}
use Rattle.covering.specs.Parts.{pick}
use Rattle.covering.proofs.Rows.{take_items}
use Rattle.covering.proofs.renumber.numbers_of_rows.Goals as goal

pub loop-row-preserved : goal.loop-row-preserved
loop-row-preserved c =
    let back = map (pick c.args.live.now) in
    let i = c.loop-row.row-index in
    let row : back c.in-Some.numbers.items ≡ c.row-item.result.items = rw c.in-Some.is at c.in_ok-numbers.ensures ∙ c.deref.ensures.value in
    ap (λ vs. map back (items_of vs)) c.in_ok-push.ensures.items ∙ ap (map back) (map-append (λ v. v.items) c.loop-row.lists.items (c.in-Some.numbers ∷ []))
    ∙ map-append back (items_of c.loop-row.lists.items) (c.in-Some.numbers.items ∷ []) ∙ ap (λ ys. ys ++ back c.in-Some.numbers.items ∷ []) c.loop-row.invariant
    ∙ ap (λ x. items_of (take i c.args.rows.now) ++ x ∷ []) row ∙ sym (take_items c.args.rows.now i c.row-item.result c.loop-row-test.true c.row-item.is)

pub returns : goal.returns
returns c = c.loop-row.invariant ∙ ap items_of (take_all c.loop-row.row-index c.args.rows.now c.loop-row-test.false)
