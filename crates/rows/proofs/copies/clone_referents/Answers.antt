use Rattle.std.proofs.Common.{◌∙◌, ◌++◌, ◌∷◌, [], ap, sym, take}
use Rattle.std.proofs.lemmas.List.{take_all}
use Rattle.rows.specs.Places.{behind}
use Rattle.rows.proofs.Lists.{behind-more}
use Rattle.rows.proofs.copies.clone_referents.Goals as goal

pub loop-row-preserved : goal.loop-row-preserved
loop-row-preserved c =
    let rows = c.args.rows.now in
    let at = c.loop-row.row-index in
    c.in_ok-push.ensures.items ∙ ap (λ l. l ++ c.in_ok-try_clone.field-0 ∷ []) c.loop-row.invariant
    ∙ ap (λ d. behind (take at rows) ++ d ∷ []) c.in_ok-try_clone.ensures.value ∙ sym (behind-more rows at c.row-item.result c.loop-row-test.true c.row-item.is)

pub returns : goal.returns
returns c = c.loop-row.invariant ∙ ap behind (take_all c.loop-row.row-index c.args.rows.now c.loop-row-test.false)
