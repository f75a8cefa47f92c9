use Rattle.std.proofs.Common.{◌∙◌, ◌++◌, ◌∷◌, [], ap, sym, take, append_assoc}
use Rattle.std.proofs.lemmas.List.{take_more, take_all}
use Rattle.rows.proofs.copies.with_copies.Goals as goal

pub loop-cube-preserved : goal.loop-cube-preserved
loop-cube-preserved c =
    let cubes = c.args.cubes.now in
    let at = c.loop-cube.cube-index in
    let one_more = ap (λ d. take at cubes ++ d ∷ []) (c.in_ok-try_clone.ensures.value ∙ c.cube-item.is) ∙ sym (take_more cubes at c.cube-item.result c.loop-cube-test.true) in
    c.in_ok-push.ensures.items ∙ ap (λ l. l ++ c.in_ok-try_clone.field-0 ∷ []) c.loop-cube.invariant
    ∙ append_assoc c.args.list.items (take at cubes) (c.in_ok-try_clone.field-0 ∷ [])
    ∙ ap (λ l. c.args.list.items ++ l) one_more

pub returns : goal.returns
returns c = c.loop-cube.invariant ∙ ap (λ l. c.args.list.items ++ l) (take_all c.loop-cube.cube-index c.args.cubes.now c.loop-cube-test.false)
