use Rattle.std.proofs.Common.{◌∙◌, ◌++◌, ◌∷◌, [], ap, sym, map, take, is_none}
use Rattle.std.proofs.lemmas.List.{map_more, take_all}
use Rattle.regions.proofs.LeftOut.{none_if_not_some}
use Rattle.cover.proofs.tautology.are_none.Goals as goal

pub loop-part-preserved : goal.loop-part-preserved
loop-part-preserved c =
    let parts = c.args.parts.now in
    let at = c.loop-part.part-index in
    let part = c.part-item.result in
    let own = none_if_not_some part c.is_none.result c.is_none.ensures in
    c.in_ok-push.ensures.items ∙ ap (λ l. l ++ c.is_none.result ∷ []) c.loop-part.invariant
    ∙ ap (λ b. map is_none (take at parts) ++ b ∷ []) (own ∙ ap is_none c.part-item.is) ∙ sym (map_more is_none parts at part c.loop-part-test.true)

pub returns : goal.returns
returns c = c.loop-part.invariant ∙ ap (map is_none) (take_all c.loop-part.part-index c.args.parts.now c.loop-part-test.false)
