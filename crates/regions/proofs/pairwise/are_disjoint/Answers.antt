use Rattle.std.proofs.Common.{◌≡◌, ◌∙◌, ◌↔◌, ap, subst, IsTrue}
use Rattle.std.proofs.lemmas.Result.{IfOk-weaker}
use Rattle.cube.specs.Cube.{IsDisjoint}
use Rattle.rows.specs.Places.{places, behind}
use Rattle.rows.proofs.Lists.{HasSize-references_to}
use Rattle.regions.proofs.pairwise.are_disjoint.Goals as goal

pub are_related-requires-clause-rows : goal.are_related-requires-clause-rows
are_related-requires-clause-rows c =
    HasSize-references_to c.args.shape c.args.rows.now c.requires.rows c.deref.result.now (ap behind c.deref.ensures.value ∙ c.in_ok-mine.ensures)

pub are_related-requires-clause-others : goal.are_related-requires-clause-others
are_related-requires-clause-others c =
    HasSize-references_to c.args.shape c.args.mask.now c.requires.mask c.deref-2.result.now (ap behind c.deref-2.ensures.value ∙ c.in_ok-theirs.ensures)

pub returns : goal.returns
returns c =
    let mine : behind c.deref.result.now ≡ c.args.rows.now = ap behind c.deref.ensures.value ∙ c.in_ok-mine.ensures in
    let theirs : behind c.deref-2.result.now ≡ c.args.mask.now = ap behind c.deref-2.ensures.value ∙ c.in_ok-theirs.ensures in
    IfOk-weaker c.are_related.result _ _
    (λ apart h. subst (λ l. IsTrue apart ↔ IsDisjoint (places c.args.rows.now) (places l)) theirs
    (subst (λ l. IsTrue apart ↔ IsDisjoint (places l) (places (behind c.deref-2.result.now))) mine h))
    c.are_related.ensures
