use Rattle.std.proofs.Common.{◌∙◌, refl, subst, sym}
use Rattle.std.proofs.lemmas.Result.{IfOk-weaker}
use Rattle.minimum.specs.Blocking.{IsWidening}
use Rattle.minimum.proofs.essential_by_neighbours.common_place.widen.Goals as goal

pub contains-requires : goal.contains-requires
contains-requires c = c.in_ok-wide.ensures

pub parts_lie_in-requires-clause-rows : goal.parts_lie_in-requires-clause-rows
parts_lie_in-requires-clause-rows c k d lt =
    let own = c.requires.rows k d lt in
    let same = c.in_ok-wide.ensures in
    (own.0 ∙ sym same.0, own.1 ∙ sym same.1)

pub parts_lie_in-requires-clause-nogoods : goal.parts_lie_in-requires-clause-nogoods
parts_lie_in-requires-clause-nogoods c k d lt =
    let own = c.requires.nogoods k d lt in
    let same = c.in_ok-wide.ensures in
    (own.0 ∙ sym same.0, own.1 ∙ sym same.1)

pub returns-then-branch : goal.returns-then-branch
returns-then-branch c = record { size = c.in_ok-wide.ensures; around = c.contains.ensures.0 c.if-contains.true; parts = c.in_ok-parts_lie_in.ensures c.if-branch.true }

pub returns : goal.returns
returns c =
    let region = c.args.region.now in
    let rows = c.args.rows.now in
    let nogoods = c.args.nogoods.now in
    let same : IsWidening rows nogoods region region = record { size = (refl, refl); around = λ p h. h; parts = c.requires.parts } in
    IfOk-weaker c.try_clone.result _ _ (λ d e. subst (IsWidening rows nogoods region) (sym e) same) c.try_clone.ensures.value
