use Rattle.std.proofs.Common.{◌≡◌, ◌∙◌, List, ap, sym, subst}
use Rattle.std.proofs.lemmas.Result.{IfOk-weaker}
use Rattle.cube.specs.Cube.{Cube, difference}
use Rattle.rows.specs.Cubes.{AreCubes}
use Rattle.rows.specs.Places.{places, behind}
use Rattle.regions.proofs.EqualRows.{difference-rest}
use Rattle.regions.proofs.MeetsWithin.{AreCubes-rest}
use Rattle.cover.proofs.outside_within_budget.clone_rows_not_among.Goals as goal

pub returns-clause-cubes : goal.returns-clause-cubes
returns-clause-cubes c =
    let list = c.args.list.now in
    let rest = c.in_ok-rest.rest.items in
    let rows : behind c.deref.result.now ≡ list.cubes = ap behind c.deref.ensures.value ∙ c.in_ok-rows.ensures.cubes in
    IfOk-weaker c.clone_referents.result _ _
    (λ v e.
    subst (AreCubes list.size) (sym (e ∙ ap behind c.deref-3.ensures.value))
    (AreCubes-rest list.size list.cubes c.deref.result.now rest c.deref-2.result.now rows c.in_ok-rest.ensures.some (subst (λ z. AreCubes z list.cubes) c.shape-shape.ensures.size c.shape-shape.ensures.cubes)))
    c.clone_referents.ensures

pub returns-clause-places : goal.returns-clause-places
returns-clause-places c =
    let list = c.args.list.now in
    let rest = c.in_ok-rest.rest.items in
    let rows : behind c.deref.result.now ≡ list.cubes = ap behind c.deref.ensures.value ∙ c.in_ok-rows.ensures.cubes in
    let others : behind c.deref-2.result.now ≡ c.args.other.now.cubes = ap behind c.deref-2.ensures.value ∙ c.in_ok-others.ensures.cubes in
    IfOk-weaker c.clone_referents.result _ _
    (λ v e p.
    let left : List Cube → List Cube → List Cube → Type 0 = λ some all far. difference (places some) (places far) p ≡ difference (places all) (places far) p in
    subst (λ far. left v.items list.cubes far) others
    (subst (λ all. left v.items all (behind c.deref-2.result.now)) rows
    (subst (λ some. left some (behind c.deref.result.now) (behind c.deref-2.result.now)) (sym (e ∙ ap behind c.deref-3.ensures.value))
    (difference-rest c.deref.result.now rest c.deref-2.result.now c.in_ok-rest.ensures.some c.in_ok-rest.ensures.all p))))
    c.clone_referents.ensures
