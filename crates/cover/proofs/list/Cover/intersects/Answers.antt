use Rattle.std.proofs.Common.{◌≡◌, ◌∙◌, ◌↔◌, ap, subst, IsTrue}
use Rattle.cube.specs.Cube.{IsDisjoint}
use Rattle.rows.specs.Cubes.{AreCubes}
use Rattle.rows.specs.Places.{places, behind}
use Rattle.rows.proofs.Agreement.{share_place-from_answer}
use Rattle.cover.proofs.list.Cover.intersects.Goals as goal

pub returns : goal.returns
returns c =
    let size = c.args.self.now.size in
    let cubes = c.args.self.now.cubes in
    let others = c.args.other.now.cubes in
    let rows : behind c.deref.result.now ≡ cubes = ap behind c.deref.ensures.value ∙ c.in_ok-rows.ensures.cubes in
    let rest : behind c.deref-2.result.now ≡ others = ap behind c.deref-2.ensures.value ∙ c.in_ok-others.ensures.cubes in
    share_place-from_answer size cubes others (subst (λ z. AreCubes z cubes) c.shape-shape.ensures.size c.shape-shape.ensures.cubes) c.in_ok-apart.apart
    (subst (λ l. IsTrue c.in_ok-apart.apart ↔ IsDisjoint (places cubes) (places l)) rest
    (subst (λ l. IsTrue c.in_ok-apart.apart ↔ IsDisjoint (places l) (places (behind c.deref-2.result.now))) rows c.in_ok-apart.ensures))
