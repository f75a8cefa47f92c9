use Rattle.std.proofs.Common.{◌↔◌, ◌||◌, subst, IsTrue}
use Rattle.std.proofs.lemmas.Result.{IfOk-weaker}
use Rattle.cube.specs.Cube.{IsSubset}
use Rattle.rows.specs.Cubes.{AreCubes}
use Rattle.rows.specs.Places.{places}
use Rattle.rows.proofs.Agreement.{agree_outside-first, agree_outside-second}
use Rattle.cover.proofs.compare.agree_outside.Goals as goal

pub returns-then-not-branch : goal.returns-then-not-branch
returns-then-not-branch c =
    let cubes = c.args.list.now.cubes in
    let others = c.args.other.now.cubes in
    let dc = places c.args.dc.now.cubes in
    agree_outside-first c.args.list.now.size cubes others dc
    (subst (λ z. AreCubes z cubes) c.shape.ensures.size c.shape.ensures.cubes)
    (subst (λ b. IsTrue b ↔ IsSubset (places cubes) (λ p. dc p || places others p)) c.if-not-branch.true c.in_ok-is_within_either.ensures)

pub returns : goal.returns
returns c =
    let cubes = c.args.list.now.cubes in
    let others = c.args.other.now.cubes in
    let dc = places c.args.dc.now.cubes in
    IfOk-weaker c.is_within_either-2.result _ _
    (λ agree h. agree_outside-second c.args.list.now.size cubes others dc
    (subst (λ z. AreCubes z cubes) c.shape.ensures.size c.shape.ensures.cubes)
    (subst (λ z. AreCubes z others) c.requires.other (subst (λ z. AreCubes z others) c.shape-2.ensures.size c.shape-2.ensures.cubes))
    (subst (λ b. IsTrue b ↔ IsSubset (places cubes) (λ p. dc p || places others p)) c.if-not-branch.false c.in_ok-is_within_either.ensures) agree h)
    c.is_within_either-2.ensures
