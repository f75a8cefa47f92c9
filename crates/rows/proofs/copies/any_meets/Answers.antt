use Rattle.std.proofs.Common.{All, ◌∙◌, sym, subst, refl, arith}
use Rattle.std.proofs.lemmas.Bool.{false≢true}
use Rattle.std.proofs.lemmas.List.{take_all}
use Rattle.std.proofs.lemmas.List.Elements.{All-more}
use Rattle.cube.specs.Cube.{Cube, IsDisjoint, holds}
use Rattle.rows.proofs.copies.any_meets.Goals as goal

pub returns-then-not-disjoint : goal.returns-then-not-disjoint
returns-then-not-disjoint c = (
  λ off. absurd (false≢true (sym off)),
  λ all.
      let P : Cube → Type 0 = λ d. IsDisjoint (holds d) (holds c.args.row.now) in
      absurd (false≢true (sym c.if-not-disjoint.true
      ∙ c.disjoint.ensures.1 (subst P (sym c.cube-item.is) (all c.loop-cube.cube-index _ c.loop-cube-test.true)))),
)

pub loop-cube-preserved : goal.loop-cube-preserved
loop-cube-preserved c =
    let P : Cube → Type 0 = λ d. IsDisjoint (holds d) (holds c.args.row.now) in
    All-more P c.args.cubes.now c.loop-cube.cube-index c.cube-item.result c.loop-cube-test.true c.loop-cube.invariant
    (subst P c.cube-item.is (c.disjoint.ensures.0 c.if-not-disjoint.false))

pub returns : goal.returns
returns c =
    let P : Cube → Type 0 = λ d. IsDisjoint (holds d) (holds c.args.row.now) in (
      λ _. subst (All P) (take_all c.loop-cube.cube-index c.args.cubes.now (omega arith)) c.loop-cube.invariant,
      λ _. refl,
    )
