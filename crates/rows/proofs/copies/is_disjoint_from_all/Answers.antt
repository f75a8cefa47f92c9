use Rattle.std.proofs.Common.{◌∙◌, sym, subst, refl, All, arith}
use Rattle.std.specs.Borrow.{Bor}
use Rattle.std.proofs.lemmas.Bool.{false≢true}
use Rattle.std.proofs.lemmas.List.{take_all}
use Rattle.std.proofs.lemmas.List.Elements.{All-more}
use Rattle.cube.specs.Cube.{Cube, IsDisjoint, holds}
use Rattle.rows.proofs.Agreement.{IsDisjoint-member, IsDisjoint-list}
use Rattle.rows.proofs.copies.is_disjoint_from_all.Goals as goal

pub returns-then-not-disjoint : goal.returns-then-not-disjoint
returns-then-not-disjoint c = (
  λ on. absurd (false≢true on),
  λ h. absurd (false≢true (sym c.if-not-disjoint.true ∙ c.disjoint.ensures.1
      (IsDisjoint-member (holds c.args.row.now) c.args.others.now c.loop-other.other-index c.other-item.result c.loop-other-test.true c.other-item.is h))),
)

pub loop-other-preserved : goal.loop-other-preserved
loop-other-preserved c =
    let P : Bor Cube → Type 0 = λ d. IsDisjoint (holds c.args.row.now) (holds d.now) in
    All-more P c.args.others.now c.loop-other.other-index c.other-item.result c.loop-other-test.true c.loop-other.invariant
    (subst P c.other-item.is (c.disjoint.ensures.0 c.if-not-disjoint.false))

pub returns : goal.returns
returns c =
    let P : Bor Cube → Type 0 = λ d. IsDisjoint (holds c.args.row.now) (holds d.now) in (
      λ _. IsDisjoint-list (holds c.args.row.now) c.args.others.now
          (subst (All P) (take_all c.loop-other.other-index c.args.others.now (omega arith)) c.loop-other.invariant),
      λ _. refl,
    )
