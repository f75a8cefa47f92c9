use Rattle.std.proofs.Common.{◌∙◌, sym, subst, refl, All, arith}
use Rattle.std.specs.Borrow.{Bor}
use Rattle.std.proofs.lemmas.Bool.{false≢true}
use Rattle.std.proofs.lemmas.List.{take_all}
use Rattle.std.proofs.lemmas.List.Elements.{All-more}
use Rattle.cube.specs.Cube.{Cube, IsDisjoint, holds}
use Rattle.rows.specs.Places.{places, behind}
use Rattle.rows.proofs.Agreement.{IsDisjoint-row, IsDisjoint-rows}
use Rattle.regions.proofs.pairwise.are_disjoint_by_pairs.Goals as goal

pub returns-then-not-is_disjoint_from_all : goal.returns-then-not-is_disjoint_from_all
returns-then-not-is_disjoint_from_all c = (
  λ on. absurd (false≢true on),
  λ h. absurd (false≢true (sym c.if-not-is_disjoint_from_all.true ∙ c.is_disjoint_from_all.ensures.1
      (IsDisjoint-row (places (behind c.args.others.now)) c.args.rows.now c.loop-row.row-index c.row-item.result c.loop-row-test.true c.row-item.is h))),
)

pub loop-row-preserved : goal.loop-row-preserved
loop-row-preserved c =
    let P : Bor Cube → Type 0 = λ d. IsDisjoint (holds d.now) (places (behind c.args.others.now)) in
    All-more P c.args.rows.now c.loop-row.row-index c.row-item.result c.loop-row-test.true c.loop-row.invariant
    (subst P c.row-item.is (c.is_disjoint_from_all.ensures.0 c.if-not-is_disjoint_from_all.false))

pub returns : goal.returns
returns c =
    let P : Bor Cube → Type 0 = λ d. IsDisjoint (holds d.now) (places (behind c.args.others.now)) in (
      λ _. IsDisjoint-rows (places (behind c.args.others.now)) c.args.rows.now
          (subst (All P) (take_all c.loop-row.row-index c.args.rows.now (omega arith)) c.loop-row.invariant),
      λ _. refl,
    )
