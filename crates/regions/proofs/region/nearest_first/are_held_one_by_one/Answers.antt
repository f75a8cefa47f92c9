use Rattle.std.proofs.Common.{◌∙◌, sym, subst, refl, true, false, All, arith}
use Rattle.std.specs.Borrow.{Bor}
use Rattle.std.proofs.lemmas.Bool.{false≢true}
use Rattle.std.proofs.lemmas.List.{take_all}
use Rattle.std.proofs.lemmas.List.Elements.{All-more}
use Rattle.cube.specs.Cube.{Cube, HasSize, IsSubset, holds, size_of}
use Rattle.rows.specs.Places.{places, behind}
use Rattle.regions.proofs.Halves.{known_at}
use Rattle.regions.proofs.LeftOut.{held_if_none}
use Rattle.rows.proofs.Agreement.{IsSubset-row, IsSubset-rows}
use Rattle.regions.proofs.region.nearest_first.are_held_one_by_one.Goals as goal

pub returns-then-is_some : goal.returns-then-is_some
returns-then-is_some c = (
  λ on. absurd (false≢true on),
  λ h. absurd (false≢true ((held_if_none (size_of c.row-item.result.now) (behind c.args.others.now) c.row-item.result.now
      c.in_ok-part_left_out_nearest_first.field-0 false (sym c.is_some.ensures ∙ c.if-is_some.true) c.in_ok-part_left_out_nearest_first.ensures.part).1
      (IsSubset-row (places (behind c.args.others.now)) c.args.rows.now c.loop-row.row-index c.row-item.result c.loop-row-test.true c.row-item.is h))),
)

pub loop-row-preserved : goal.loop-row-preserved
loop-row-preserved c =
    let P : Bor Cube → Type 0 = λ d. IsSubset (holds d.now) (places (behind c.args.others.now)) in
    let size = subst (λ d. HasSize d.now c.args.shape) (sym c.row-item.is) (c.requires.rows c.loop-row.row-index c.row-item.result c.loop-row-test.true) in (
      All-more P c.args.rows.now c.loop-row.row-index c.row-item.result c.loop-row-test.true c.loop-row.invariant.0
          (subst P c.row-item.is ((held_if_none (size_of c.row-item.result.now) (behind c.args.others.now) c.row-item.result.now
          c.in_ok-part_left_out_nearest_first.field-0 true (sym c.is_some.ensures ∙ c.if-is_some.false) c.in_ok-part_left_out_nearest_first.ensures.part).0 refl)),
      known_at (size_of c.row-item.result.now) c.args.shape c.part_left_out_nearest_first.new.learned.known.items (behind c.args.others.now)
          size.0 size.1 c.in_ok-part_left_out_nearest_first.ensures.known,
    )

pub returns : goal.returns
returns c =
    let P : Bor Cube → Type 0 = λ d. IsSubset (holds d.now) (places (behind c.args.others.now)) in (
      λ _. IsSubset-rows (places (behind c.args.others.now)) c.args.rows.now
          (subst (All P) (take_all c.loop-row.row-index c.args.rows.now (omega arith)) c.loop-row.invariant.0),
      λ _. refl,
    )
