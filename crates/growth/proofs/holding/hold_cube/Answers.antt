use Rattle.std.proofs.Common.{inl, inr, refl, sym}
use Rattle.std.proofs.lemmas.Bool.{cases_Bool}
use Rattle.cube.specs.Cube.{holds, size_of}
use Rattle.cube.specs.Sum.{is_subset}
use Rattle.rows.specs.Places.{places, behind}
use Rattle.rows.proofs.Everywhere.{same_test, is_subset-iff}
use Rattle.regions.proofs.LeftOut.{held_if_none}
use Rattle.growth.proofs.holding.hold_cube.Goals as goal

pub returns-then-branch : goal.returns-then-branch
returns-then-branch c =
    let cube = c.args.cube.now in
    let rows = places (behind c.args.rows.now) in
    elim (cases_Bool (is_subset (size_of cube) (holds cube) rows)) [
      | inr off ↦ sym off
      | inl on ↦ absurd (c.in_ok-are_seen_to_leave_out.ensures c.if-branch.true ((is_subset-iff (size_of cube) cube rows (refl, refl)).0 on))
    ]

pub returns : goal.returns
returns c =
    let cube = c.args.cube.now in
    let rows = behind c.args.rows.now in
    same_test c.is_none.result (is_subset (size_of cube) (holds cube) (places rows))
    (held_if_none (size_of cube) rows cube c.in_ok-part_left_out.field-0 c.is_none.result c.is_none.ensures c.in_ok-part_left_out.ensures)
    (is_subset-iff (size_of cube) cube (places rows) (refl, refl))
