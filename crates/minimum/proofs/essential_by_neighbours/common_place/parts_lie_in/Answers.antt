use Rattle.std.proofs.Common.{◌≡◌, ◌&&◌, ap₂, subst, true}
use Rattle.std.proofs.lemmas.List.{take_all}
use Rattle.cube.specs.Cube.{IsSubset, holds, intersection}
use Rattle.cover.specs.Places.{places}
use Rattle.minimum.proofs.CommonPlace.{first_rows_more}
use Rattle.minimum.proofs.essential_by_neighbours.common_place.parts_lie_in.Goals as goal

pub returns : goal.returns
returns c _ =
    subst (λ l. IsSubset (intersection (holds c.args.region.now) (places l)) (places c.args.nogoods.now))
    (take_all c.loop-row.row-index c.args.rows.now c.loop-row-test.false) c.loop-row.invariant

pub loop-row-preserved : goal.loop-row-preserved
loop-row-preserved c =
    first_rows_more c.args.region.now c.row-item.result c.args.rows.now c.loop-row.row-index (λ p. places c.args.nogoods.now p ≡ true) c.loop-row-test.true c.row-item.is c.loop-row.invariant
    (λ p in_region in_row. c.in_ok-part_lies_in_one_of.ensures c.if-not-branch.false p (ap₂ (λ a b. a && b) in_region in_row))
