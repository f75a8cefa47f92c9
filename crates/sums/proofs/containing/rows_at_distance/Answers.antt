use Rattle.std.proofs.Common.{◌+◌, sym, subst, take}
use Rattle.std.specs.List.{Contains}
use Rattle.std.proofs.lemmas.List.{take_all}
use Rattle.cube.specs.Cube.{Cube}
use Rattle.sums.proofs.OverRegion.{some-left, some-kept}
use Rattle.sums.proofs.containing.rows_at_distance.Goals as goal
use Rattle.sums.proofs.containing.rows_at_distance.Goals.{then-distance-count+in_ok-push_copy, else-distance-count}

pub loop-row-preserved : goal.loop-row-preserved
loop-row-preserved c =
    let rows = c.args.rows.now in
    let at = c.loop-row.row-index in
    let row = c.row-item.result in
    let kept = c.loop-row.kept.items in
    elim c.if-distance-count.branch [
      | then-distance-count+in_ok-push_copy w ↦
          subst (λ v. (d : Cube) → Contains v.items d → Contains (take (at + 1) rows) d) (sym w.kept-is)
          (some-kept rows at row c.loop-row-test.true c.row-item.is kept w.push_copy.new.rows.items
          w.in_ok-push_copy.ensures c.loop-row.invariant)
      | else-distance-count w ↦
          subst (λ v. (d : Cube) → Contains v.items d → Contains (take (at + 1) rows) d) (sym w.kept-is)
          (some-left rows at row c.loop-row-test.true c.row-item.is kept c.loop-row.invariant)
    ]

pub returns : goal.returns
returns c =
    subst (λ l. (d : Cube) → Contains c.loop-row.kept.items d → Contains l d) (take_all c.loop-row.row-index c.args.rows.now c.loop-row-test.false) c.loop-row.invariant
