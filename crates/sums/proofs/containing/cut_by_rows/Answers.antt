use Rattle.std.proofs.Common.{subst}
use Rattle.std.proofs.lemmas.List.{take_all}
use Rattle.rows.specs.Places.{places}
use Rattle.sums.specs.Containing.{Cuts}
use Rattle.sums.proofs.OverRegion.{Cuts-no_rows, Cuts-more}
use Rattle.sums.proofs.containing.cut_by_rows.Goals as goal

pub loop-row-init : goal.loop-row-init
loop-row-init c = record { are_cubes = c.requires.cubes; cuts = Cuts-no_rows c.args.shape c.args.region.now c.args.cubes.items }

pub loop-row-preserved : goal.loop-row-preserved
loop-row-preserved c = record {
  are_cubes = c.in_ok-left.ensures.cubes;
  cuts = Cuts-more c.args.shape c.args.region.now c.args.rows.now c.loop-row.row-index c.row-item.result c.args.cubes.items c.loop-row.left.items c.in_ok-left.left.items c.loop-row-test.true c.row-item.is
      c.loop-row.invariant.cuts c.in_ok-left.ensures.cuts;
}

pub returns-clause-cuts : goal.returns-clause-cuts
returns-clause-cuts c =
    subst (λ l. Cuts c.args.shape c.args.region.now (places l) c.args.cubes.items c.loop-row.left.items) (take_all c.loop-row.row-index c.args.rows.now c.loop-row-test.false) c.loop-row.invariant.cuts
