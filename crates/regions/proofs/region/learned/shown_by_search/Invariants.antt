use Rattle.rows.specs.Places.{places, behind}
use Rattle.regions.specs.Reason.{AreLearned}
use Rattle.regions.proofs.Halves.{AreHeldBefore}
use Rattle.regions.proofs.region.learned.shown_by_search.Given as goal

abbrev pub invariant-loop-output : goal.invariant-loop-output
invariant-loop-output l = AreLearned l.region l.rows l.learned.known.items
    × AreHeldBefore l.region (places (behind l.rows)) l.output
