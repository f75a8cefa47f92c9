use Rattle.std.proofs.Common.{◌+◌, ◌*◌}
use Rattle.regions.specs.Reason.{extent}
use Rattle.regions.proofs.region.Splits.+reason.Given as goal

abbrev pub decreases-reason : goal.decreases-reason
decreases-reason l = 5 * extent l.region.now + 4

abbrev pub decreases-reason_by_all_rows : goal.decreases-reason_by_all_rows
decreases-reason_by_all_rows l = 5 * extent l.region.now + 3

abbrev pub decreases-reason_by_step : goal.decreases-reason_by_step
decreases-reason_by_step l = 5 * extent l.region.now + 2

abbrev pub decreases-reason_by_split : goal.decreases-reason_by_split
decreases-reason_by_split l = 5 * extent l.region.now + 1

abbrev pub decreases-reason_by_outputs : goal.decreases-reason_by_outputs
decreases-reason_by_outputs l = 5 * extent l.region.now

abbrev pub decreases-reason_by_other_half : goal.decreases-reason_by_other_half
decreases-reason_by_other_half l = 5 * extent l.region.now
