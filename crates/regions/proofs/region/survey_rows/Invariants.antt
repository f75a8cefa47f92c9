use Rattle.std.proofs.Common.{◌≡◌, ◌≤◌, None, length, take}
use Rattle.cube.specs.Cube.{size_of}
use Rattle.rows.specs.Places.{meeting, behind}
use Rattle.regions.specs.Reason.{AreAmong}
use Rattle.regions.proofs.region.survey_rows.Given as goal

abbrev pub invariant-loop-row : goal.invariant-loop-row
invariant-loop-row l = record {
  none : l.survey.found ≡ None;
  kept : behind l.survey.meeting.items ≡ meeting (size_of l.region) l.region (behind (take l.row-index l.rows));
  among : AreAmong l.survey.nearest.items l.survey.meeting.items;
  some : 1 ≤ length l.survey.meeting.items → 1 ≤ length l.survey.nearest.items;
}
