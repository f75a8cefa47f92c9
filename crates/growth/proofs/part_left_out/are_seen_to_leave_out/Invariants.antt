use Rattle.std.proofs.Common.{All}
use Rattle.cube.specs.Cube.{SameSize}
use Rattle.growth.proofs.part_left_out.are_seen_to_leave_out.Given as goal

abbrev pub invariant-loop : goal.invariant-loop
invariant-loop l = All (λ d. SameSize d.now l.region) l.late.items
