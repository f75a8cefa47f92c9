use Rattle.minimum.specs.Points.{function_by, lists_of, IsFound}
use Rattle.minimum.proofs.points.rounds.exact_by_points.Given as goal

abbrev pub ghost-cover_of_points : goal.ghost-cover_of_points
ghost-cover_of_points g a = g.sets

abbrev pub invariant-loop : goal.invariant-loop
invariant-loop g l = IsFound l.choice (function_by (lists_of l.on l.dc) l.source) l.found
