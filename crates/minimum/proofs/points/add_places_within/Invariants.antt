use Rattle.minimum.specs.Points.{function_by, lists_of, IsFound}
use Rattle.minimum.proofs.points.add_places_within.Given as goal

abbrev pub invariant-loop-place : goal.invariant-loop-place
invariant-loop-place l = IsFound l.choice (function_by (lists_of l.on l.dc) l.source) l.found
