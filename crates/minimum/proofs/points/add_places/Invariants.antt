use Rattle.minimum.specs.Points.{function_by, lists_of, IsFound}
use Rattle.minimum.proofs.points.add_places.Given as goal

abbrev pub invariant-loop-most : goal.invariant-loop-most
invariant-loop-most l = IsFound l.choice (function_by (lists_of l.on l.dc) l.source) l.found
