use Rattle.std.proofs.Common.{All}
use Rattle.cube.specs.Cube.{HasSize, IsSubset}
use Rattle.rows.specs.Places.{places}
use Rattle.regions.proofs.region.learned.accept_refutation.Given as goal

abbrev pub invariant-loop-k : goal.invariant-loop-k
invariant-loop-k l = All (λ d. HasSize d l.shape) l.known.items × IsSubset (places l.known.items) (places l.initial.known.items)
