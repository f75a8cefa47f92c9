use Rattle.std.proofs.Common.{◌++◌, take}
use Rattle.cover.specs.Places.{places}
use Rattle.minimum.specs.Primes.{care_on}
use Rattle.minimum.specs.Neighbours.{AreFoundIn}
use Rattle.minimum.proofs.essential_by_neighbours.find_essential.Given as goal

abbrev pub invariant-loop-cube : goal.invariant-loop-cube
invariant-loop-cube l = AreFoundIn l.sets.size (places (l.sets.on ++ l.sets.dc)) (care_on l.sets) (places (take l.cube-index l.cube-items)) l.found
