use Rattle.minimum.proofs.EssentialPrimes.{touches_from_answer}
use Rattle.minimum.proofs.essential_primes.intersects_cube.Goals as goal

pub returns : goal.returns
returns c = touches_from_answer c.args.prime.now c.args.cube.now c.disjoint.result c.requires c.disjoint.ensures
