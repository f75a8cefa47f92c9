use Rattle.minimum.proofs.RegionCandidates.{intersects_region-from_answer}
use Rattle.minimum.proofs.numbered_cubes.intersects_region.Goals as goal

pub returns : goal.returns
returns c = intersects_region-from_answer c.args.cubes.now c.args.region.now c.requires.size c.args.number c.requires.below c.index-cubes-number.result c.index-cubes-number.is c.disjoint.result c.disjoint.ensures
