use Rattle.minimum.proofs.RegionCandidates.{contains_region-from_answer}
use Rattle.minimum.proofs.numbered_cubes.contains_region.Goals as goal

pub returns : goal.returns
returns c = contains_region-from_answer c.args.cubes.now c.args.region.now c.requires.size c.args.number c.requires.below c.index-cubes-number.result c.index-cubes-number.is c.contains.result c.contains.ensures
