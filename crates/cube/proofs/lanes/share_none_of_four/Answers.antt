use Rattle.cube.proofs.LaneLemmas.{common_four-iff}
use Rattle.cube.proofs.lanes.share_none_of_four.Goals as goal

pub returns : goal.returns
returns c = common_four-iff c.args.a.now c.args.b.now c.told-a c.told-b
