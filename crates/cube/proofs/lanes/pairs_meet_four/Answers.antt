use Rattle.cube.proofs.LaneLemmas.{pairs_four-iff}
use Rattle.cube.proofs.lanes.pairs_meet_four.Goals as goal

pub returns : goal.returns
returns c = pairs_four-iff c.args.a.now c.args.b.now c.told-a c.told-b
