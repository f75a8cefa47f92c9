use Rattle.cover.specs.Places.{holds_all, places}
use Rattle.espresso.proofs.answer.tautology.Goals as goal

pub returns : goal.returns
returns g c = c.judge.ensures (holds_all c.args.pla.now.size (places c.args.pla.now.on)) (rw c.on.ensures at c.tautology.ensures)
