use Rattle.espresso.specs.Answer.{agree}
use Rattle.espresso.proofs.verify.verify.Goals as goal

pub returns : goal.returns
returns g c = c.judge.ensures (agree c.args.pla.now c.args.other.now) c.agree.ensures
