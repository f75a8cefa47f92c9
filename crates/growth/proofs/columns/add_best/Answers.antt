use Rattle.growth.specs.Dominating.{IsBest}
use Rattle.growth.proofs.Dominating.{adds_one, last_member}
use Rattle.growth.proofs.columns.add_best.Goals as goal

pub returns-clause-adds : goal.returns-clause-adds
returns-clause-adds c =
    let off = c.args.off.now in
    let best : IsBest c.args.choice off c.args.cube.now c.in-Some.best = rw c.in-Some.is at c.in_ok-best.ensures in
    adds_one off c.args.found.now.primes.cubes c.add_copy.new.list.cubes c.in-Some.best c.in_ok-add_copy.ensures.cubes best.prime

pub returns-clause-member : goal.returns-clause-member
returns-clause-member c = last_member c.args.found.now.primes.cubes c.add_copy.new.list.cubes c.in-Some.best c.in_ok-add_copy.ensures.cubes
