use Rattle.std.proofs.Common.{sym, subst}
use Rattle.growth.specs.Dominating.{IsBestFreed}
use Rattle.growth.proofs.FirstPrimes.{first_freed}
use Rattle.growth.proofs.columns.best_cube.freed_cube.Goals as goal

pub returns-in-Some : goal.returns-in-Some
returns-in-Some c =
    let off = c.args.off.now in
    subst (λ z. IsBestFreed z off c.args.cube.now c.in-Some.first) (sym c.in-First.is)
    (first_freed off c.args.cube.now c.in-Some.first c.requires (rw c.in-Some.is at c.in_ok-first-in-First.ensures.settled) (rw c.in-Some.is at c.in_ok-first-in-First.ensures.first))
