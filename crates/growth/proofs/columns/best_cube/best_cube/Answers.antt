use Rattle.std.proofs.Common.{◌≡◌, subst}
use Rattle.cube.specs.Cube.{IsDisjoint, holds}
use Rattle.cover.specs.Places.{places}
use Rattle.growth.specs.declared.prime.Side.TheVariants.{Outside}
use Rattle.growth.specs.Growth.{on_side, IsSettledUpTo}
use Rattle.growth.specs.Dominating.{IsBestFreed}
use Rattle.growth.proofs.FirstPrimes.{best_of_freed}
use Rattle.growth.proofs.Joins.{avoids}
use Rattle.growth.proofs.columns.best_cube.best_cube.Goals as goal

pub returns : goal.returns
returns c =
    let off = c.args.off.now in
    let grown = c.in-Some-2.grown in
    let freed : IsBestFreed c.args.choice off c.args.cube.now c.in-Some.freed = rw c.in-Some.is at c.in_ok-freed.ensures in
    let outputs : IsSettledUpTo off.size (on_side Outside off.cubes) c.in-Some.freed grown 0 off.size.outputs = rw c.in-Some-2.is at c.in_ok-grown.ensures.settled in
    let symbols : grown.symbols ≡ c.in-Some.freed.symbols = rw c.in-Some-2.is at c.in_ok-grown.ensures.symbols in
    best_of_freed c.args.choice off c.args.cube.now c.in-Some.freed grown freed outputs symbols
    (avoids off grown (subst (λ l. IsDisjoint (holds grown) (places l)) c.as_slice.ensures.value (c.are_apart.ensures.0 c.if-not-are_apart.false)))
