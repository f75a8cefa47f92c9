use Rattle.std.proofs.Common.{◌≡◌, ℕ, ◌<◌, false, get_or}
use Rattle.growth.specs.declared.prime.Side.TheVariants.{Outside}
use Rattle.growth.specs.Growth.{on_side}
use Rattle.minimum.specs.Neighbours.{under, IsAloneByInputs}
use Rattle.minimum.specs.Blocking.{AreBlocking}
use Rattle.minimum.proofs.essential_by_neighbours.blocking.blocking_lists.Given as goal

abbrev pub invariant-loop-j : goal.invariant-loop-j
invariant-loop-j l = AreBlocking l.off.size l.prime l.lists.items (λ p. IsAloneByInputs (on_side Outside l.off.cubes) l.prime p
    × ((k : ℕ) → k < l.j → get_or l.prime.outputs k false ≡ false → on_side Outside l.off.cubes (under k p) ≡ false))
