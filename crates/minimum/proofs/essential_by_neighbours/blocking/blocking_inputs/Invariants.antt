use Rattle.std.proofs.Common.{◌≡◌, ◌≢◌, ℕ, ◌<◌, false, get_or}
use Rattle.cube.specs.declared.symbol.Symbol.TheVariants.{Dash}
use Rattle.growth.specs.declared.prime.Side.TheVariants.{Outside}
use Rattle.growth.specs.Growth.{on_side}
use Rattle.minimum.specs.Neighbours.{flip}
use Rattle.minimum.specs.Blocking.{AreBlocking}
use Rattle.minimum.proofs.essential_by_neighbours.blocking.blocking_inputs.Given as goal

abbrev pub invariant-loop-i : goal.invariant-loop-i
invariant-loop-i l = AreBlocking l.off.size l.prime l.lists.items (λ p. (k : ℕ) → k < l.i → get_or l.prime.symbols k Dash ≢ Dash → on_side Outside l.off.cubes (flip k p) ≡ false)
