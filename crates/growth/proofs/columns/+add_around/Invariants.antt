use Rattle.std.proofs.Common.{◌≡◌, ◌≤◌, length, take}
use Rattle.growth.specs.Dominating.{AddsColumns, IsOpen}
use Rattle.growth.proofs.Dominating.{AreSettled}
use Rattle.growth.proofs.columns.+add_around.Given as goal

abbrev pub decreases-add_around : goal.decreases-add_around
decreases-add_around l = l.found.now.left

abbrev pub invariant-loop-at : goal.invariant-loop-at
invariant-loop-at l = record {
  from : length l.excluded ≤ l.at;
  settled : AreSettled l.choice l.points (IsOpen l.off l.points l.excluded l.cube) (take l.at l.order.numbers.items) l.found.primes.cubes;
  adds : AddsColumns l.off l.initial.found.primes.cubes l.found.primes.cubes;
  size : l.found.primes.size ≡ l.off.size;
  refusing : length l.found.refusing.items ≡ length l.points;
  left : l.found.left ≤ l.initial.found.left;
}
