use Rattle.std.proofs.Common.{◌+◌, ◌*◌, length}
use Rattle.cover.proofs.containment.+mark_absorbed.Given as goal

abbrev pub decreases-mark_absorbed : goal.decreases-mark_absorbed
decreases-mark_absorbed l = 2 * length l.order.now

abbrev pub decreases-mark_absorbed_at : goal.decreases-mark_absorbed_at
decreases-mark_absorbed_at l = 2 * length l.order.now + 1
