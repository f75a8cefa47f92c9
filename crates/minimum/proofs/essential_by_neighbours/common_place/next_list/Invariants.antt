use Rattle.minimum.specs.Blocking.{HasCommon}
use Rattle.minimum.proofs.essential_by_neighbours.common_place.next_list.Given as goal

abbrev pub invariant-loop-number : goal.invariant-loop-number
invariant-loop-number l = HasCommon l.region l.lists l.number → HasCommon l.region l.lists l.from
