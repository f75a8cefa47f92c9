use Rattle.std.proofs.Common.{◌≡◌, is_none, map, take}
use Rattle.cover.proofs.tautology.are_none.Given as goal

abbrev pub invariant-loop-part : goal.invariant-loop-part
invariant-loop-part l = l.held.items ≡ map is_none (take l.part-index l.parts)
