use Rattle.std.proofs.Common.{◌≡◌, take}
use Rattle.rows.specs.Places.{behind}
use Rattle.rows.proofs.copies.clone_referents.Given as goal

abbrev pub invariant-loop-row : goal.invariant-loop-row
invariant-loop-row l = l.copies.items ≡ behind (take l.row-index l.rows)
