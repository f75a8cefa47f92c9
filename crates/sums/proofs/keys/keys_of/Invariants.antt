use Rattle.std.proofs.Common.{ℕ, ◌<◌, ◌≤◌, length, take, get_or}
use Rattle.sums.specs.Keys.{HasKeys}
use Rattle.sums.proofs.keys.keys_of.Given as goal

abbrev pub invariant-loop-row : goal.invariant-loop-row
invariant-loop-row l = record {
  keys : HasKeys l.inputs (take l.row-index l.rows) l.keys.items;
  last : (j : ℕ) → j < length l.keys.items → get_or l.keys.items j 0 ≤ l.last;
}
