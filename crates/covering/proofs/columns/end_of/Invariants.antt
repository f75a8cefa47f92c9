use Rattle.std.proofs.Common.{◌≡◌, ◌<◌, ℕ, true, take}
use Rattle.covering.specs.Table.{has}
use Rattle.covering.proofs.columns.end_of.Given as goal

abbrev pub invariant-loop-number : goal.invariant-loop-number
invariant-loop-number l = (n : ℕ) → has n (take l.number-index l.numbers) ≡ true → n < l.end
