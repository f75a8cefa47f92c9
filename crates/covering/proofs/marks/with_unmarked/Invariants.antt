use Rattle.std.proofs.Common.{◌≡◌, ℕ, take}
use Rattle.std.specs.Prelude.{filter, not, ◌&&◌, ◌||◌}
use Rattle.std.specs.List.{range_with_len}
use Rattle.covering.specs.Table.{has}
use Rattle.covering.specs.Search.{marked}
use Rattle.covering.proofs.marks.with_unmarked.Given as goal

abbrev pub invariant-loop-column : goal.invariant-loop-column
invariant-loop-column l = (n : ℕ) → marked l.rest.items n ≡ (marked l.keep n && not (has n (take l.column-index l.taken)))

abbrev pub invariant-loop-n : goal.invariant-loop-n
invariant-loop-n l = l.unmarked.items ≡ filter (λ n. has n l.taken || not (marked l.keep n)) (range_with_len 0 l.n)
