use Rattle.std.proofs.Common.{◌≡◌, take, filter}
use Rattle.rows.specs.Marks.{is_over, symbol_at}
use Rattle.cover.proofs.containment.indices_with_containing_symbol.Given as goal

abbrev pub invariant-loop-k : goal.invariant-loop-k
invariant-loop-k l = l.kept.items ≡ filter (λ k. is_over (symbol_at l.list.cubes l.i k) l.symbol) (take l.k-index l.indices)
