use Rattle.std.proofs.Common.{◌≡◌, take, length, true}
use Rattle.std.specs.List.{list_all}
use Rattle.pla.specs.Symbols.{is_symbol_at}
use Rattle.pla.proofs.row_lines.Rows.run_length.Given as goal

abbrev pub invariant-loop-k : goal.invariant-loop-k
invariant-loop-k l = list_all (λ b. is_symbol_at l.self.size.inputs (length l.self.pending) b) (take l.k l.code) ≡ true
