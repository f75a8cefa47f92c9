use Rattle.std.proofs.Common.{◌≡◌, not, drop}
use Rattle.std.specs.List.{list_any}
use Rattle.pla.specs.Lines.{is_row_blank}
use Rattle.pla.proofs.line.has_symbol.Given as goal

abbrev pub invariant-loop-b : goal.invariant-loop-b
invariant-loop-b l = list_any (λ b. not (is_row_blank b)) l.code ≡ list_any (λ b. not (is_row_blank b)) (drop l.b-index l.code)
