use Rattle.std.proofs.Common.{◌≡◌, drop}
use Rattle.pla.specs.Lines.{is_keyword_line}
use Rattle.pla.proofs.line.begins_keyword.Given as goal

abbrev pub invariant-loop-b : goal.invariant-loop-b
invariant-loop-b l = is_keyword_line l.line ≡ is_keyword_line (drop l.b-index l.line)
