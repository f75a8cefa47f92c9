use Rattle.std.proofs.Common.{◌≡◌, length}
use Rattle.pla.specs.Reading.{read_code}
use Rattle.pla.proofs.row_lines.Rows.take.Given as goal

abbrev pub invariant-loop-rest : goal.invariant-loop-rest
invariant-loop-rest l = record {
  size : l.self.size ≡ l.fn.self.size;
  read : read_code l.file_type l.fn.self l.code ≡ read_code l.file_type l.self l.rest;
}

abbrev pub decreases-loop-rest : goal.decreases-loop-rest
decreases-loop-rest l = length l.rest
