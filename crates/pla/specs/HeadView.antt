-- What a contract sees of the code's header.
use Rattle.std.specs.Prelude.{ℕ, List, if◌then◌else◌, Option, Some, codes}
use Rattle.cube.specs.Limits.{Limits}
use Rattle.pla.specs.declared.header.Head.{Head}
use Rattle.pla.specs.declared.fault.ReadKind.{ReadKind}
use Rattle.pla.specs.Lines.{arguments}
use Rattle.pla.specs.Keywords.{has, number_within, type_by, is_ending}
use Rattle.pla.specs.Names.{owned_names}
use Rattle.pla.specs.Header.{Header}
use Rattle.pla.specs.Fault.{keyword_tests, first_kind}

-- the header, if so many symbols stand in an unfinished row
abbrev pub seen : Head → ℕ → Header
seen head unfinished = record {
  lines = head.lines;
  inputs = head.inputs;
  outputs = head.outputs;
  input_names = owned_names head.input_names;
  output_names = owned_names head.output_names;
  file_type = head.file_type;
  unfinished = unfinished;
  has_symbols = head.has_symbols;
  ended = head.ended;
}

-- the first of the kinds of keyword lines that stands
unfoldable pub keyword_fault : Limits → Header → List ℕ → Option ReadKind
keyword_fault limits h line = first_kind (keyword_tests limits h line)

-- what a keyword line sets
abbrev pub with_keyword : Limits → Header → List ℕ → Header
with_keyword limits h line =
    if has (codes ".i") line
    then record h { inputs = number_within 0 limits.inputs (arguments line) }
    else if has (codes ".o") line
    then record h { outputs = number_within 1 limits.outputs (arguments line) }
    else if has (codes ".ilb") line then record h { input_names = Some (arguments line) }
    else if has (codes ".ob") line then record h { output_names = Some (arguments line) }
    else if has (codes ".type") line then record h { file_type = type_by (arguments line) }
    else record h { ended = is_ending line }
