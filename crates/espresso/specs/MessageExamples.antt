-- What each message says, to the byte, and the number of each status.
use Rattle.std.specs.Prelude.{◌≡◌, ℕ, true, false, List, codes, refl}
use Rattle.std.specs.Fmt.{digits}
use Rattle.pla.specs.declared.fault.ReadKind.{ReadKind}
use Rattle.pla.specs.declared.fault.ReadKind.TheVariants.{TooManyLines, LineTooLong, RefusedKeyword, KeywordInsideRow, KeywordRepeated, BadNumber, NamesBeforeShape, WrongNumberOfNames, TypeAfterRow, BadType, RowBeforeShape, BadSymbol, ShapeMissing, UnfinishedRow, ReadFailed, WriteFailed, OutOfMemory}
use Rattle.espresso.specs.declared.status.Status.TheVariants.{Done, No, Fault, Memory}
use Rattle.espresso.specs.Messages.{closed_message, fault_message, is_answer, memory_message, sizes_message, status_code, usage_message, write_failed_message}

-- what is said of this fault on line 12 of the file f
abbrev said : ReadKind → List ℕ
said kind = fault_message (codes "f") (record { line = 12; kind = kind })

pub record Faults : Type 0 where
  pub too_many_lines : said TooManyLines ≡ codes "espresso: f:12: more than 16777216 lines\n"
  pub line_too_long : said LineTooLong ≡ codes "espresso: f:12: line longer than 131072 bytes\n"
  pub refused_keyword : said RefusedKeyword ≡ codes "espresso: f:12: keyword outside the profile\n"
  pub keyword_inside_row : said KeywordInsideRow ≡ codes "espresso: f:12: keyword inside a row\n"
  pub keyword_repeated : said KeywordRepeated ≡ codes "espresso: f:12: keyword repeated\n"
  pub bad_number : said BadNumber ≡ codes "espresso: f:12: bad number\n"
  pub names_before_shape : said NamesBeforeShape ≡ codes "espresso: f:12: names before .i and .o\n"
  pub wrong_number_of_names : said WrongNumberOfNames
      ≡ codes "espresso: f:12: wrong number of names\n"
  pub type_after_row : said TypeAfterRow ≡ codes "espresso: f:12: type after a row\n"
  pub bad_type : said BadType ≡ codes "espresso: f:12: bad type\n"
  pub row_before_shape : said RowBeforeShape ≡ codes "espresso: f:12: row before .i and .o\n"
  pub bad_symbol : said BadSymbol ≡ codes "espresso: f:12: bad symbol\n"
  pub shape_missing : said ShapeMissing ≡ codes "espresso: f:12: .i or .o missing\n"
  pub unfinished_row : said UnfinishedRow ≡ codes "espresso: f:12: unfinished row\n"
  pub read_failed : said ReadFailed ≡ codes "espresso: f:12: read failed\n"
  pub write_failed : said WriteFailed ≡ codes "espresso: f:12: write failed\n"
  pub out_of_memory : said OutOfMemory ≡ codes "espresso: f:12: out of memory\n"

faults : Faults
unfolding digits
faults = record {
  too_many_lines = refl;
  line_too_long = refl;
  refused_keyword = refl;
  keyword_inside_row = refl;
  keyword_repeated = refl;
  bad_number = refl;
  names_before_shape = refl;
  wrong_number_of_names = refl;
  type_after_row = refl;
  bad_type = refl;
  row_before_shape = refl;
  bad_symbol = refl;
  shape_missing = refl;
  unfinished_row = refl;
  read_failed = refl;
  write_failed = refl;
  out_of_memory = refl;
}

pub record Others : Type 0 where
  pub usage : usage_message ≡ codes "usage: espresso -Dcommand [-o type] [-e eat] [file [file]]\n"
  pub closed : closed_message (codes "f") ≡ codes "espresso: cannot open f\n"
  pub sizes : sizes_message ≡ codes "espresso: sizes differ\n"
  pub write_failed : write_failed_message ≡ codes "espresso: write failed\n"
  pub memory : memory_message ≡ codes "espresso: out of memory\n"

others : Others
others = record { usage = refl; closed = refl; sizes = refl; write_failed = refl; memory = refl }

pub record Statuses : Type 0 where
  pub done : status_code Done ≡ 0
  pub no : status_code No ≡ 1
  pub fault : status_code Fault ≡ 2
  pub memory : status_code Memory ≡ 3
  pub done_is_answer : is_answer Done ≡ true
  pub no_is_answer : is_answer No ≡ true
  pub fault_is_none : is_answer Fault ≡ false
  pub memory_is_none : is_answer Memory ≡ false

statuses : Statuses
statuses = record {
  done = refl;
  no = refl;
  fault = refl;
  memory = refl;
  done_is_answer = refl;
  no_is_answer = refl;
  fault_is_none = refl;
  memory_is_none = refl;
}
