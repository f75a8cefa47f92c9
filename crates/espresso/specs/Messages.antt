-- What goes to standard error, each a line with its line feed, and the statuses.
use Rattle.std.specs.Prelude.{ℕ, Bool, true, false, List, [], ◌∷◌, ◌++◌, codes, decimal}
use Rattle.pla.specs.declared.fault.ReadFault.{ReadFault}
use Rattle.pla.specs.declared.fault.ReadKind.{ReadKind}
use Rattle.pla.specs.declared.fault.ReadKind.TheVariants.{TooManyLines, LineTooLong, RefusedKeyword, KeywordInsideRow, KeywordRepeated, BadNumber, NamesBeforeShape, WrongNumberOfNames, TypeAfterRow, BadType, RowBeforeShape, BadSymbol, ShapeMissing, UnfinishedRow, ReadFailed, WriteFailed, OutOfMemory}
use Rattle.espresso.specs.declared.status.Status.{Status}
use Rattle.espresso.specs.declared.status.Status.TheVariants.{Done, No, Fault, Memory}

-- the exit status of the process
abbrev pub status_code : Status → ℕ
status_code Done = 0
status_code No = 1
status_code Fault = 2
status_code Memory = 3

-- the run came to its answer, which may be a no
abbrev pub is_answer : Status → Bool
is_answer Done = true
is_answer No = true
is_answer Fault = false
is_answer Memory = false

-- what each kind of fault is called; the last two are never printed so, as a failed write and want of
-- memory have messages of their own
abbrev pub kind_text : ReadKind → List ℕ
kind_text TooManyLines = codes "more than 16777216 lines"
kind_text LineTooLong = codes "line longer than 131072 bytes"
kind_text RefusedKeyword = codes "keyword outside the profile"
kind_text KeywordInsideRow = codes "keyword inside a row"
kind_text KeywordRepeated = codes "keyword repeated"
kind_text BadNumber = codes "bad number"
kind_text NamesBeforeShape = codes "names before .i and .o"
kind_text WrongNumberOfNames = codes "wrong number of names"
kind_text TypeAfterRow = codes "type after a row"
kind_text BadType = codes "bad type"
kind_text RowBeforeShape = codes "row before .i and .o"
kind_text BadSymbol = codes "bad symbol"
kind_text ShapeMissing = codes ".i or .o missing"
kind_text UnfinishedRow = codes "unfinished row"
kind_text ReadFailed = codes "read failed"
kind_text WriteFailed = codes "write failed"
kind_text OutOfMemory = codes "out of memory"

-- words that say no line
abbrev pub usage_message : List ℕ
usage_message = codes "usage: espresso -Dcommand [-o type] [-e eat] [file [file]]" ++ 10 ∷ []

-- a file that could not be opened
abbrev pub closed_message : List ℕ → List ℕ
closed_message name = codes "espresso: cannot open " ++ name ++ 10 ∷ []

-- a file at fault, with the number of the line
abbrev pub fault_message : List ℕ → ReadFault → List ℕ
fault_message name fault = codes "espresso: " ++ name ++ codes ":" ++ decimal fault.line
    ++ codes ": " ++ kind_text fault.kind ++ 10 ∷ []

-- two files of other numbers of inputs or of outputs
abbrev pub sizes_message : List ℕ
sizes_message = codes "espresso: sizes differ" ++ 10 ∷ []

-- an output that failed
abbrev pub write_failed_message : List ℕ
write_failed_message = codes "espresso: write failed" ++ 10 ∷ []

-- a growth of memory that was refused
abbrev pub memory_message : List ℕ
memory_message = codes "espresso: out of memory" ++ 10 ∷ []
