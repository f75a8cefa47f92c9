-- Why a line is refused.
use Rattle.std.proofs.Common.{◌≡◌, ℕ, true, false, List, Option, Some, ap, sym, ◌∙◌}
use Rattle.cube.specs.Limits.{Limits}
use Rattle.pla.specs.declared.fault.LineError.{LineError}
use Rattle.pla.specs.declared.fault.LineError.TheVariants.{Memory, Fault}
use Rattle.pla.specs.declared.fault.ReadKind.TheVariants.{TooManyLines, LineTooLong}
use Rattle.pla.specs.declared.header.Head.{Head}
use Rattle.pla.specs.Lines.{is_keyword_line, row_code}
use Rattle.pla.specs.Header.{type_in}
use Rattle.pla.specs.Fault.{fault_in, fault_on, is_past_limit, is_too_long}
use Rattle.pla.specs.Scan.{Refuses}
use Rattle.pla.specs.Reading.{RowsRead}
use Rattle.pla.specs.HeadView.{seen}
use Rattle.pla.specs.Parsing.{unfinished_of, IsKeywordFault, IsBadRow}
use Rattle.pla.proofs.ByKind.{too_many, too_long, keyword_line}
use Rattle.pla.proofs.KeywordTaken.{Before, header_known}
use Rattle.pla.proofs.RowTaken.{row_refused}

-- the line is past the limit
pub many_refused : (limits : Limits) (before : List (List ℕ)) (line : List ℕ) (head : Head) (rows : Option RowsRead) → Before limits before head rows
    → is_past_limit limits (seen head (unfinished_of rows)) line ≡ true → fault_on limits before line ≡ Some TooManyLines
many_refused limits before line head rows b past =
    sym (ap (λ h. fault_in limits h line) (header_known limits before head rows b)) ∙ too_many limits (seen head (unfinished_of rows)) line past

-- the line is too long
pub long_refused : (limits : Limits) (before : List (List ℕ)) (line : List ℕ) (head : Head) (rows : Option RowsRead) → Before limits before head rows
    → is_past_limit limits (seen head (unfinished_of rows)) line ≡ false → is_too_long limits (seen head (unfinished_of rows)) line ≡ true → fault_on limits before line ≡ Some LineTooLong
long_refused limits before line head rows b past long =
    sym (ap (λ h. fault_in limits h line) (header_known limits before head rows b)) ∙ too_long limits (seen head (unfinished_of rows)) line past long

-- a keyword line
pub keyword_refuses : (limits : Limits) (before : List (List ℕ)) (line : List ℕ) (head : Head) (rows : Option RowsRead) (e : LineError) → Before limits before head rows → is_keyword_line line ≡ true
    → is_past_limit limits (seen head (unfinished_of rows)) line ≡ false → is_too_long limits (seen head (unfinished_of rows)) line ≡ false
    → IsKeywordFault limits (seen head (unfinished_of rows)) line e → Refuses limits before line e
keyword_refuses limits before line head rows Memory b k past long h = h
keyword_refuses limits before line head rows (Fault which) b k past long h =
    sym (ap (λ x. fault_in limits x line) (header_known limits before head rows b)) ∙ keyword_line limits (seen head (unfinished_of rows)) line past long k ∙ h

-- a row line
pub row_refuses : (limits : Limits) (before : List (List ℕ)) (line : List ℕ) (head : Head) (rows : Option RowsRead) (e : LineError) → Before limits before head rows → is_keyword_line line ≡ false
    → is_past_limit limits (seen head (unfinished_of rows)) line ≡ false → is_too_long limits (seen head (unfinished_of rows)) line ≡ false
    → IsBadRow (type_in (seen head 0)) rows (row_code line) e → Refuses limits before line e
row_refuses limits before line head rows Memory b k past long h = h
row_refuses limits before line head rows (Fault which) b k past long h = row_refused limits before line head rows b k past long h.1 ∙ ap (λ x. Some x) (sym h.0)
