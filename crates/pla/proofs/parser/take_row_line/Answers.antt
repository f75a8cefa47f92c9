use Rattle.std.proofs.Common.{◌≡◌, ℕ, List, false, cond, Option, Some, None, ap, sym, ◌∙◌, subst, option_map}
use Rattle.std.proofs.lemmas.Result.{err_from_is_err_and}
use Rattle.pla.specs.declared.file_type.FileType.{FileType}
use Rattle.pla.specs.declared.fault.LineError.{LineError}
use Rattle.pla.specs.declared.fault.LineError.TheVariants.{Memory, Fault}
use Rattle.pla.specs.Header.{type_in}
use Rattle.pla.specs.HeadView.{seen}
use Rattle.pla.specs.Reading.{RowsRead, IsBadCode, read_code}
use Rattle.pla.specs.Parsing.{IsBadRow, read_row, has_symbol}
use Rattle.pla.proofs.parser.take_row_line.Goals as goal
use Rattle.pla.proofs.parser.take_row_line.Goals.{in-Some+in_ok-take-in-Some, in-None+else-has_symbols}

bad_row : (type : FileType) (r : RowsRead) (code : List ℕ) (e : LineError) → IsBadCode type r code e → IsBadRow type (Some r) code e
bad_row type r code Memory h = h
bad_row type r code (Fault kind) h = (h.0, ap (option_map (λ read. Some read)) h.1)

pub returns-in_err-take-in-Some-clause-fault : goal.returns-in_err-take-in-Some-clause-fault
returns-in_err-take-in-Some-clause-fault c =
    let e = c.in_err-take-in-Some.field-0.0 in
    let r = c.in-Some.rows in
    let p = err_from_is_err_and c.from_residual.result c.from_residual.ensures.1 in
    rw (p.1, p.2)
    (subst (λ (rows : Option RowsRead). IsBadRow (type_in (seen c.args.head.now 0)) rows c.args.code.now e) (sym c.in-Some.is)
    (bad_row (type_in (seen c.args.head.now 0)) r c.args.code.now e
    (subst (λ (type : FileType). IsBadCode type r c.args.code.now e) (c.file_type_or_fd.ensures 0) c.in_err-take-in-Some.ensures.err)))

no_rows : (type : FileType) (code : List ℕ) → has_symbol code ≡ false → read_row type None code ≡ Some None
no_rows type code e = ap (λ b. cond b None (Some None)) e

pub returns-clause-rows : goal.returns-clause-rows
returns-clause-rows c =
    let type = type_in (seen c.args.head.now 0) in
    let code = c.args.code.now in
    elim c.match-rows.branch [
      | in-Some+in_ok-take-in-Some w ↦
          let r = w.in-Some.rows in
          let read : read_code type r code ≡ Some w.take.new.self =
          sym (ap (λ (t : FileType). read_code t r code) (w.file_type_or_fd.ensures 0)) ∙ w.in_ok-take-in-Some.ensures.ok in
          ap (λ (o : Option RowsRead). read_row type o code) w.in-Some.is ∙ ap (option_map (λ (x : RowsRead). Some x)) read ∙ ap (λ (o : Option RowsRead). Some o) (sym w.rows-is)
      | in-None+else-has_symbols w ↦
          let none : has_symbol code ≡ false = sym c.has_symbol-has_symbols.ensures ∙ w.if-has_symbols.false in
          ap (λ (o : Option RowsRead). read_row type o code) w.in-None.is ∙ no_rows type code none ∙ ap (λ (o : Option RowsRead). Some o) (sym (w.rows-is ∙ w.in-None.is))
    ]
