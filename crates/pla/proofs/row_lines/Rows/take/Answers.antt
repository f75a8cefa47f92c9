use Rattle.std.proofs.Common.{◌≡◌, ℕ, ◌<◌, true, false, ◌==◌, List, [], ◌∷◌, length, take, drop, get_or, slice_index, Some, None, refl, ap, ◌∙◌, sym, arith, eqb-true, suc}
use Rattle.std.proofs.lemmas.Bool.{cond-true, cond-false}
use Rattle.std.proofs.lemmas.List.{length-take-le}
use Rattle.pla.specs.declared.file_type.FileType.{FileType}
use Rattle.pla.specs.Lines.{is_row_blank}
use Rattle.pla.specs.Symbols.{is_symbol_at}
use Rattle.pla.specs.Reading.{RowsRead, read_code}
use Rattle.pla.proofs.Moves.{drop_is}
use Rattle.pla.proofs.Runs.{read_front}
use Rattle.pla.proofs.row_lines.Rows.take.Goals as goal

pub loop-rest-preserved-then-count-gt0 : goal.loop-rest-preserved-then-count-gt0
loop-rest-preserved-then-count-gt0 c =
    let rest = c.loop-rest.rest.now in
    let count = c.run_length-count.result in
    let new = c.push_run.new.self in
    let some : 0 < length (take count rest) = omega (arith, length-take-le count rest c.run_length-count.ensures.fits, c.if-count-gt0.true) in
    record {
      size = c.in_ok-push_run.ensures.size ∙ c.loop-rest.invariant.size;
      read = c.loop-rest.invariant.read ∙ read_front c.args.file_type c.loop-rest.self new rest count some c.run_length-count.ensures.run c.in_ok-push_run.ensures.ok
          ∙ ap (read_code c.args.file_type new) (drop_is count rest);
    }

never : {P : Type 0} → true ≡ false → P
never e = cc

-- how a rest is read, by its first byte
none_left : (type : FileType) (r : RowsRead) (rest : List ℕ) → (length rest == 0) ≡ true → read_code type r rest ≡ Some r
none_left type r [] none = refl
none_left type r (b ∷ rest) none = let e : suc (length rest) ≡ 0 = eqb-true (suc (length rest)) 0 none in absurd (omega arith)

past_blank : (type : FileType) (r : RowsRead) (rest : List ℕ) → (length rest == 0) ≡ false → is_row_blank (get_or rest 0 0) ≡ true → read_code type r rest ≡ read_code type r (drop 1 rest)
past_blank type r [] some blank = never some
past_blank type r (b ∷ rest) some blank = cond-true (is_row_blank b) (read_code type r rest) _ blank

bad_byte : (type : FileType) (r : RowsRead) (rest : List ℕ) → (length rest == 0) ≡ false → is_row_blank (get_or rest 0 0) ≡ false
    → (0 < length rest → is_symbol_at r.size.inputs (length r.pending) (slice_index rest 0) ≡ false) → read_code type r rest ≡ None
bad_byte type r [] some blank bad = never some
bad_byte type r (b ∷ rest) some blank bad =
    cond-false (is_row_blank b) (read_code type r rest) _ blank ∙ cond-false (is_symbol_at r.size.inputs (length r.pending) b) _ None (bad (omega arith))

pub loop-rest-preserved : goal.loop-rest-preserved
loop-rest-preserved c =
    let rest = c.loop-rest.rest.now in
    record {
      size = c.loop-rest.invariant.size;
      read = c.loop-rest.invariant.read ∙ past_blank c.args.file_type c.loop-rest.self rest (sym c.is_empty.ensures ∙ c.loop-rest-test.true) (sym c.row_blank.ensures ∙ c.if-row_blank.true)
          ∙ ap (read_code c.args.file_type c.loop-rest.self) (drop_is 1 rest);
    }

pub returns-else-row_blank-clause-err : goal.returns-else-row_blank-clause-err
returns-else-row_blank-clause-err c = (
  refl,
  c.loop-rest.invariant.read ∙ bad_byte c.args.file_type c.loop-rest.self c.loop-rest.rest.now (sym c.is_empty.ensures ∙ c.loop-rest-test.true) (sym c.row_blank.ensures ∙ c.if-row_blank.false)
      (c.run_length-count.ensures.none (omega (arith, c.if-count-gt0.false))),
)

pub returns-clause-ok : goal.returns-clause-ok
returns-clause-ok c = c.loop-rest.invariant.read ∙ none_left c.args.file_type c.loop-rest.self c.loop-rest.rest.now (sym c.is_empty.ensures ∙ c.loop-rest-test.false)
