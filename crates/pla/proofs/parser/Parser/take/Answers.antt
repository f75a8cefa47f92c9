use Rattle.std.proofs.Common.{◌≡◌, ℕ, ◌+◌, List, [], ◌∷◌, ◌++◌, false, Some, ap, sym, ◌∙◌, subst}
use Rattle.std.proofs.lemmas.Result.{err_from_is_err_and}
use Rattle.cube.specs.Limits.{format_limits}
use Rattle.pla.specs.declared.parser.Parser.TheInside.{Inside}
use Rattle.pla.specs.Lines.{row_code}
use Rattle.pla.specs.Header.{Header, type_in}
use Rattle.pla.specs.Fault.{is_past_limit, is_too_long}
use Rattle.pla.specs.Scan.{Parsed, StandsForLines}
use Rattle.pla.specs.HeadView.{seen, with_keyword}
use Rattle.pla.specs.Parsing.{IsBadRow, IsTied, parsed_by, read_row, unfinished_of, with_row_code}
use Rattle.pla.proofs.KeywordTaken.{Before, keyword_taken}
use Rattle.pla.proofs.RowTaken.{row_taken}
use Rattle.pla.proofs.Refusals.{many_refused, long_refused, keyword_refuses, row_refuses}
use Rattle.pla.proofs.parser.Parser.take.Goals as goal
use Rattle.pla.proofs.parser.Parser.take.Goals.{then-begins_keyword+in_ok-take_keyword_line, else-begins_keyword+in_ok-take_row_line}

-- what is known of the fields before the line
known : (parser : Inside) (value : Parsed) (before : List (List ℕ)) → parsed_by (seen parser.head (unfinished_of parser.rows)) parser.rows ≡ value → IsTied (seen parser.head 0) parser.rows → value.header.ended ≡ false
    → StandsForLines format_limits value before → Before format_limits before parser.head parser.rows
known parser value before view tied going st = record { stands = subst (λ p. StandsForLines format_limits p before) (sym view) st; tied = tied; going = ap (λ p. p.header.ended) view ∙ going }

pub returns-then-past_limit-clause-stands : goal.returns-then-past_limit-clause-stands
returns-then-past_limit-clause-stands c = λ before st.
    many_refused format_limits before c.args.line.now c.self.inside.head c.self.inside.rows (known c.self.inside c.args.self.now before c.self.view_is c.self.invariant c.requires.open st)
    (sym (c.past_limit.ensures.value (unfinished_of c.self.inside.rows) c.args.line.now) ∙ c.if-past_limit.true)

pub returns-then-too_long-clause-stands : goal.returns-then-too_long-clause-stands
returns-then-too_long-clause-stands c = λ before st.
    long_refused format_limits before c.args.line.now c.self.inside.head c.self.inside.rows (known c.self.inside c.args.self.now before c.self.view_is c.self.invariant c.requires.open st)
    (sym (c.past_limit.ensures.value (unfinished_of c.self.inside.rows) c.args.line.now) ∙ c.if-past_limit.false) (sym (c.too_long.ensures (seen c.self.inside.head (unfinished_of c.self.inside.rows))) ∙ c.if-too_long.true)

pub returns-in_err-take_keyword_line-clause-stands : goal.returns-in_err-take_keyword_line-clause-stands
returns-in_err-take_keyword_line-clause-stands c =
    let p = err_from_is_err_and c.from_residual.result c.from_residual.ensures.1 in
    rw (p.1, p.2) (λ before st.
    keyword_refuses format_limits before c.args.line.now c.self.inside.head c.self.inside.rows _ (known c.self.inside c.args.self.now before c.self.view_is c.self.invariant c.requires.open st) (sym c.begins_keyword.ensures ∙ c.if-begins_keyword.true)
    (sym (c.past_limit.ensures.value (unfinished_of c.self.inside.rows) c.args.line.now) ∙ c.if-past_limit.false) (sym (c.too_long.ensures (seen c.self.inside.head (unfinished_of c.self.inside.rows))) ∙ c.if-too_long.false)
    c.in_err-take_keyword_line.ensures.fault)

pub returns-in_err-take_row_line-clause-stands : goal.returns-in_err-take_row_line-clause-stands
returns-in_err-take_row_line-clause-stands c =
    let p = err_from_is_err_and c.from_residual-in_err-take_row_line.result c.from_residual-in_err-take_row_line.ensures.1 in
    rw (p.1, p.2) (λ before st.
    row_refuses format_limits before c.args.line.now c.self.inside.head c.self.inside.rows _ (known c.self.inside c.args.self.now before c.self.view_is c.self.invariant c.requires.open st) (sym c.begins_keyword.ensures ∙ c.if-begins_keyword.false)
    (sym (c.past_limit.ensures.value (unfinished_of c.self.inside.rows) c.args.line.now) ∙ c.if-past_limit.false) (sym (c.too_long.ensures (seen c.self.inside.head (unfinished_of c.self.inside.rows))) ∙ c.if-too_long.false)
    (subst (λ (code : List ℕ). IsBadRow (type_in (seen c.self.inside.head 0)) c.self.inside.rows code c.in_err-take_row_line.field-0.0) c.requires.code c.in_err-take_row_line.ensures.fault))

-- what is to be shown of the fields after the line
Taken : List (List ℕ) → List ℕ → Inside → Type 0
Taken before line parser = StandsForLines format_limits (parsed_by (record (seen parser.head (unfinished_of parser.rows)) { lines = parser.head.lines + 1 }) parser.rows) (before ++ line ∷ [])

pub returns-clause-stands : goal.returns-clause-stands
unfolding Taken
returns-clause-stands c = λ before st.
    let line = c.args.line.now in
    let head = c.self.inside.head in
    let rows = c.self.inside.rows in
    let u = unfinished_of rows in
    let b = known c.self.inside c.args.self.now before c.self.view_is c.self.invariant c.requires.open st in
    let few : is_past_limit format_limits (seen head u) line ≡ false = sym (c.past_limit.ensures.value u line) ∙ c.if-past_limit.false in
    let short : is_too_long format_limits (seen head u) line ≡ false = sym (c.too_long.ensures (seen head u)) ∙ c.if-too_long.false in
    elim c.if-begins_keyword.branch [
      | then-begins_keyword+in_ok-take_keyword_line w ↦ subst (Taken before line) (sym w.self-inside-is)
          (let new = w.take_keyword_line.new.head in
          let given = w.in_ok-take_keyword_line.ensures in
          keyword_taken format_limits before line head (λ v. record (seen new v) { lines = new.lines + 1 }) rows w.take_keyword_line.new.rows b (sym c.begins_keyword.ensures ∙ w.if-begins_keyword.true) few short given.faultless
          (λ v. ap (λ (x : Header). record x { lines = new.lines + 1; unfinished = v }) (given.head u) ∙ ap (λ (n : ℕ). record (with_keyword format_limits (seen head u) line) { lines = n + 1; unfinished = v }) given.lines)
          given.rows)
      | else-begins_keyword+in_ok-take_row_line w ↦ subst (Taken before line) (sym w.self-inside-is)
          (let new = w.take_row_line.new.head in
          let given = w.in_ok-take_row_line.ensures in
          let read = subst (λ (code : List ℕ). read_row (type_in (seen head 0)) rows code ≡ Some w.take_row_line.new.rows) c.requires.code given.rows in
          let kept = λ (v : ℕ). given.head v ∙ ap (with_row_code (seen head v)) c.requires.code in
          row_taken format_limits before line head (λ v. record (seen new v) { lines = new.lines + 1 }) rows w.take_row_line.new.rows b (sym c.begins_keyword.ensures ∙ w.if-begins_keyword.false) few short read
          (λ v. ap (λ (x : Header). record x { lines = new.lines + 1; unfinished = v }) (kept u) ∙ ap (λ (n : ℕ). record (with_row_code (seen head u) (row_code line)) { lines = n + 1; unfinished = v }) given.lines))
    ]
