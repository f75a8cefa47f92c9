use Rattle.std.proofs.Common.{◌≡◌, [], cond, None, ap, sym, ◌∙◌, subst, option_map}
use Rattle.std.specs.Option.{option_or}
use Rattle.cube.specs.Limits.{format_limits}
use Rattle.cube.specs.Size.{Size}
use Rattle.pla.specs.declared.file_type.FileType.TheVariants.{Fd}
use Rattle.pla.specs.Lines.{words, keyword_code, keyword_words}
use Rattle.pla.specs.Keywords.{texts}
use Rattle.pla.specs.HeadView.{seen, keyword_fault}
use Rattle.pla.specs.Reading.{RowsRead, rows_of}
use Rattle.pla.specs.Parsing.{IsTied, opened, unfinished_of}
use Rattle.pla.proofs.KeywordLines.{not_repeated}
use Rattle.pla.proofs.Ties.{tied_keyword, repeated_anywhere}
use Rattle.pla.proofs.parser.take_keyword_line.Goals as goal

pub returns-in_err-set-clause-tied : goal.returns-in_err-set-clause-tied
returns-in_err-set-clause-tied c = λ tied. subst (λ h. IsTied h c.args.rows.now) (sym (c.in_err-set.ensures.err 0)) tied

pub returns-clause-rows : goal.returns-clause-rows
returns-clause-rows c =
    let empty : Size → RowsRead = λ size. rows_of Fd size [] in
    c.open_rows.ensures ∙ ap (λ o. option_or c.args.rows.now (option_map empty o)) (c.shape.ensures 0)

pub returns-clause-tied : goal.returns-clause-tied
returns-clause-tied c = λ tied.
    let line = c.args.line.now in
    let named : texts c.deref.result.now ≡ keyword_words line =
    ap texts c.deref.ensures.value ∙ c.in_ok-words.ensures ∙ ap words c.keyword_code_of.ensures ∙ sym (ap (λ t. cond t (words (keyword_code line)) []) c.requires) in
    let again : texts c.deref-2.result.now ≡ keyword_words line =
    ap texts (c.deref-2.ensures.value ∙ sym c.deref.ensures.value) ∙ named in
    let unfinished = unfinished_of c.args.rows.now in
    let empty : Size → RowsRead = λ size. rows_of Fd size [] in
    let none : keyword_fault format_limits (seen c.args.head.now unfinished) line ≡ None =
    ap (λ u. keyword_fault format_limits (seen c.args.head.now u) line) (sym c.pending_count_of-unfinished.ensures) ∙ sym (c.keyword_fault.ensures line named) ∙ c.in_default.is in
    let repeated = sym (repeated_anywhere (seen c.args.head.now 0) line unfinished) ∙ not_repeated format_limits (seen c.args.head.now unfinished) line none in
    let rows : c.open_rows.new.rows ≡ opened c.args.rows.now (seen c.set.new.self 0) =
    c.open_rows.ensures ∙ ap (λ o. option_or c.args.rows.now (option_map empty o)) (c.shape.ensures 0) in
    subst (λ r. IsTied (seen c.set.new.self 0) r) (sym rows)
    (subst (λ h. IsTied h (opened c.args.rows.now h)) (sym (c.in_ok-set.ensures.ok 0 line again)) (tied_keyword format_limits (seen c.args.head.now 0) line c.args.rows.now repeated tied))
