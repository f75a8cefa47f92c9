use Rattle.std.proofs.Common.{◌∙◌, map, string_bytes}
use Rattle.std.proofs.lemmas.Result.{IfOk-weaker}
use Rattle.clap.specs.Words.{app_of}
use Rattle.espresso.proofs.Lines.{all_utf8, line_of_error, line_of_matches, usage_is}
use Rattle.espresso.proofs.line.Line.read.Goals as goal

pub returns-in-Ok-try_get_matches_from-clause-ok : goal.returns-in-Ok-try_get_matches_from-clause-ok
returns-in-Ok-try_get_matches_from-clause-ok c =
    let parse = c.in-Ok-try_get_matches_from in
    let is_line = line_of_matches (app_of c.in-Ok.command) (map string_bytes c.args.words.now) c.in-Ok.ensures (all_utf8 c.args.words.now) parse.matches parse.ensures.kinds parse.ensures.matches in
    IfOk-weaker c.line_in.result _ _ (λ l h. is_line ∙ h) c.line_in.ensures.ok

pub returns-in-Ok-try_get_matches_from-clause-usage : goal.returns-in-Ok-try_get_matches_from-clause-usage
returns-in-Ok-try_get_matches_from-clause-usage c =
    let parse = c.in-Ok-try_get_matches_from in
    λ e. line_of_matches (app_of c.in-Ok.command) (map string_bytes c.args.words.now) c.in-Ok.ensures (all_utf8 c.args.words.now) parse.matches parse.ensures.kinds parse.ensures.matches ∙ c.line_in.ensures.usage e

pub returns-in-Err-try_get_matches_from-clause-usage : goal.returns-in-Err-try_get_matches_from-clause-usage
returns-in-Err-try_get_matches_from-clause-usage c =
    let parse = c.in-Err-try_get_matches_from in
    λ e. line_of_error (app_of c.in-Ok.command) (map string_bytes c.args.words.now) c.in-Ok.ensures (all_utf8 c.args.words.now) parse.error parse.ensures.kinds
    (λ memory. let is = c.fault_from.ensures.memory memory in let said = usage_is _ e in cc)
