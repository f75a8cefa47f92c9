use Rattle.std.proofs.Common.{◌∙◌, Err, ap, drop, map, string_bytes, sym}
use Rattle.espresso.specs.Program.{words_behind}
use Rattle.espresso.specs.Words.{line_of}
use Rattle.espresso.proofs.Executing.{executes, no_line, no_text}
use Rattle.espresso.proofs.program.execute.Goals as goal

pub returns-in-Ok-line-clause-ends : goal.returns-in-Ok-line-clause-ends
returns-in-Ok-line-clause-ends g c =
    executes _ _ _ (drop 1 (map string_bytes c.in-Ok.words.items)) c.in-Ok-line.line _ _ _ _ _ (ap (words_behind (λ given. map string_bytes given.items)) c.in-Ok.is)
    (ap line_of (sym (c.after_first.ensures ∙ ap (λ xs. drop 1 (map string_bytes xs)) c.deref.ensures.value)) ∙ c.in-Ok-line.ensures.ok) c.run_line.ensures.ends

pub returns-in-Err-clause-ends : goal.returns-in-Err-clause-ends
returns-in-Err-clause-ends g c =
    no_text _ _ _ _ _ (g.W.Output.calls c.args.out.now) _ _ c.in-Err.fault (ap (words_behind (λ given. map string_bytes given.items)) c.in-Err.is) c.refuse.ensures.status c.refuse.ensures.message

pub returns-in-Err-line-clause-ends : goal.returns-in-Err-line-clause-ends
returns-in-Err-line-clause-ends g c =
    let call = c.refuse-in-Err-line in
    no_line _ _ _ _ _ (g.W.Output.calls c.args.out.now) _ _ (drop 1 (map string_bytes c.in-Ok.words.items)) (ap (words_behind (λ given. map string_bytes given.items)) c.in-Ok.is) c.in-Err-line.fault
    (λ usage. ap line_of (sym (c.after_first.ensures ∙ ap (λ xs. drop 1 (map string_bytes xs)) c.deref.ensures.value)) ∙ c.in-Err-line.ensures.usage (ap Err usage)) call.ensures.status call.ensures.message
