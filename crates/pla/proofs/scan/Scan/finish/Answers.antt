use Rattle.std.proofs.Common.{[], Some, append-nil, sym, ap, ◌∙◌}
use Rattle.std.proofs.lemmas.Result.{err_from_is_err_and}
use Rattle.pla.proofs.EndLaws.{ended_answer, ended_due, ended_counts, described_writes, last_answer, last_counts, failed_fault}
use Rattle.pla.proofs.Feeding.{appends_nothing}
use Rattle.pla.proofs.scan.Scan.finish.Goals as goal

pub returns-then-done-clause-answer : goal.returns-then-done-clause-answer
returns-then-done-clause-answer g c = λ text st. ended_answer c.describe.result c.args.self text c.args.ending st (sym c.done.ensures ∙ c.if-done.true) c.describe.ensures

pub returns-then-done-clause-written : goal.returns-then-done-clause-written
returns-then-done-clause-written g c = λ text st.
    ([], ended_due c.args.self text (Some c.args.ending) st (sym c.done.ensures ∙ c.if-done.true) ∙ sym (append-nil _), described_writes c.describe.result _ _ [] (appends_nothing _))

pub returns-then-done-clause-count : goal.returns-then-done-clause-count
returns-then-done-clause-count g c = λ text st. ended_counts c.describe.result c.args.self text (g.W.Output.calls c.args.output.now) st (sym c.done.ensures ∙ c.if-done.true) c.describe.ensures

pub returns-in_err-take_last_line-in-End-clause-answer : goal.returns-in_err-take_last_line-in-End-clause-answer
returns-in_err-take_last_line-in-End-clause-answer g c =
    let p = err_from_is_err_and c.from_residual.result c.from_residual.ensures.1 in
    rw (p.1, p.2, c.in-End.is) (λ text st. c.in_err-take_last_line-in-End.ensures.fault text st)

pub returns-in-Failed-clause-answer : goal.returns-in-Failed-clause-answer
returns-in-Failed-clause-answer g c = rw c.in-Failed.is (λ text st. failed_fault c.args.self text c.lines.result st (sym c.done.ensures ∙ c.if-done.false) (c.lines.ensures.value ∙ ap (λ s. s.parsed.header.lines) c.self.view_is))

pub returns-in-Failed-clause-written : goal.returns-in-Failed-clause-written
returns-in-Failed-clause-written g c = rw c.in-Failed.is (λ text st. ([], sym (append-nil _), appends_nothing _))

pub returns-in_ok-take_last_line-in-End-clause-answer : goal.returns-in_ok-take_last_line-in-End-clause-answer
returns-in_ok-take_last_line-in-End-clause-answer g c = rw c.in-End.is (λ text st. last_answer c.describe-in-End.result c.take_last_line.new.self.parsed text (c.in_ok-take_last_line-in-End.ensures.takes text st) c.describe-in-End.ensures)

pub returns-in_ok-take_last_line-in-End-clause-written : goal.returns-in_ok-take_last_line-in-End-clause-written
returns-in_ok-take_last_line-in-End-clause-written g c = rw c.in-End.is (λ text st.
    let w = c.in_ok-take_last_line-in-End.ensures.written text st in (w.0, w.1, described_writes c.describe-in-End.result _ _ w.0 w.2))

pub returns-in_ok-take_last_line-in-End-clause-count : goal.returns-in_ok-take_last_line-in-End-clause-count
returns-in_ok-take_last_line-in-End-clause-count g c = λ text st.
    last_counts c.describe-in-End.result c.take_last_line.new.self.parsed text (g.W.Output.calls c.args.output.now) (g.W.Output.calls c.take_last_line.new.output) (c.in_ok-take_last_line-in-End.ensures.takes text st) c.describe-in-End.ensures (c.in_ok-take_last_line-in-End.ensures.count text st)
