use Rattle.std.proofs.Common.{◌∙◌, ap, drop}
use Rattle.espresso.specs.Run.{trace}
use Rattle.espresso.specs.Steps.{names_said}
use Rattle.espresso.specs.Tool.{first_name}
use Rattle.espresso.proofs.Both.{reports_by}
use Rattle.espresso.proofs.Opening.{asks_since, stopped_over, why_unopened}
use Rattle.espresso.proofs.Ways.{ends}
use Rattle.espresso.proofs.run_files.run_on.Goals as goal

pub returns-clause-ends : goal.returns-clause-ends
returns-clause-ends g c = let ran = c.read_and_answer-done.ensures in
    let line = c.args.line.now in
    let taken = ran.0 in
    let done = c.flush_last-done.result in
    let closes = c.flush_last-done.ensures.passes line taken (names_said line) _ _ ran.3 in
    let reports = reports_by _ (names_said line)
    (trace (g.E.Output.taken c.args.err.now) (g.E.Output.taken c.report.new.err) (g.E.Output.calls c.args.err.now) (g.E.Output.calls c.report.new.err))
    _ _ (c.as_bytes.ensures.value ∙ c.name_in_messages.ensures ∙ ap first_name c.files-files.ensures)
    (c.as_bytes-2.ensures.value ∙ c.name_in_messages-second_name.ensures ∙ ap first_name (c.after_first.ensures ∙ ap (drop 1) c.files-files.ensures)) c.report.ensures.said in
    record {
      taken = taken;
      first = ran.1;
      second = asks_since (g.S.SecondSource.asked line) line taken.first _ _
          (λ stopped. why_unopened line taken (names_said line) _ _ _ done closes reports (stopped_over taken.first c.read_and_answer-done.result done c.flush_last-done.ensures.stopped stopped))
          c.args.second.now c.read_and_answer-done.new.second taken.second ran.2;
      ends = ends line taken (names_said line) _ _ _ done closes reports;
    }
