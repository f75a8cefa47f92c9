use Rattle.std.proofs.Common.{sym, ap, ◌∙◌}
use Rattle.pla.proofs.Feeding.{none_kept, ends_counts}
use Rattle.pla.proofs.EndLaws.{empty_takes, empty_written, last_takes, last_told, last_written, some_kept}
use Rattle.pla.proofs.scan.Scan.take_last_line.Goals as goal

pub returns-then-is_empty-clause-takes : goal.returns-then-is_empty-clause-takes
returns-then-is_empty-clause-takes g c =
    let empty = none_kept c.self.inside.rest.items _ _ c.if-is_empty.true c.is_empty.ensures c.self.inside.rest.ok.0 in
    λ text st. empty_takes c.args.self.now text st c.requires (ap (λ s. s.rest) (sym c.self.view_is) ∙ empty)

pub returns-then-is_empty-clause-written : goal.returns-then-is_empty-clause-written
returns-then-is_empty-clause-written g c =
    let empty = none_kept c.self.inside.rest.items _ _ c.if-is_empty.true c.is_empty.ensures c.self.inside.rest.ok.0 in
    λ text st. empty_written c.args.self.now text _ st c.requires (ap (λ s. s.rest) (sym c.self.view_is) ∙ empty)

pub returns-clause-takes : goal.returns-clause-takes
returns-clause-takes g c =
    let some = some_kept c.self.inside.rest.items _ _ c.if-is_empty.false c.is_empty.ensures c.self.inside.rest.ok.0 in
    rw (← c.self.view_is) (λ text st. last_takes c.take_line.result _ c.take_line.new.parser text c.deref.result.now st (ap (λ s. s.parsed.header.ended) c.self.view_is ∙ c.requires) c.deref.ensures.value some c.take_line.ensures.takes)

pub returns-clause-fault : goal.returns-clause-fault
returns-clause-fault g c =
    let some = some_kept c.self.inside.rest.items _ _ c.if-is_empty.false c.is_empty.ensures c.self.inside.rest.ok.0 in
    rw (← c.self.view_is) (λ text st. last_told c.take_line.result _ c.take_line.new.parser text c.deref.result.now st (ap (λ s. s.parsed.header.ended) c.self.view_is ∙ c.requires) c.deref.ensures.value some c.take_line.ensures.takes)

pub returns-clause-written : goal.returns-clause-written
returns-clause-written g c =
    let some = some_kept c.self.inside.rest.items _ _ c.if-is_empty.false c.is_empty.ensures c.self.inside.rest.ok.0 in
    rw (← c.self.view_is) (λ text st. last_written c.take_line.result _ c.take_line.new.parser text c.deref.result.now _ _ st (ap (λ s. s.parsed.header.ended) c.self.view_is ∙ c.requires) c.deref.ensures.value some c.take_line.ensures.takes c.take_line.ensures.written)

pub returns-clause-count : goal.returns-clause-count
returns-clause-count g c = rw (← c.self.view_is) (λ text st. ends_counts c.take_line.result _ text (g.W.Output.calls c.args.output.now) (g.W.Output.calls c.take_line.new.output) st (ap (λ s. s.parsed.header.ended) c.self.view_is ∙ c.requires) c.take_line.ensures.count)
