use Rattle.std.proofs.Common.{◌≡◌, ◌∷◌, [], Ok, Err, sym, ap, ◌∙◌, subst}
use Rattle.std.proofs.lemmas.Result.{err_from_is_err_and}
use Rattle.cube.specs.Limits.{format_limits}
use Rattle.pla.specs.Scan.{StandsForLines}
use Rattle.pla.specs.Steps.{WritesLine}
use Rattle.pla.proofs.Feeding.{ends_stands, ends_fault, ends_written, ends_counts, ends_onward, held_fault, held_written, held_counts, none_kept, nothing_before}
use Rattle.pla.proofs.scan.Scan.end_line.Goals as goal

pub returns-then-is_empty-clause-stands : goal.returns-then-is_empty-clause-stands
returns-then-is_empty-clause-stands g c =
    let empty : c.self.inside.rest.items ≡ [] = none_kept c.self.inside.rest.items _ _ c.if-is_empty.true c.is_empty.ensures c.self.inside.rest.ok.0 in
    rw (← c.self.view_is) (λ text st. ends_stands c.take_line_with_code.result _ _ text c.args.bytes.now c.args.bytes.now st
    (ap (λ s. s.parsed.header.ended) c.self.view_is ∙ c.requires.open) c.requires.line (nothing_before _ c.args.bytes.now empty) c.take_line_with_code.ensures.takes empty)

pub returns-then-is_empty-clause-fault : goal.returns-then-is_empty-clause-fault
returns-then-is_empty-clause-fault g c =
    let empty : c.self.inside.rest.items ≡ [] = none_kept c.self.inside.rest.items _ _ c.if-is_empty.true c.is_empty.ensures c.self.inside.rest.ok.0 in
    rw (← c.self.view_is) (λ text st. ends_fault c.take_line_with_code.result _ c.take_line_with_code.new.parser text c.args.bytes.now c.args.bytes.now st
    (ap (λ s. s.parsed.header.ended) c.self.view_is ∙ c.requires.open) c.requires.line (nothing_before _ c.args.bytes.now empty) c.take_line_with_code.ensures.takes)

pub returns-then-is_empty-clause-written : goal.returns-then-is_empty-clause-written
returns-then-is_empty-clause-written g c =
    let empty : c.self.inside.rest.items ≡ [] = none_kept c.self.inside.rest.items _ _ c.if-is_empty.true c.is_empty.ensures c.self.inside.rest.ok.0 in
    rw (← c.self.view_is) (λ text st. ends_written c.take_line_with_code.result _ c.take_line_with_code.new.parser text c.args.bytes.now c.args.bytes.now _ _ st
    (ap (λ s. s.parsed.header.ended) c.self.view_is ∙ c.requires.open) c.requires.line (nothing_before _ c.args.bytes.now empty) c.take_line_with_code.ensures.takes c.take_line_with_code.ensures.written)

pub returns-then-is_empty-clause-count : goal.returns-then-is_empty-clause-count
returns-then-is_empty-clause-count g c = rw (← c.self.view_is) (λ text st. ends_counts c.take_line_with_code.result _ text (g.W.Output.calls c.args.output.now) (g.W.Output.calls c.take_line_with_code.new.output) st (ap (λ s. s.parsed.header.ended) c.self.view_is ∙ c.requires.open) c.take_line_with_code.ensures.count)

pub returns-then-is_empty-clause-onward : goal.returns-then-is_empty-clause-onward
returns-then-is_empty-clause-onward g c =
    let empty : c.self.inside.rest.items ≡ [] = none_kept c.self.inside.rest.items _ _ c.if-is_empty.true c.is_empty.ensures c.self.inside.rest.ok.0 in
    rw (← c.self.view_is) (λ text st. ends_onward c.take_line_with_code.result _ c.take_line_with_code.new.parser c.self.inside.rest.items text c.args.bytes.now c.args.bytes.now st
    (ap (λ s. s.parsed.header.ended) c.self.view_is ∙ c.requires.open) (nothing_before _ c.args.bytes.now empty) c.take_line_with_code.ensures.takes)

pub returns-in_err-keep_rest-clause-fault : goal.returns-in_err-keep_rest-clause-fault
returns-in_err-keep_rest-clause-fault g c =
    let p = err_from_is_err_and c.from_residual.result c.from_residual.ensures.1 in
    rw (p.1, p.2) (λ text st. held_fault c.in_err-keep_rest.field-0.0 c.args.self.now text c.args.bytes.now (10 ∷ []) st c.requires.open c.requires.line c.in_err-keep_rest.ensures.fault)

pub returns-in_err-keep_rest-clause-written : goal.returns-in_err-keep_rest-clause-written
returns-in_err-keep_rest-clause-written g c =
    let p = err_from_is_err_and c.from_residual.result c.from_residual.ensures.1 in
    rw (p.1, p.2) (λ text st. held_written c.in_err-keep_rest.field-0.0 c.args.self.now text c.args.bytes.now (10 ∷ []) _ st c.requires.open c.requires.line c.in_err-keep_rest.ensures.fault)

pub returns-in_err-keep_rest-clause-count : goal.returns-in_err-keep_rest-clause-count
returns-in_err-keep_rest-clause-count g c =
    let p = err_from_is_err_and c.from_residual.result c.from_residual.ensures.1 in
    rw (p.1, p.2) (λ text st. held_counts c.in_err-keep_rest.field-0.0 _ _ (g.W.Output.calls c.args.output.now) c.in_err-keep_rest.ensures.fault)

pub returns-in_err-take_line-clause-fault : goal.returns-in_err-take_line-clause-fault
returns-in_err-take_line-clause-fault g c =
    let p = err_from_is_err_and c.from_residual-in_err-take_line.result c.from_residual-in_err-take_line.ensures.1 in
    let kept = c.self-2.view_is ∙ c.in_ok-keep_rest.ensures.kept in
    rw (p.1, p.2) (λ text st. ends_fault {T = Unit {0}} (Err c.in_err-take_line.field-0.0) c.args.self.now c.take_line.new.parser text c.args.bytes.now c.deref.result.now st c.requires.open c.requires.line
    (c.deref.ensures.value ∙ ap (λ s. s.rest) kept) (λ before sb. c.in_err-take_line.ensures.takes before (subst (λ s. StandsForLines format_limits s.parsed before) (sym kept) sb)))

pub returns-in_err-take_line-clause-written : goal.returns-in_err-take_line-clause-written
returns-in_err-take_line-clause-written g c =
    let p = err_from_is_err_and c.from_residual-in_err-take_line.result c.from_residual-in_err-take_line.ensures.1 in
    let kept = c.self-2.view_is ∙ c.in_ok-keep_rest.ensures.kept in
    rw (p.1, p.2) (λ text st. ends_written {T = Unit {0}} (Err c.in_err-take_line.field-0.0) c.args.self.now c.take_line.new.parser text c.args.bytes.now c.deref.result.now _ _ st c.requires.open c.requires.line
    (c.deref.ensures.value ∙ ap (λ s. s.rest) kept) (λ before sb. c.in_err-take_line.ensures.takes before (subst (λ s. StandsForLines format_limits s.parsed before) (sym kept) sb))
    (subst (λ s. WritesLine {T = Unit {0}} (g.W.Output.taken c.args.output.now) (g.W.Output.taken c.take_line.new.output) (Err c.in_err-take_line.field-0.0) s.echo c.deref.result.now) kept c.in_err-take_line.ensures.written))

pub returns-in_err-take_line-clause-count : goal.returns-in_err-take_line-clause-count
returns-in_err-take_line-clause-count g c =
    let p = err_from_is_err_and c.from_residual-in_err-take_line.result c.from_residual-in_err-take_line.ensures.1 in
    let kept = c.self-2.view_is ∙ c.in_ok-keep_rest.ensures.kept in
    rw (p.1, p.2) (λ text st. ends_counts {T = Unit {0}} (Err c.in_err-take_line.field-0.0) c.args.self.now text (g.W.Output.calls c.args.output.now) (g.W.Output.calls c.take_line.new.output) st c.requires.open
    (λ before sb. c.in_err-take_line.ensures.count before (subst (λ s. StandsForLines format_limits s.parsed before) (sym kept) sb)))

pub returns-clause-stands : goal.returns-clause-stands
returns-clause-stands g c =
    let kept = c.self-2.view_is ∙ c.in_ok-keep_rest.ensures.kept in
    λ text st. ends_stands {T = Unit {0}} (Ok tt) c.args.self.now _ text c.args.bytes.now c.deref.result.now st c.requires.open c.requires.line
    (c.deref.ensures.value ∙ ap (λ s. s.rest) kept) (λ before sb. c.in_ok-take_line.ensures.takes before (subst (λ s. StandsForLines format_limits s.parsed before) (sym kept) sb)) c.clear.ensures.items

pub returns-clause-written : goal.returns-clause-written
returns-clause-written g c =
    let kept = c.self-2.view_is ∙ c.in_ok-keep_rest.ensures.kept in
    λ text st. ends_written {T = Unit {0}} (Ok tt) c.args.self.now c.take_line.new.parser text c.args.bytes.now c.deref.result.now _ _ st c.requires.open c.requires.line
    (c.deref.ensures.value ∙ ap (λ s. s.rest) kept) (λ before sb. c.in_ok-take_line.ensures.takes before (subst (λ s. StandsForLines format_limits s.parsed before) (sym kept) sb))
    (subst (λ s. WritesLine {T = Unit {0}} (g.W.Output.taken c.args.output.now) (g.W.Output.taken c.take_line.new.output) (Ok tt) s.echo c.deref.result.now) kept c.in_ok-take_line.ensures.written)

pub returns-clause-count : goal.returns-clause-count
returns-clause-count g c =
    let kept = c.self-2.view_is ∙ c.in_ok-keep_rest.ensures.kept in
    λ text st. ends_counts {T = Unit {0}} (Ok tt) c.args.self.now text (g.W.Output.calls c.args.output.now) (g.W.Output.calls c.take_line.new.output) st c.requires.open
    (λ before sb. c.in_ok-take_line.ensures.count before (subst (λ s. StandsForLines format_limits s.parsed before) (sym kept) sb))

pub returns-clause-onward : goal.returns-clause-onward
returns-clause-onward g c =
    let kept = c.self-2.view_is ∙ c.in_ok-keep_rest.ensures.kept in
    λ text st. ends_onward {T = Unit {0}} (Ok tt) c.args.self.now c.take_line.new.parser c.clear.new.self.items text c.args.bytes.now c.deref.result.now st c.requires.open
    (c.deref.ensures.value ∙ ap (λ s. s.rest) kept) (λ before sb. c.in_ok-take_line.ensures.takes before (subst (λ s. StandsForLines format_limits s.parsed before) (sym kept) sb))
