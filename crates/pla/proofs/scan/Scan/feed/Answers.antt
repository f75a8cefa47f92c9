use Rattle.std.proofs.Common.{◌++◌, ◌∷◌, [], ◌+◌, take, drop, append-nil, sym, ◌∙◌, subst}
use Rattle.std.proofs.lemmas.Result.{err_from_is_err_and}
use Rattle.pla.proofs.Moves.{drop_is}
use Rattle.pla.proofs.Feeding.{held_fault, held_written, held_counts}
use Rattle.pla.proofs.PieceLaws.{Fed, fed_nothing, fed_line, fed_fault, fed_written, fed_count, fed_rest, fed_ended, line_and_rest}
use Rattle.pla.proofs.scan.Scan.feed.Goals as goal

pub loop-rest-init : goal.loop-rest-init
loop-rest-init g c = fed_nothing c.args.self c.args.piece.now _ _

pub loop-rest-preserved : goal.loop-rest-preserved
loop-rest-preserved g c =
    let rest = c.loop-rest.rest.now in
    let end = c.in-Some.end.line in
    let e = c.in_ok-end_line-in-Some.ensures in
    subst (λ r. Fed c.args.self c.end_line.new.self c.args.piece.now r (g.W.Output.taken c.args.output.now) (g.W.Output.taken c.end_line.new.output) (g.W.Output.calls c.args.output.now) (g.W.Output.calls c.end_line.new.output)) (drop_is (end + 1) rest)
    (fed_line c.args.self c.loop-rest.self c.end_line.new.self c.args.piece.now rest (take end rest) (drop (end + 1) rest) _ (g.W.Output.taken c.loop-rest.output) _ _ (g.W.Output.calls c.loop-rest.output) _
    c.loop-rest.invariant (sym c.done.ensures ∙ c.loop-rest-test.true) c.in-Some.ensures.2 e.echo e.stands e.written e.count e.onward)

pub returns-in_err-end_line-in-Some-clause-fault : goal.returns-in_err-end_line-in-Some-clause-fault
returns-in_err-end_line-in-Some-clause-fault g c =
    let rest = c.loop-rest.rest.now in
    let end = c.in-Some.end.line in
    let e = c.in_err-end_line-in-Some.ensures in
    let p = err_from_is_err_and c.from_residual.result c.from_residual.ensures.1 in
    rw (p.1, p.2) (λ text st. fed_fault c.in_err-end_line-in-Some.field-0.0 c.args.self c.loop-rest.self c.args.piece.now rest (take end rest ++ 10 ∷ []) (drop (end + 1) rest) _ _ _ _ text c.loop-rest.invariant
    (c.in-Some.ensures.2 ∙ line_and_rest [] (take end rest) (drop (end + 1) rest)) st e.fault)

pub returns-in_err-end_line-in-Some-clause-written : goal.returns-in_err-end_line-in-Some-clause-written
returns-in_err-end_line-in-Some-clause-written g c =
    let rest = c.loop-rest.rest.now in
    let end = c.in-Some.end.line in
    let e = c.in_err-end_line-in-Some.ensures in
    let p = err_from_is_err_and c.from_residual.result c.from_residual.ensures.1 in
    rw (p.1, p.2) (λ text st. fed_written c.in_err-end_line-in-Some.field-0.0 c.args.self c.loop-rest.self c.args.piece.now rest (take end rest ++ 10 ∷ []) (drop (end + 1) rest) _ _ (g.W.Output.taken c.end_line.new.output) _ _ text c.loop-rest.invariant
    (c.in-Some.ensures.2 ∙ line_and_rest [] (take end rest) (drop (end + 1) rest)) st e.fault e.written)

pub returns-in_err-end_line-in-Some-clause-count : goal.returns-in_err-end_line-in-Some-clause-count
returns-in_err-end_line-in-Some-clause-count g c =
    let e = c.in_err-end_line-in-Some.ensures in
    let p = err_from_is_err_and c.from_residual.result c.from_residual.ensures.1 in
    rw (p.1, p.2) (λ text st. fed_count c.in_err-end_line-in-Some.field-0.0 c.args.self c.loop-rest.self c.args.piece.now c.loop-rest.rest.now _ _ (g.W.Output.calls c.args.output.now) (g.W.Output.calls c.loop-rest.output) (g.W.Output.calls c.end_line.new.output) text c.loop-rest.invariant st e.count)

pub returns-in_err-keep_rest-in-None-clause-fault : goal.returns-in_err-keep_rest-in-None-clause-fault
returns-in_err-keep_rest-in-None-clause-fault g c =
    let rest = c.loop-rest.rest.now in
    let p = err_from_is_err_and c.from_residual-in_err-keep_rest-in-None.result c.from_residual-in_err-keep_rest-in-None.ensures.1 in
    rw (p.1, p.2) (λ text st. fed_fault c.in_err-keep_rest-in-None.field-0.0 c.args.self c.loop-rest.self c.args.piece.now rest (rest ++ []) [] _ _ _ _ text c.loop-rest.invariant
    (sym (append-nil rest) ∙ sym (append-nil (rest ++ []))) st
    (λ t s. held_fault c.in_err-keep_rest-in-None.field-0.0 c.loop-rest.self t rest [] s (sym c.done.ensures ∙ c.loop-rest-test.true) c.in-None.ensures c.in_err-keep_rest-in-None.ensures.fault))

pub returns-in_err-keep_rest-in-None-clause-written : goal.returns-in_err-keep_rest-in-None-clause-written
returns-in_err-keep_rest-in-None-clause-written g c =
    let rest = c.loop-rest.rest.now in
    let p = err_from_is_err_and c.from_residual-in_err-keep_rest-in-None.result c.from_residual-in_err-keep_rest-in-None.ensures.1 in
    rw (p.1, p.2) (λ text st. fed_written c.in_err-keep_rest-in-None.field-0.0 c.args.self c.loop-rest.self c.args.piece.now rest (rest ++ []) [] _ _ (g.W.Output.taken c.loop-rest.output) _ _ text c.loop-rest.invariant
    (sym (append-nil rest) ∙ sym (append-nil (rest ++ []))) st
    (λ t s. held_fault c.in_err-keep_rest-in-None.field-0.0 c.loop-rest.self t rest [] s (sym c.done.ensures ∙ c.loop-rest-test.true) c.in-None.ensures c.in_err-keep_rest-in-None.ensures.fault)
    (λ t s. held_written c.in_err-keep_rest-in-None.field-0.0 c.loop-rest.self t rest [] (g.W.Output.taken c.loop-rest.output) s (sym c.done.ensures ∙ c.loop-rest-test.true) c.in-None.ensures c.in_err-keep_rest-in-None.ensures.fault))

pub returns-in_err-keep_rest-in-None-clause-count : goal.returns-in_err-keep_rest-in-None-clause-count
returns-in_err-keep_rest-in-None-clause-count g c =
    let p = err_from_is_err_and c.from_residual-in_err-keep_rest-in-None.result c.from_residual-in_err-keep_rest-in-None.ensures.1 in
    rw (p.1, p.2) (λ text st. fed_count c.in_err-keep_rest-in-None.field-0.0 c.args.self c.loop-rest.self c.args.piece.now c.loop-rest.rest.now _ _ (g.W.Output.calls c.args.output.now) (g.W.Output.calls c.loop-rest.output) (g.W.Output.calls c.loop-rest.output) text c.loop-rest.invariant st
    (λ t s. held_counts c.in_err-keep_rest-in-None.field-0.0 _ _ (g.W.Output.calls c.loop-rest.output) c.in_err-keep_rest-in-None.ensures.fault))

pub returns-in-None : goal.returns-in-None
returns-in-None g c =
    let fed = fed_rest c.args.self c.loop-rest.self c.keep_rest.new.self c.args.piece.now c.loop-rest.rest.now _ _ _ _ c.loop-rest.invariant (sym c.done.ensures ∙ c.loop-rest-test.true) c.in-None.ensures c.in_ok-keep_rest-in-None.ensures.kept c.in_ok-keep_rest-in-None.ensures.fits in
    record { echo = fed.echo; stands = fed.stands; fault = λ text st. tt; written = fed.written; count = fed.count; onward = fed.onward }

pub returns : goal.returns
returns g c =
    let fed = fed_ended c.args.self c.loop-rest.self c.args.piece.now c.loop-rest.rest.now _ _ _ _ c.loop-rest.invariant (sym c.done.ensures ∙ c.loop-rest-test.false) in
    record { echo = fed.echo; stands = fed.stands; fault = λ text st. tt; written = fed.written; count = fed.count; onward = fed.onward }
