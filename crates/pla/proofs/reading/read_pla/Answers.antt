use Rattle.std.proofs.Common.{◌≡◌, ◌<◌, ◌≤◌, ℕ, length, take, ap, arith, sym, ◌∙◌}
use Rattle.std.proofs.lemmas.Result.{err_from_is_err_and}
use Rattle.std.proofs.lemmas.List.{length-take-le, length-replicate}
use Rattle.pla.proofs.ReadLaws.{reads_nothing, reads_piece, room_falls, piece_short, reads_ending, reads_done, reads_fault, keeps_consumes, end_consumes, piece_room, failed_count}
use Rattle.pla.specs.declared.ending.Ending.TheVariants.{End, Failed}
use Rattle.pla.proofs.reading.read_pla.Goals as goal

pub loop-buffer-init : goal.loop-buffer-init
loop-buffer-init g c = record { on = reads_nothing c.args.echo c.new-scan.result _ _ _ _ c.new-scan.ensures.stands c.new-scan.ensures.echo; size = length-replicate {A = ℕ} 4096 0; empty = c.new-echoes.ensures }

pub loop-buffer-preserved : goal.loop-buffer-preserved
loop-buffer-preserved g c =
    let e = c.in_ok-scan-in-Ok.ensures in
    let size : length c.read.new.buffer ≡ 4096 = c.read.auto.buffer ∙ c.loop-buffer.invariant.size in
    let short : length (take c.in-Ok.count c.read.new.buffer) ≤ 4096 = piece_short c.in-Ok.count c.read.new.buffer c.in-Ok.ensures.bound size in
    record {
      on = reads_piece c.args.echo c.loop-buffer.scan c.in_ok-scan-in-Ok.scan _ (g.R.Input.left c.loop-buffer.input) _ _ (g.R.Input.calls c.loop-buffer.input) _ _ (g.W.Output.taken c.loop-buffer.output) _ _ (g.W.Output.calls c.loop-buffer.output) _ (take c.in-Ok.count c.read.new.buffer)
          c.loop-buffer.invariant.on (sym c.done.ensures ∙ c.loop-buffer-test.true) c.in-Ok.ensures.bytes.0 (ap (λ calls. calls.failures) c.in-Ok.ensures.count) short e.echo e.stands e.written (λ text st. e.count);
      size = size;
      empty = e.empty;
    }

pub loop-buffer-smaller : goal.loop-buffer-smaller
loop-buffer-smaller g c =
    let on = c.loop-buffer.invariant.on in
    let some : 0 < length (take c.in-Ok.count c.read.new.buffer) = omega (arith, length-take-le c.in-Ok.count c.read.new.buffer c.in-Ok.ensures.bound, c.in-Ok.count-test) in
    room_falls c.loop-buffer.scan c.in_ok-scan-in-Ok.scan on.bytes (take c.in-Ok.count c.read.new.buffer) on.stands (sym c.done.ensures ∙ c.loop-buffer-test.true) some c.in_ok-scan-in-Ok.ensures.onward

pub returns-in-Ok-eq0 : goal.returns-in-Ok-eq0
returns-in-Ok-eq0 g c =
    let e = c.finish.ensures in
    let r = c.in-Ok-eq0.ensures in
    let size : length c.read.new.buffer ≡ 4096 = c.read.auto.buffer ∙ c.loop-buffer.invariant.size in
    reads_ending c.args.echo c.loop-buffer.scan _ (g.R.Input.left c.loop-buffer.input) _ _ (g.R.Input.calls c.loop-buffer.input) _ _ (g.W.Output.taken c.loop-buffer.output) _ _ (g.W.Output.calls c.loop-buffer.output) _ c.finish.result End
    c.loop-buffer.invariant.on (sym c.done.ensures ∙ c.loop-buffer-test.true) (end_consumes _ _ c.in-Ok-eq0.field-0 c.read.new.buffer c.in-Ok-eq0.field-0-test r.bytes.0) (λ same. (ap (λ calls. calls.failures) r.count ∙ same, r.bytes.1 c.in-Ok-eq0.field-0-test (piece_room c.read.new.buffer size))) e.answer e.written (λ text st. e.count)

pub returns-in-Err : goal.returns-in-Err
returns-in-Err g c =
    let e = c.finish-in-Err.ensures in
    let r = c.in-Err.ensures in
    reads_ending c.args.echo c.loop-buffer.scan _ (g.R.Input.left c.loop-buffer.input) _ _ (g.R.Input.calls c.loop-buffer.input) _ _ (g.W.Output.taken c.loop-buffer.output) _ _ (g.W.Output.calls c.loop-buffer.output) _ c.finish-in-Err.result Failed
    c.loop-buffer.invariant.on (sym c.done.ensures ∙ c.loop-buffer-test.true) (keeps_consumes _ _ r.bytes) (λ same. failed_count (g.R.Input.calls c.args.input.now) (g.R.Input.calls c.loop-buffer.input) _ same r.count) e.answer e.written (λ text st. e.count)

pub returns : goal.returns
returns g c =
    let e = c.finish-2.ensures in
    reads_done c.args.echo c.loop-buffer.scan _ _ _ _ _ (g.W.Output.taken c.loop-buffer.output) _ _ (g.W.Output.calls c.loop-buffer.output) _ c.finish-2.result
    c.loop-buffer.invariant.on (sym c.done.ensures ∙ c.loop-buffer-test.false) e.answer e.written (λ text st. e.count)

pub returns-in_err-scan-in-Ok : goal.returns-in_err-scan-in-Ok
returns-in_err-scan-in-Ok g c =
    let e = c.in_err-scan-in-Ok.ensures in
    let p = err_from_is_err_and c.from_residual.result c.from_residual.ensures.1 in
    let size : length c.read.new.buffer ≡ 4096 = c.read.auto.buffer ∙ c.loop-buffer.invariant.size in
    rw (p.1, p.2) (reads_fault c.args.echo c.loop-buffer.scan _ (g.R.Input.left c.loop-buffer.input) _ _ (g.R.Input.calls c.loop-buffer.input) _ _ (g.W.Output.taken c.loop-buffer.output) _ _ (g.W.Output.calls c.loop-buffer.output) _ (take c.in-Ok.count c.read.new.buffer) c.in_err-scan-in-Ok.field-0.0
    c.loop-buffer.invariant.on (sym c.done.ensures ∙ c.loop-buffer-test.true) c.in-Ok.ensures.bytes.0 (ap (λ calls. calls.failures) c.in-Ok.ensures.count) (piece_short c.in-Ok.count c.read.new.buffer c.in-Ok.ensures.bound size) e.fault e.written (λ text st. e.count))
