use Rattle.std.proofs.Common.{◌++◌, None}
use Rattle.cube.specs.Limits.{format_limits}
use Rattle.pla.specs.Echoes.{due}
use Rattle.pla.proofs.WithFlush.{flushed_growth}
use Rattle.pla.proofs.reading.feed.Goals as goal

pub returns-clause-written : goal.returns-clause-written
returns-clause-written g c = λ text st.
    let before = due format_limits c.args.scan.echo None text in
    let now = due format_limits c.args.scan.echo None (text ++ c.args.piece.now) in
    rw c.result_after_flush.ensures (flushed_growth (g.W.Output.taken c.args.output.now) (g.W.Output.taken c.flush_to-flushed.new.output) _ _ before now c.feed-fed.result c.flush_to-flushed.result
    c.requires (c.feed-fed.ensures.written text st) c.flush_to-flushed.ensures.bytes)
