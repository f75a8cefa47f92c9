use Rattle.std.proofs.Common.{◌≡◌, [], length}
use Rattle.pla.specs.Steps.{room_in}
use Rattle.pla.proofs.ReadLaws.{ReadsOn}
use Rattle.pla.proofs.reading.read_pla.Given as goal

abbrev pub invariant-loop-buffer : goal.invariant-loop-buffer
invariant-loop-buffer g l = record {
  on : ReadsOn l.fn.echo l.scan (g.R.Input.left l.fn.input) (g.R.Input.left l.input) (g.R.Input.calls l.fn.input) (g.R.Input.calls l.input)
      (g.W.Output.taken l.fn.output) (g.W.Output.taken l.output) (g.W.Output.calls l.fn.output) (g.W.Output.calls l.output);
  size : length l.buffer ≡ 4096;
  empty : l.echoes.bytes.items ≡ [];
}

abbrev pub decreases-loop-buffer : goal.decreases-loop-buffer
decreases-loop-buffer g l = room_in l.scan
