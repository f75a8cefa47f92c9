use Rattle.std.proofs.Common.{length}
use Rattle.pla.proofs.PieceLaws.{Fed}
use Rattle.pla.proofs.scan.Scan.feed.Given as goal

abbrev pub invariant-loop-rest : goal.invariant-loop-rest
invariant-loop-rest g l = Fed l.fn.self l.self l.fn.piece l.rest (g.W.Output.taken l.fn.output) (g.W.Output.taken l.output) (g.W.Output.calls l.fn.output) (g.W.Output.calls l.output)

abbrev pub decreases-loop-rest : goal.decreases-loop-rest
decreases-loop-rest g l = length l.rest
