use Rattle.std.proofs.Common.{arith}
use Rattle.cube.proofs.PackingLemmas.{IsOutputWord-from_loop}
use Rattle.cube.proofs.pack.output_word.Goals as goal

pub returns : goal.returns
returns c =
    IsOutputWord-from_loop c.args.outputs.now c.args.w c.loop-k.k c.loop-k.word c.loop-k.invariant.done
    c.loop-k.invariant.clear (λ k lt after. omega arith)
