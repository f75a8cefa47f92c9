use Rattle.std.proofs.Common.{arith}
use Rattle.cube.proofs.WordLemmas.{IsFirstClear-from_word}
use Rattle.cube.proofs.words.first_clear.Goals as goal

pub returns-then-clear-ne0-clause-found : goal.returns-then-clear-ne0-clause-found
returns-then-clear-ne0-clause-found c =
    IsFirstClear-from_word c.args.words.now c.args.from c.loop-w.w c.saturating_sub.result c.clear_from-clear.result (omega arith)
    c.clear_from-clear.ensures.from_on c.clear_from-clear.ensures.before c.loop-w.invariant.set
    (omega arith) (omega arith) c.if-clear-ne0.true
