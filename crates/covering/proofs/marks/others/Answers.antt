use Rattle.std.proofs.Common.{not, false, arith}
use Rattle.std.proofs.lemmas.List.FromFn.{fill_by_all}
use Rattle.covering.specs.Search.{marked}
use Rattle.covering.proofs.marks.others.Goals as goal

pub returns : goal.returns
returns c = fill_by_all (λ k. not (marked c.args.marks.now k)) c.loop-c.others.items c.args.end false c.loop-c.invariant.long (λ k h. c.loop-c.invariant.done k (omega arith))
