use Rattle.std.proofs.Common.{◌+◌, ◌*◌, length, arith}
use Rattle.std.proofs.lemmas.List.FromFn.{fill_by_all}
use Rattle.covering.specs.Cover.{counted}
use Rattle.covering.proofs.bound.scaled_costs.Goals as goal

pub returns : goal.returns
returns c = fill_by_all (λ k. c.args.one + c.args.each * counted c.args.choice c.args.literals.now k) c.loop-column.costs.items (length c.args.literals.now) 0 c.loop-column.invariant.long (λ k h. c.loop-column.invariant.done k (omega arith))
