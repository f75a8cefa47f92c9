use Rattle.std.proofs.Common.{◌-◌, nat_le, length, false, arith}
use Rattle.std.proofs.lemmas.List.FromFn.{fill_by_all}
use Rattle.covering.specs.Weights.{at}
use Rattle.covering.proofs.bound.columns_within_gap.Goals as goal

pub returns : goal.returns
returns c = fill_by_all (λ k. nat_le (at c.args.scaled_costs.now k - at c.args.loads.now k) c.args.gap) c.loop-column.keep.items (length c.args.scaled_costs.now) false c.loop-column.invariant.long (λ k h. c.loop-column.invariant.done k (omega arith))
