use Rattle.std.proofs.Common.{◌≡◌, take, false}
use Rattle.std.specs.List.{list_any}
use Rattle.covering.specs.Cover.{counted}
use Rattle.covering.specs.Table.{items_of}
use Rattle.covering.specs.Reduce.{is_preferred, dominates}
use Rattle.covering.proofs.column_dominance.any_dominates.Given as goal

abbrev pub invariant-loop-b : goal.invariant-loop-b
invariant-loop-b l = list_any (dominates (is_preferred l.preference (counted l.choice l.literals)) (items_of l.transpose) l.keep l.a) (take l.b-index l.among) ≡ false
