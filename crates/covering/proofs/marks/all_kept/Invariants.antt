use Rattle.std.proofs.Common.{◌≡◌, take, true}
use Rattle.std.specs.List.{list_all}
use Rattle.covering.specs.Search.{marked}
use Rattle.covering.proofs.marks.all_kept.Given as goal

abbrev pub invariant-loop-column : goal.invariant-loop-column
invariant-loop-column l = list_all (marked l.keep) (take l.column-index l.row) ≡ true
