use Rattle.std.proofs.Common.{◌≡◌, ◌≤◌, ◌++◌, take, drop, length}
use Rattle.covering.specs.Table.{items_of}
use Rattle.covering.specs.Search.{marked}
use Rattle.covering.specs.Reduce.{rows_from}
use Rattle.covering.proofs.marks.retain_marked_rows.Given as goal

abbrev pub invariant-loop-i : goal.invariant-loop-i
invariant-loop-i l = record {
  all : items_of (take l.kept l.rows.items) ++ rows_from (marked l.stay) l.i (items_of (drop l.i l.rows.items)) ≡ rows_from (marked l.stay) 0 (items_of l.fn.rows.items);
  kept : l.kept ≤ l.i;
  long : length l.rows.items ≡ length l.fn.rows.items;
}
