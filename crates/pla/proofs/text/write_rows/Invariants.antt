use Rattle.std.proofs.Common.{flat_map, take}
use Rattle.pla.specs.Device.{PutsOn, CountsOn}
use Rattle.pla.specs.Text.{row_text}
use Rattle.pla.proofs.text.write_rows.Given as goal

abbrev pub invariant-loop-cube : goal.invariant-loop-cube
invariant-loop-cube g l = record {
  bytes : PutsOn (g.W.Output.taken l.fn.out) l.fn.buffer l.fn.done (g.W.Output.taken l.out) l.buffer l.done (flat_map (row_text l.mark l.other) (take l.cube-index l.cube-items));
  count : CountsOn (g.W.Output.calls l.fn.out) l.fn.done (g.W.Output.calls l.out) l.done;
}
