use Rattle.std.proofs.Common.{◌∷◌, flat_map, take}
use Rattle.pla.specs.Device.{PutsOn, CountsOn}
use Rattle.pla.specs.Names.{name_bytes}
use Rattle.pla.proofs.text.write_each_name.Given as goal

abbrev pub invariant-loop-name : goal.invariant-loop-name
invariant-loop-name g l = record {
  bytes : PutsOn (g.W.Output.taken l.fn.out) l.fn.buffer l.fn.done (g.W.Output.taken l.out) l.buffer l.done (flat_map (λ name. 32 ∷ name) (name_bytes (take l.name-index l.names)));
  count : CountsOn (g.W.Output.calls l.fn.out) l.fn.done (g.W.Output.calls l.out) l.done;
}
