use Rattle.std.proofs.Common.{◌≡◌, ◌++◌, map, take, drop, if◌then◌else◌}
use Rattle.cube.proofs.cube.Cube.put_outputs.Given as goal

abbrev pub invariant-loop-j : goal.invariant-loop-j
invariant-loop-j l = l.row ≡ map (λ b. if b then l.present else l.absent) (take l.j l.self.outputs) ++ drop l.j l.fn.row
