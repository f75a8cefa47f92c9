use Rattle.std.specs.List.{All}
use Rattle.cube.specs.Cube.{size_of}
use Rattle.growth.specs.Dominating.{IsAgainst}
use Rattle.growth.proofs.columns.rows_around.cubes_against.Given as goal

abbrev pub invariant-loop-j : goal.invariant-loop-j
invariant-loop-j l = All (IsAgainst (size_of l.point) l.point) l.cubes.items
