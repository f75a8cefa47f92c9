use Rattle.std.proofs.Common.{subst}
use Rattle.rows.specs.Cubes.{AreCubes}
use Rattle.lower_tests.proofs.row_calls.meets_of_pairs.Goals as goal

pub meets_by_pairs-requires : goal.meets_by_pairs-requires
meets_by_pairs-requires c = record {
  size = c.args.list.now.size;
  are_cubes = c.as_slice-mine.ensures.cubes;
  are_others = subst (λ size. AreCubes size c.as_slice-theirs.result.now) c.requires c.as_slice-theirs.ensures.cubes;
}
