use Rattle.rows.proofs.Everywhere.{same_test, is_subset-iff}
use Rattle.std.proofs.Common.{refl}
use Rattle.cube.specs.Cube.{holds, size_of}
use Rattle.sums.proofs.containing.contains.Goals as goal

pub returns : goal.returns
returns c = same_test c.contains.result _ c.contains.ensures (is_subset-iff (size_of c.args.region.now) c.args.region.now (holds c.args.cube.now) (refl, refl))
