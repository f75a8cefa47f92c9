use Rattle.minimum.proofs.PointTables.{points_are_enough}
use Rattle.minimum.proofs.laws.points_are_enough.Goals as goal

pub returns : goal.returns
returns c = points_are_enough
