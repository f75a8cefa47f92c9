use Rattle.covering.proofs.Lagrange.{lagrangian_holds}
use Rattle.covering.proofs.laws.weights_bound_covers.Goals as goal

pub returns : goal.returns
returns c = lagrangian_holds
