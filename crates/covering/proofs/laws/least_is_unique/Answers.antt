use Rattle.covering.proofs.Order.{IsLeast-unique}
use Rattle.covering.proofs.laws.least_is_unique.Goals as goal

pub returns : goal.returns
returns c = IsLeast-unique
