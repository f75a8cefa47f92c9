use Rattle.covering.proofs.Sets.{first_by_sets}
use Rattle.covering.proofs.laws.least_difference_decides.Goals as goal

pub returns : goal.returns
returns c number s x = first_by_sets number 0 s x
