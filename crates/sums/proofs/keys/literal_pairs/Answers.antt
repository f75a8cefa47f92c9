use Rattle.sums.proofs.SumKeys.{literal_pairs-key}
use Rattle.sums.proofs.keys.literal_pairs.Goals as goal

pub returns : goal.returns
returns c = λ row. literal_pairs-key row c.args.literals
