use Rattle.std.proofs.Common.{eq-eqb}
use Rattle.std.proofs.lemmas.Bool.{eqb-true}
use Rattle.cube.proofs.WordLemmas.{pairs_from_test, test_from_pairs}
use Rattle.cube.proofs.lanes.has_no_empty_pair.Goals as goal

pub returns : goal.returns
returns c = (λ t. pairs_from_test c.args.word (eqb-true _ _ t), λ h. eq-eqb _ _ (test_from_pairs c.args.word h))
