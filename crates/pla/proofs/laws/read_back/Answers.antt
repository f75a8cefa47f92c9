use Rattle.pla.proofs.ReadBack.{texts_are_read_back}
use Rattle.pla.proofs.laws.read_back.Goals as goal

pub returns : goal.returns
returns c = texts_are_read_back
