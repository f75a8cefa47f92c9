use Rattle.pla.proofs.Readable.{faultless_are_readable, echoes_are_read_back}
use Rattle.pla.proofs.laws.echo_read_back.Goals as goal

pub returns-clause-readable : goal.returns-clause-readable
returns-clause-readable c = faultless_are_readable

pub returns-clause-again : goal.returns-clause-again
returns-clause-again c = echoes_are_read_back
