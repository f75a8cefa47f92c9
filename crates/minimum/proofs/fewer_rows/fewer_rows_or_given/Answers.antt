use Rattle.minimum.proofs.SamePlaces.{same_alone}
use Rattle.minimum.proofs.fewer_rows.fewer_rows_or_given.Goals as goal

pub returns-in-None : goal.returns-in-None
returns-in-None c = same_alone c.args.given.now
