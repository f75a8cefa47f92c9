use Rattle.cube.proofs.SharpLemmas.{same_from_places}
use Rattle.cube.proofs.laws.same_places_same_cube.Goals as goal

pub returns : goal.returns
returns c = same_from_places
