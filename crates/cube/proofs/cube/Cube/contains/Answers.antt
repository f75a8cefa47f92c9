use Rattle.cube.proofs.ContainsLemmas.{contains-from_words}
use Rattle.cube.proofs.cube.Cube.contains.Goals as goal

pub returns : goal.returns
returns c =
    contains-from_words _ _ _ _ _ c.requires c.words.ensures.packs c.words-2.ensures.packs c.words-2.ensures.some_output
    c.covers_by_lanes.ensures
