use Rattle.cube.proofs.OrderLemmas.{same_rows-iff}
use Rattle.cube.proofs.cube.Cube.is_equal.Goals as goal

pub returns : goal.returns
returns c =
    same_rows-iff _ _ (c.has_shape_of.ensures.0 c.if-not-has_shape_of.false) _ _ c.words.ensures.packs c.words-2.ensures.packs
    _ _ c.is_none.ensures c.first_difference.ensures.found c.first_difference.ensures.none
