use Rattle.cube.proofs.RestLemmas.{more_outputs}
use Rattle.cube.proofs.cube.Cube.has_outputs_beyond.Goals as goal

pub returns : goal.returns
returns c =
    more_outputs c.args.self.now c.args.other.now c.requires _ _ c.output_part-2.ensures.packs c.output_part.ensures.packs c.covers_word_by_word.result
    c.covers_word_by_word.ensures
