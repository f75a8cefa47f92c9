use Rattle.cube.proofs.LiteralMarks.{literal_inputs-set}
use Rattle.cube.proofs.cube.Cube.literal_inputs.Goals as goal

pub returns : goal.returns
returns c =
    literal_inputs-set c.args.self.now c.args.w c.literal_bits-word.result (record {
      zeros = c.literal_bits-word.ensures.zeros;
      ones = c.literal_bits-word.ensures.ones;
    }) c.even_bits.result c.even_bits.ensures.odd c.even_bits.ensures.even
