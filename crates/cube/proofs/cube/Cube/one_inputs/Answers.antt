use Rattle.cube.proofs.LiteralMarks.{one_inputs-set}
use Rattle.cube.proofs.cube.Cube.one_inputs.Goals as goal

pub returns : goal.returns
returns c =
    one_inputs-set c.args.self.now c.args.w c.literal_bits.result (record {
      zeros = c.literal_bits.ensures.zeros;
      ones = c.literal_bits.ensures.ones;
    }) c.even_bits.result c.even_bits.ensures.odd c.even_bits.ensures.even
