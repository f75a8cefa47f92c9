use Rattle.cube.proofs.LiteralMarks.{order_key_of_32_inputs-digits}
use Rattle.cube.proofs.cube.Cube.order_key_of_32_inputs.Goals as goal

pub returns : goal.returns
returns c =
    order_key_of_32_inputs-digits c.args.self.now c.literal_bits.result c.reversal.result (record {
      zeros = c.literal_bits.ensures.zeros;
      ones = c.literal_bits.ensures.ones;
    }) c.reversal.ensures
