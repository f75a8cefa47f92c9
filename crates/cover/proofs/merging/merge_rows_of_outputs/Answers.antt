use Rattle.std.proofs.Common.{arith}
use Rattle.rows.specs.Places.{places}
use Rattle.cover.proofs.MergedOutputs.{AreBelow-all}
use Rattle.cover.proofs.merging.merge_rows_of_outputs.Goals as goal

pub returns : goal.returns
returns c =
    let rows = c.loop-j.all.rows in record {
      size = c.loop-j.invariant.0;
      places = AreBelow-all c.shape-2.result c.args.list.now.cubes c.shape-2.ensures.cubes c.loop-j.j (places rows.cubes) (omega (arith, c.outputs-j-end.ensures.value)) c.loop-j.invariant.1;
      no_more = omega (arith, c.len-2.ensures, c.len-3.ensures);
    }
