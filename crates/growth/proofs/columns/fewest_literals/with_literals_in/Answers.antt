use Rattle.std.proofs.Common.{◌<◌, inr, ap, arith}
use Rattle.growth.proofs.FirstPrimes.{freed_grows_all}
use Rattle.growth.proofs.columns.fewest_literals.with_literals_in.Goals as goal

pub loop-i-preserved : goal.loop-i-preserved
loop-i-preserved c =
    let size = c.args.off.now.size in
    let h = c.loop-i.invariant in
    let lt : c.loop-i.i < size.inputs = omega (arith, c.loop-i-test.true, c.inputs-i-end.ensures.value, ap (λ z. z.inputs) c.shape.ensures.size) in
    let grows = freed_grows_all size c.loop-i.freed c.set_symbol.new.self c.loop-i.i h.cube lt (inr c.set_symbol.ensures) in
    record {
      cube = grows.is_cube;
      over = λ p k. grows.over p (h.over p k);
    }
