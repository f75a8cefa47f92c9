use Rattle.std.proofs.Common.{arith, get_or}
use Rattle.cube.proofs.PackingLemmas.{each_pushed}
use Rattle.cube.proofs.words.zip_words.Goals as goal

pub loop-k-preserved : goal.loop-k-preserved
loop-k-preserved g c =
    let added = c.push_reserved-in-loop-k.ensures in
    let pushed = each_pushed (λ j r. g.F.Fn.post c.args.op (j, (get_or c.args.a.now j 0, (get_or c.args.b.now j 0, tt))) r) c.loop-k.words.items c.push_reserved-in-loop-k.new.self.items
    c.op-in-loop-k.result c.loop-k.k c.loop-k.invariant.len added.items c.loop-k.invariant.done c.op-in-loop-k.ensures in
    record { room = omega (arith, c.loop-k.invariant.room, added.capacity); len = pushed.0; done = pushed.1 }
