use Rattle.std.proofs.Common.{arith}
use Rattle.covering.proofs.TransposeSteps.{appends_set, appends_none, length_items}
use Rattle.covering.proofs.transpose.append.Goals as goal

pub returns-in_ok-push : goal.returns-in_ok-push
returns-in_ok-push c = appends_set c.args.lists.now.items c.args.place c.args.number c.push.new.self c.index_mut.result.now (omega (arith, c.len.ensures, c.if-place-len.true, c.args.lists.now.ok)) c.index_mut.ensures.value c.in_ok-push.ensures.items

pub returns-else-place-len : goal.returns-else-place-len
returns-else-place-len c = appends_none _ c.args.place c.args.number (omega (arith, c.len.ensures, c.if-place-len.false, c.args.lists.now.ok, length_items c.args.lists.now.items))
