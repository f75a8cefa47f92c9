use Rattle.std.proofs.Common.{ap, subst, arith, length}
use Rattle.std.proofs.lemmas.List.{take_all}
use Rattle.sums.specs.Keys.{HasLiteralsAt, IsKey, HasKeys}
use Rattle.sums.proofs.SumKeys.{HasKeys-none, HasKeys-more}
use Rattle.sums.proofs.keys.keys_of.Goals as goal

pub loop-row-init : goal.loop-row-init
loop-row-init c = record {
  keys = HasKeys-none c.args.inputs c.args.rows.now c.in_ok-keys.keys.items c.in_ok-keys.ensures.items;
  last = λ j lt. absurd (omega (arith, lt, ap length c.in_ok-keys.ensures.items));
}

pub loop-row-preserved : goal.loop-row-preserved
loop-row-preserved c =
    let own : IsKey c.args.inputs c.row-item.result c.order_key_of_32_inputs-key.result = record {
      literals = subst (λ n. HasLiteralsAt n c.row-item.result) c.if-literal_pairs-inputs.false (c.literal_pairs.ensures c.row-item.result c.order_key_of_32_inputs-key.ensures);
      key = c.order_key_of_32_inputs-key.ensures;
      fits = omega arith;
    } in
    let more = HasKeys-more c.args.inputs c.args.rows.now c.loop-row.row-index c.row-item.result c.loop-row.keys.items c.loop-row.last c.order_key_of_32_inputs-key.result
    c.loop-row-test.true c.row-item.is c.loop-row.invariant.keys c.loop-row.invariant.last (omega (arith, c.if-key-last.false)) own
    c.push.new.self.items c.in_ok-push.ensures.items in
    record { keys = more.0; last = more.1 }

pub returns : goal.returns
returns c = subst (λ l. HasKeys c.args.inputs l c.loop-row.keys.items) (take_all c.loop-row.row-index c.args.rows.now (omega arith)) c.loop-row.invariant.keys
