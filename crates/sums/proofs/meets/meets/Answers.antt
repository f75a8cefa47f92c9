use Rattle.std.proofs.Common.{IfSome, sym, subst}
use Rattle.std.proofs.lemmas.Result.{IfOk-weaker}
use Rattle.sums.specs.Keys.{HasKeys}
use Rattle.sums.proofs.meets.meets.Goals as goal

pub meets_by_keys-requires-clause-keys : goal.meets_by_keys-requires-clause-keys
meets_by_keys-requires-clause-keys c =
    let inputs = c.match-first.inputs in
    let rows = c.args.rows.now in
    let others = c.args.others.now in
    let own = subst (λ o. IfSome o (λ keys. HasKeys inputs rows keys.items)) c.in-Some-2.is c.in_ok-keys.ensures in
    let other = subst (λ o. IfSome o (λ keys. HasKeys inputs others keys.items)) c.in-Some-3.is c.in_ok-other_keys.ensures in
    (inputs, subst (HasKeys inputs rows) (sym c.deref.ensures.value) own, subst (HasKeys inputs others) (sym c.deref-2.ensures.value) other)

pub returns : goal.returns
returns c = IfOk-weaker c.meets_by_keys.result _ _ (λ all h. h c.args.shape c.requires.rows c.requires.others) c.meets_by_keys.ensures
