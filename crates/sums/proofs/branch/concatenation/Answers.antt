use Rattle.std.proofs.Common.{◌∙◌, ◌++◌, ap, append_assoc}
use Rattle.std.proofs.lemmas.Result.{IfOk-weaker}
use Rattle.sums.proofs.branch.concatenation.Goals as goal

pub returns : goal.returns
returns c =
    let one = c.args.one.items in
    let two = c.args.two.items in
    let three = c.args.three.items in
    let front = c.in_ok-all-2.ensures ∙ ap (λ l. l ++ one) c.in_ok-all.ensures.items in
    IfOk-weaker c.rows_of_both-3.result _ _ (λ rows h. h ∙ ap (λ l. l ++ three) (c.in_ok-all-3.ensures ∙ ap (λ l. l ++ two) front) ∙ append_assoc one two three) c.rows_of_both-3.ensures
