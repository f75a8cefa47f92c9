use Rattle.std.proofs.Common.{◌≡◌, ◌∙◌, ◌∷◌, ◌++◌, ap, sym, arith, option_to_list, length}
use Rattle.sums.proofs.SumFour.{complete_sum-some}
use Rattle.sums.proofs.four_rows.sum_of_some_opposites.Goals as goal

pub returns-in-None-None : goal.returns-in-None-None
returns-in-None-None c size zero' one =
    let is : c.new.result.items ≡ option_to_list c.args.zero ++ option_to_list c.args.one =
    c.new.ensures.items ∙ sym (ap (λ z. option_to_list z ++ option_to_list c.args.one) c.in-None-None.is-0 ∙ ap (λ o. option_to_list o) c.in-None-None.is-1) in
    complete_sum-some size c.args.zero c.args.one c.new.result.items zero' one is (omega (arith, ap length c.new.ensures.items))

pub returns-in_ok-vec-in-Some-None : goal.returns-in_ok-vec-in-Some-None
returns-in_ok-vec-in-Some-None c size zero' one =
    let items = c.in_ok-vec-in-Some-None.field-0.items in
    let is : items ≡ option_to_list c.args.zero ++ option_to_list c.args.one =
    c.in_ok-vec-in-Some-None.ensures.items
    ∙ sym (ap (λ z. option_to_list z ++ option_to_list c.args.one) c.in-Some-None.is-0 ∙ ap (λ o. c.in-Some-None.row ∷ option_to_list o) c.in-Some-None.is-1) in
    complete_sum-some size c.args.zero c.args.one items zero' one is (omega (arith, ap length c.in_ok-vec-in-Some-None.ensures.items))

pub returns-in_ok-vec-in-None-Some : goal.returns-in_ok-vec-in-None-Some
returns-in_ok-vec-in-None-Some c size zero' one =
    let items = c.in_ok-vec-in-None-Some.field-0.items in
    let is : items ≡ option_to_list c.args.zero ++ option_to_list c.args.one =
    c.in_ok-vec-in-None-Some.ensures.items
    ∙ sym (ap (λ z. option_to_list z ++ option_to_list c.args.one) c.in-None-Some.is-0 ∙ ap (λ o. option_to_list o) c.in-None-Some.is-1) in
    complete_sum-some size c.args.zero c.args.one items zero' one is (omega (arith, ap length c.in_ok-vec-in-None-Some.ensures.items))
