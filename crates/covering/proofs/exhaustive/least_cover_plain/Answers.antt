use Rattle.std.proofs.Common.{rules, ◌≡◌, ◌∙◌, ◌+◌, ◌≤◌, ℕ, Some, None, length, sym, ap, subst, arith, Vec, Global}
use Rattle.std.specs.Prelude.{option_map}
use Rattle.std.proofs.lemmas.Result.{IfOk-weaker}
use Rattle.covering.specs.Cover.{IsLeast}
use Rattle.covering.specs.Choices.{best_choice, union_of}
use Rattle.covering.proofs.BestChoice.{none_more, none_below, exhaustive_least}
use Rattle.covering.proofs.exhaustive.least_cover_plain.Goals as goal

pub returns-in-Some : goal.returns-in-Some
returns-in-Some c =
    let found : best_choice c.args.choice c.args.table.now c.loop-best.size ≡ Some c.in-Some.best.items = sym c.in_ok-best.ensures.found ∙ ap (option_map (λ (v : Vec ℕ Global). v.items)) c.in-Some.is in
    let least = exhaustive_least c.args.choice c.args.table.now c.loop-best.size c.in-Some.best.items c.in_ok-best.ensures.table found c.loop-best.invariant in
    IfOk-weaker c.with_taken.result _ _ (λ v h. subst (IsLeast c.args.choice c.args.table.now) (sym (h ∙ ap (union_of c.args.table.now.taken) c.deref.ensures.value)) least) c.with_taken.ensures

pub overflow_add-size : goal.overflow_add-size
overflow_add-size c =
    let none : best_choice c.args.choice c.args.table.now c.loop-best.size ≡ None = sym c.in_ok-best.ensures.found ∙ ap (option_map (λ (v : Vec ℕ Global). v.items)) c.in_default.is in
    let all = none_more c.args.choice c.args.table.now c.loop-best.size c.loop-best.invariant none in
    let less : c.loop-best.size + 1 ≤ length c.args.table.now.live = none_below c.args.choice c.args.table.now (c.loop-best.size + 1) c.in_ok-best.ensures.table all in
    let long = c.in_ok-best.ensures.long in
    search (rules, less, long)

pub loop-best-smaller : goal.loop-best-smaller
loop-best-smaller c =
    let none : best_choice c.args.choice c.args.table.now c.loop-best.size ≡ None = sym c.in_ok-best.ensures.found ∙ ap (option_map (λ (v : Vec ℕ Global). v.items)) c.in_default.is in
    let all = none_more c.args.choice c.args.table.now c.loop-best.size c.loop-best.invariant none in
    let less : c.loop-best.size + 1 ≤ length c.args.table.now.live = none_below c.args.choice c.args.table.now (c.loop-best.size + 1) c.in_ok-best.ensures.table all in
    omega (arith, less)

pub loop-best-preserved : goal.loop-best-preserved
loop-best-preserved c =
    let none : best_choice c.args.choice c.args.table.now c.loop-best.size ≡ None = sym c.in_ok-best.ensures.found ∙ ap (option_map (λ (v : Vec ℕ Global). v.items)) c.in_default.is in
    none_more c.args.choice c.args.table.now c.loop-best.size c.loop-best.invariant none
