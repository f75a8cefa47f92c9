use Rattle.std.proofs.Common.{◌≡◌, ◌∙◌, ℕ, Bool, List, [], Option, length, map, sym, ap, subst, Vec, Global}
use Rattle.std.specs.Prelude.{option_map, None}
use Rattle.std.specs.List.{AllByRecursion, list_all}
use Rattle.itertools.specs.Pool.{combination_left, ascending_low, ascending_high}
use Rattle.itertools.specs.Odometer.{ways}
use Rattle.covering.specs.Cover.{meets, counted}
use Rattle.covering.specs.Choices.{choices, best_of}
use Rattle.covering.proofs.Ways.{picks, AreBelow, combinations_choices, combinations_below, picked, found_here, found_later}
use Rattle.covering.proofs.exhaustive.best_choice.Goals as goal

pub loop-chosen-init : goal.loop-chosen-init
loop-chosen-init c =
    let live = c.args.live.now in
    let same = c.into_iter-chosen-iterator.ensures.into_iter_gives in
    let items = c.in_ok-chosen-items.ensures.pool in
    let left : combination_left c.into_iter-chosen-iterator.result ≡ ways ascending_low (ascending_high (length live) c.args.size) c.args.size [] =
    ap combination_left same ∙ c.in_ok-chosen-items.ensures.places ∙ ap (λ xs. ways ascending_low (ascending_high (length xs) c.args.size) c.args.size []) items in
    record {
      pool = ap (λ s. s.pool.items) same ∙ items;
      below = subst (AllByRecursion (AreBelow (length live))) (sym left) (combinations_below (length live) c.args.size);
      left = ap (best_of (counted c.args.choice c.args.literals.now) _ None) (sym (ap (map (picks live)) left ∙ combinations_choices live c.args.size));
    }

pub loop-chosen-preserved-then-all_met : goal.loop-chosen-preserved-then-all_met
loop-chosen-preserved-then-all_met c =
    let inv = c.loop-chosen.invariant in
    let live = c.args.live.now in
    let count = counted c.args.choice c.args.literals.now in
    let test : List ℕ → Bool = λ s. list_all (λ row. meets s row.items) c.args.rows.now in
    let best : Option (List ℕ) = option_map (λ (v : Vec ℕ Global). v.items) c.loop-chosen.best in
    let st = rw c.in_ok-chosen.was at c.in-Some.ensures.steps in
    let below = subst (AllByRecursion (AreBelow (length live))) st.1.1 inv.below in
    let is = picked _ (λ x v h. h) c.loop-chosen.chosen-iterator.pool.items st.1.0 c.in_ok-chosen.chosen.items (subst (λ xs. AreBelow (length xs) st.1.0) (sym inv.pool) below.0) st.1.2 ∙ ap (λ xs. picks xs st.1.0) inv.pool in
    let met = sym (c.all_met.ensures ∙ ap test c.deref.ensures.value) ∙ c.if-all_met.true in
    record {
      pool = sym st.0 ∙ inv.pool;
      below = below.1;
      left = found_here count test (choices c.args.size live) (combination_left c.loop-chosen.chosen-iterator) (combination_left c.next.new.self) live st.1.0 c.in_ok-chosen.chosen.items None best inv.left st.1.1 is met
          ∙ ap (λ o. best_of count test o (map (picks live) (combination_left c.next.new.self))) c.better_of.ensures;
    }

pub loop-chosen-preserved : goal.loop-chosen-preserved
loop-chosen-preserved c =
    let inv = c.loop-chosen.invariant in
    let live = c.args.live.now in
    let count = counted c.args.choice c.args.literals.now in
    let test : List ℕ → Bool = λ s. list_all (λ row. meets s row.items) c.args.rows.now in
    let best : Option (List ℕ) = option_map (λ (v : Vec ℕ Global). v.items) c.loop-chosen.best in
    let st = rw c.in_ok-chosen.was at c.in-Some.ensures.steps in
    let below = subst (AllByRecursion (AreBelow (length live))) st.1.1 inv.below in
    let is = picked _ (λ x v h. h) c.loop-chosen.chosen-iterator.pool.items st.1.0 c.in_ok-chosen.chosen.items (subst (λ xs. AreBelow (length xs) st.1.0) (sym inv.pool) below.0) st.1.2 ∙ ap (λ xs. picks xs st.1.0) inv.pool in
    let unmet = sym (c.all_met.ensures ∙ ap test c.deref.ensures.value) ∙ c.if-all_met.false in
    record {
      pool = sym st.0 ∙ inv.pool;
      below = below.1;
      left = found_later count test (choices c.args.size live) (combination_left c.loop-chosen.chosen-iterator) (combination_left c.next.new.self) live st.1.0 c.in_ok-chosen.chosen.items None best inv.left st.1.1 is unmet;
    }
