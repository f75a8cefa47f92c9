use Rattle.std.proofs.Common.{◌≡◌, ◌<◌, ◌∙◌, ◌∷◌, ◌++◌, [], sym, ap, subst, arith, refl, IfSome, IsNone, ◌&&◌, cond, false}
use Rattle.std.proofs.lemmas.Result.{IfOk-weaker}
use Rattle.std.proofs.lemmas.List.Elements.{All-nil, All-cons, All-same}
use Rattle.cube.specs.declared.symbol.Symbol.TheVariants.{Dash}
use Rattle.cube.specs.Cube.{Place, IsCube, SameSize, holds, with_symbol}
use Rattle.rows.specs.Parts.{merged, drop_below, begins_with}
use Rattle.rows.specs.Reduced.{IsMeets}
use Rattle.rows.proofs.Found.{meet_IsCube}
use Rattle.rows.proofs.SumMeets.{IsMeets-one, IsMeets-disjoint}
use Rattle.rows.proofs.SumSplit.{IsCube-with_symbol}
use Rattle.sums.proofs.SumTwo.{complete_sum-opposites, begins_with-one, All-inserted}
use Rattle.sums.proofs.two_rows.sum_of_opposites.Goals as goal

pub insert_unless_held-requires-in-Some : goal.insert_unless_held-requires-in-Some
insert_unless_held-requires-in-Some c =
    let zero = c.args.zero.now in
    let one = c.args.one.now in
    let both = c.in-Some.both in
    let near = c.requires.size.2.has_size in
    let far = c.requires.size.3.has_size in
    let same : SameSize both c.in_ok-low.low = subst (λ o. IfSome o (λ m. SameSize m c.in_ok-low.low)) c.in-Some.is c.in_ok-both.ensures.size in
    let opposite : SameSize zero one = (near.0 ∙ sym far.0, near.1 ∙ sym far.1) in
    let middle : SameSize both one = (same.0 ∙ c.in_ok-low.ensures.size.0 ∙ opposite.0, same.1 ∙ c.in_ok-low.ensures.size.1 ∙ opposite.1) in
    let start = c.in_ok-push-in-Some.ensures.items ∙ ap (λ l. l ++ both ∷ []) c.in_ok-sum.ensures.items in
    All-inserted (λ d. SameSize d one) c.push.new.self.items c.in_ok-sum-in-Some.sum.items zero c.is_equal-is_zero_held.result
    (All-same (λ d. SameSize d one) c.push.new.self.items (both ∷ []) start (All-cons (λ d. SameSize d one) both [] middle (All-nil (λ d. SameSize d one))))
    opposite c.in_ok-sum-in-Some.ensures

pub returns-in-Some : goal.returns-in-Some
returns-in-Some c =
    let i = c.args.i in
    let low = c.in_ok-low.low in
    let high = c.in_ok-high.high in
    let both = c.in-Some.both in
    let is_zero_held = c.is_equal-is_zero_held.result in
    let is_one_held = c.is_equal-is_one_held.result in
    let same : SameSize both low = subst (λ o. IfSome o (λ m. SameSize m low)) c.in-Some.is c.in_ok-both.ensures.size in
    let shared = subst (λ o. IfSome o (λ m. (p : Place) → holds m p ≡ (holds low p && holds high p))) c.in-Some.is c.in_ok-both.ensures.places in
    let start = c.in_ok-push-in-Some.ensures.items ∙ ap (λ l. l ++ both ∷ []) c.in_ok-sum.ensures.items in
    let zero_held = subst (λ d. is_zero_held ≡ begins_with d (drop_below d (both ∷ []))) c.in_ok-low.ensures.value (begins_with-one low both is_zero_held c.is_equal-is_zero_held.ensures) in
    let one_held = subst (λ d. is_one_held ≡ begins_with d (drop_below d (both ∷ []))) c.in_ok-high.ensures.value (begins_with-one high both is_one_held c.is_equal-is_one_held.ensures) in
    IfOk-weaker c.insert_unless_held-in-Some.result _ _ (λ rows h size zero one.
    let cube_low = subst (IsCube size) (sym c.in_ok-low.ensures.value) (IsCube-with_symbol size c.args.zero.now i Dash zero) in
    let cube_high = subst (IsCube size) (sym c.in_ok-high.ensures.value) (IsCube-with_symbol size c.args.one.now i Dash one) in
    let cube_both = meet_IsCube size low high both c.in_ok-both.field-0 cube_low.has_size same c.in-Some.is c.in_ok-both.ensures.none shared in
    let meets = subst (λ d. IsMeets size (with_symbol c.args.zero.now i Dash ∷ []) (d ∷ []) (both ∷ [])) c.in_ok-high.ensures.value
    (subst (λ d. IsMeets size (d ∷ []) (high ∷ []) (both ∷ [])) c.in_ok-low.ensures.value (IsMeets-one size low high both cube_low cube_high cube_both shared)) in
    let lt : i < size.inputs = omega (arith, c.requires.size.1, c.requires.size.2.has_size.0, zero.has_size.0) in
    complete_sum-opposites size i lt c.args.zero.now c.args.one.now zero one c.requires.low c.requires.high (both ∷ []) is_zero_held is_one_held rows.items meets (omega arith) zero_held one_held
    (h ∙ ap (λ l. merged l (cond is_one_held [] (c.args.one.now ∷ [])))
    (c.in_ok-sum-in-Some.ensures ∙ ap (λ l. merged l (cond is_zero_held [] (c.args.zero.now ∷ []))) start))) c.insert_unless_held-in-Some.ensures

pub returns : goal.returns
returns c =
    let i = c.args.i in
    let low = c.in_ok-low.low in
    let high = c.in_ok-high.high in
    let apart = c.in_ok-both.ensures.none.0 (subst IsNone (sym c.in-None.is) refl) in
    IfOk-weaker c.insert_unless_held-in-None-2.result _ _ (λ rows h size zero one.
    let meets = subst (λ d. IsMeets size (with_symbol c.args.zero.now i Dash ∷ []) (d ∷ []) []) c.in_ok-high.ensures.value
    (subst (λ d. IsMeets size (d ∷ []) (high ∷ []) []) c.in_ok-low.ensures.value (IsMeets-disjoint size low high apart)) in
    let lt : i < size.inputs = omega (arith, c.requires.size.1, c.requires.size.2.has_size.0, zero.has_size.0) in
    complete_sum-opposites size i lt c.args.zero.now c.args.one.now zero one c.requires.low c.requires.high [] false false rows.items meets (omega arith) refl refl
    (h ∙ ap (λ l. merged l (c.args.one.now ∷ []))
    (c.in_ok-sum-in-None.ensures ∙ ap (λ l. merged l (c.args.zero.now ∷ [])) c.in_ok-sum.ensures.items))) c.insert_unless_held-in-None-2.ensures
