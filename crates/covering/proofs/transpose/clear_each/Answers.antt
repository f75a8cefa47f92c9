use Rattle.std.proofs.Common.{◌≡◌, ◌∙◌, ℕ, List, [], ◌∷◌, map, length, replicate, refl, ap, arith}
use Rattle.covering.specs.Table.{items_of}
use Rattle.covering.proofs.Rows.{changed_more, changed_all}
use Rattle.covering.proofs.TransposeSteps.{length_items}
use Rattle.covering.proofs.transpose.clear_each.Goals as goal

abbrev none : List ℕ
none = []

empty_each : (lists : List (List ℕ)) → map (λ _. none) lists ≡ replicate (length lists) none
empty_each [] = refl
empty_each (list ∷ lists) = ap (λ ls. none ∷ ls) (empty_each lists)

pub loop-list-init : goal.loop-list-init
loop-list-init c = ap items_of c.deref_mut-list-items.ensures.value

pub loop-list-preserved : goal.loop-list-preserved
loop-list-preserved c =
    let old = c.args.lists.now.items in
    let long : length c.loop-list.list-items ≡ length old = c.loop-list.auto.list-items ∙ ap length c.deref_mut-list-items.ensures.value in
    changed_more (λ _. []) (items_of old) c.loop-list.list-items c.loop-list.list-index c.list-item.result c.clear.new.self
    (omega (arith, c.loop-list.auto.list-items, c.loop-list-test.true)) (omega (arith, c.loop-list.auto.list-items, c.loop-list-test.true, long, length_items old))
    c.clear.ensures.items c.loop-list.invariant

pub returns : goal.returns
returns c =
    let old = c.args.lists.now.items in
    let long : length c.loop-list.list-items ≡ length old = c.loop-list.auto.list-items ∙ ap length c.deref_mut-list-items.ensures.value in
    changed_all (λ _. []) old c.loop-list.list-items c.loop-list.list-index c.args.lists.now.len long
    (omega (arith, long, c.loop-list.auto.list-items, c.loop-list-test.false)) (omega (arith, c.loop-list.auto.list-items, c.deref_mut-list-items.ensures.len)) c.loop-list.invariant
    ∙ empty_each (items_of old) ∙ ap (λ n. replicate n []) (length_items old)
