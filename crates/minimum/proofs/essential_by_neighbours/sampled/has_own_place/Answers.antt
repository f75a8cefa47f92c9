use Rattle.std.proofs.Common.{◌≡◌, inl, inr, List, Option, Some, IfSome, ap, sym, subst, ◌∙◌, true}
use Rattle.std.specs.List.{Contains}
use Rattle.std.proofs.lemmas.Bool.{or_cases}
use Rattle.std.proofs.lemmas.List.{take_all}
use Rattle.cube.specs.Size.{Size}
use Rattle.cube.specs.Cube.{Cube, Place, holds, intersection, IsCube}
use Rattle.cover.specs.Cubes.{Cubes}
use Rattle.cover.specs.Places.{places}
use Rattle.cover.proofs.Found.{meet_output, apart_from_none, same_from_some, part_from_some}
use Rattle.cover.proofs.Lists.{list_any_from}
use Rattle.growth.specs.declared.prime.Side.TheVariants.{Outside}
use Rattle.growth.specs.Growth.{on_side}
use Rattle.minimum.specs.Neighbours.{IsAlone}
use Rattle.minimum.specs.Blocking.{AreBlocking, HasCommon}
use Rattle.growth.proofs.MorePlaces.{more_places}
use Rattle.minimum.proofs.Blocking.{lists_fit, own_from_common, common_from_own}
use Rattle.minimum.proofs.essential_by_neighbours.sampled.has_own_place.Goals as goal
use Rattle.minimum.proofs.essential_by_neighbours.sampled.has_own_place.Goals.{in-Some+in_ok-has_common+else-branch, in_default}

pub has_common-requires-clause-output : goal.has_common-requires-clause-output
has_common-requires-clause-output c =
    let prime = c.args.prime.now in
    let cube = c.cube-item.result in
    let found = c.in_ok-region.field-0 in
    meet_output prime cube c.in-Some.region found c.in-Some.is c.in_ok-region.ensures.none (part_from_some prime cube c.in-Some.region found c.in_ok-region.ensures.places c.in-Some.is)

pub has_common-requires-clause-sizes : goal.has_common-requires-clause-sizes
has_common-requires-clause-sizes c =
    let off = c.args.off.now in
    let prime = c.args.prime.now in
    lists_fit off.size prime c.in_ok-lists.lists.items (IsAlone (on_side Outside off.cubes) prime) c.in_ok-lists.ensures (subst (λ z. IsCube z prime) (sym c.requires.size) c.requires.prime)
    c.in-Some.region (same_from_some prime c.in-Some.region c.in_ok-region.field-0 c.in_ok-region.ensures.size c.in-Some.is) c.deref.result.now c.deref.ensures.value

pub returns-then-branch-clause-some : goal.returns-then-branch-clause-some
returns-then-branch-clause-some c _ =
    let off = c.args.off.now in
    let on = c.args.on.now in
    let prime = c.args.prime.now in
    let cube = c.cube-item.result in
    let region = c.in-Some.region in
    let fact = IsAlone (on_side Outside off.cubes) prime in
    let both = part_from_some prime cube region c.in_ok-region.field-0 c.in_ok-region.ensures.places c.in-Some.is in
    let w = own_from_common off.size prime cube region c.deref.result.now fact (subst (λ l. AreBlocking off.size prime l fact) (sym c.deref.ensures.value) c.in_ok-lists.ensures) both
    (c.in_ok-has_common.ensures.some c.if-branch.true) in
    let member : Contains on.cubes cube = subst (λ l. Contains l cube) c.as_slice-cube-items.ensures.value (c.loop-cube.cube-index, c.loop-cube-test.true, sym c.cube-item.is) in
    (w.0, w.1, list_any_from (λ d. holds d w.0) on.cubes cube member w.2, w.3)

there : (size : Size) (prime cube region : Cube) (lists lent : List Cubes) (fact : Place → Type 0) (found : Option Cube) → AreBlocking size prime lists fact → lent ≡ lists
    → IfSome found (λ d. (p : Place) → holds d p ≡ intersection (holds prime) (holds cube) p) → found ≡ Some region → (HasCommon region lent 0 → ⊥)
    → (p : Place) → holds prime p ≡ true → holds cube p ≡ true → fact p → ⊥
there size prime cube region lists lent fact found blocking e both is none p in_c now a =
    none (common_from_own size prime cube region lent fact (subst (λ l. AreBlocking size prime l fact) (sym e) blocking)
    (part_from_some prime cube region found both is) p in_c now a)

pub loop-cube-preserved : goal.loop-cube-preserved
loop-cube-preserved c p in_c h alone =
    let off = c.args.off.now in
    let prime = c.args.prime.now in
    let cube = c.cube-item.result in
    let cubes = c.as_slice-cube-items.result.now in
    let fact = IsAlone (on_side Outside off.cubes) prime in
    let lists = c.in_ok-lists.lists.items in
    let found = c.in_ok-region.field-0 in
    elim (or_cases _ _ (sym (more_places cubes c.loop-cube.cube-index cube c.loop-cube-test.true c.cube-item.is p) ∙ h)) [
      | inl was ↦ c.loop-cube.invariant p in_c was alone
      | inr now ↦ elim c.match-branch-3.branch [
        | in-Some+in_ok-has_common+else-branch w ↦ there off.size prime cube w.in-Some.region lists w.deref.result.now fact found c.in_ok-lists.ensures w.deref.ensures.value c.in_ok-region.ensures.places w.in-Some.is
            (w.in_ok-has_common.ensures.none w.if-branch.false) p in_c now alone
        | in_default w ↦ apart_from_none prime cube found c.in_ok-region.ensures.none w.in_default.is p in_c now
      ]
    ]

pub returns-clause-none : goal.returns-clause-none
returns-clause-none c _ p in_c h alone =
    let all = take_all c.loop-cube.cube-index c.as_slice-cube-items.result.now c.loop-cube-test.false ∙ c.as_slice-cube-items.ensures.value in
    c.loop-cube.invariant p in_c (ap (λ l. places l p) all ∙ h) alone
