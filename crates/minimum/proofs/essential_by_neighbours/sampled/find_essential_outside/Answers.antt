use Rattle.std.proofs.Common.{◌≡◌, List, take, ap, sym, subst, ◌∙◌}
use Rattle.std.specs.List.{Contains}
use Rattle.std.proofs.lemmas.List.{take_all}
use Rattle.cube.specs.Size.{Size}
use Rattle.std.proofs.lemmas.List.Elements.{All-nil}
use Rattle.cube.specs.Cube.{Cube, IsCube, IsSubset, holds}
use Rattle.cover.specs.Cubes.{Cubes, AreCubes}
use Rattle.cover.specs.Places.{places}
use Rattle.cover.specs.Reduced.{HasSameCubes}
use Rattle.cover.proofs.Lists.{list_any_from}
use Rattle.growth.specs.declared.prime.Side.TheVariants.{Outside}
use Rattle.growth.specs.Growth.{on_side}
use Rattle.minimum.specs.Neighbours.{AddsEssential, AreFoundIn}
use Rattle.minimum.proofs.EssentialByNeighbours.{found_none, found_next, found_all, if_ok_three}
use Rattle.minimum.proofs.Blocking.{sampled_apart, sampled_essential}
use Rattle.minimum.proofs.essential_by_neighbours.sampled.find_essential_outside.Goals as goal

pub loop-cube-preserved : goal.loop-cube-preserved
loop-cube-preserved c =
    let on = c.args.on.now in
    let s = on_side Outside c.args.off.now.cubes in
    let cubes = c.as_slice-cube-items.result.now in
    let k = c.loop-cube.cube-index in
    let cube = c.cube-item.result in
    let member : Contains on.cubes cube = subst (λ l. Contains l cube) c.as_slice-cube-items.ensures.value (k, c.loop-cube-test.true, sym c.cube-item.is) in
    record {
      cubes = c.in_ok-add_essential.ensures.cubes;
      found = λ apart. found_next on.size s (places on.cubes) cubes k cube c.loop-cube.found c.add_essential.new.found c.loop-cube-test.true c.cube-item.is
          (c.loop-cube.invariant.found apart)
          (subst (λ z. IsSubset (holds cube) (on_side Outside z.cubes) → AddsEssential on.size (on_side Outside z.cubes) (places on.cubes) cube c.loop-cube.found c.add_essential.new.found)
          c.in_ok-rows.ensures c.in_ok-add_essential.ensures.adds (λ p h. apart p (list_any_from (λ d. holds d p) on.cubes cube member h)));
    }

pub loop-cube-init : goal.loop-cube-init
loop-cube-init c =
    let on = c.args.on.now in
    let found = c.new-found.result in
    record {
      cubes = record {
        essential = subst (AreCubes on.size) (sym c.new-found.ensures.essential) (All-nil (IsCube on.size));
        others = subst (AreCubes on.size) (sym c.new-found.ensures.others) (All-nil (IsCube on.size));
      };
      found = λ _. found_none on.size (on_side Outside c.args.off.now.cubes) (places on.cubes) found c.new-found.ensures.essential c.new-found.ensures.others;
    }

pub returns : goal.returns
returns c =
    let on = c.args.on.now in
    let off = c.args.off.now in
    let s = on_side Outside off.cubes in
    let found = c.loop-cube.found in
    let cubes = c.as_slice-cube-items.result.now in
    let are : AreCubes on.size on.cubes = subst (AreCubes on.size) c.as_slice-cube-items.ensures.value c.as_slice-cube-items.ensures.cubes in
    let all : take c.loop-cube.cube-index cubes ≡ on.cubes = take_all c.loop-cube.cube-index cubes c.loop-cube-test.false ∙ c.as_slice-cube-items.ensures.value in
    let made : Size → List Cube → Cubes = λ z l. record { size = z; cubes = l } in
    if_ok_three c.in_row_order-2.result _ _ _ _ (λ list size rising same sets fits.
    let so = subst (λ l. AreFoundIn on.size s (places on.cubes) (places l) found) all (c.loop-cube.invariant.found (sampled_apart sets on off fits are)) in
    let sorted = found_all on.size s (places on.cubes) (places on.cubes) found list.cubes (λ p want. want) so rising
    (subst (λ l. HasSameCubes l list.cubes) (ap (λ k. k.cubes) c.from_cubes.ensures) same) in
    ap (λ z. made z list.cubes) (size ∙ ap (λ k. k.size) c.from_cubes.ensures ∙ c.shape.ensures.size ∙ fits.size)
    ∙ ap (made sets.size) (sorted ∙ sampled_essential sets on off fits))
    c.in_row_order-2.ensures.size c.in_row_order-2.ensures.rising c.in_row_order-2.ensures.cubes
