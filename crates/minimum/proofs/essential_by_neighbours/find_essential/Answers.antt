use Rattle.std.proofs.Common.{◌≡◌, ◌++◌, Bool, List, not, take, refl, ap, sym, subst, ◌∙◌}
use Rattle.std.proofs.lemmas.Bool.{and_parts}
use Rattle.std.proofs.lemmas.List.{take_all}
use Rattle.cube.specs.Size.{Size}
use Rattle.cube.specs.Cube.{Cube, Place}
use Rattle.cover.specs.Cubes.{Cubes, AreCubes}
use Rattle.cover.specs.Places.{places}
use Rattle.cover.specs.Reduced.{HasSameCubes}
use Rattle.pla.specs.Sets.{SetLists}
use Rattle.minimum.specs.Primes.{care_on}
use Rattle.minimum.specs.declared.essential_by_neighbours.grown_primes.GrownPrimes.{GrownPrimes}
use Rattle.minimum.specs.Neighbours.{HaveSize, AddsEssential, AreFoundIn}
use Rattle.minimum.proofs.EssentialByNeighbours.{found_none, found_next, found_all, sized_found, same_essential, if_ok_three}
use Rattle.minimum.proofs.essential_by_neighbours.find_essential.Goals as goal

sized : (sets : SetLists) (found : GrownPrimes) (region : Place → Bool) → AreFoundIn sets.size (places (sets.on ++ sets.dc)) (care_on sets) region found → HaveSize sets.size found
sized sets found region so = sized_found sets.size (places (sets.on ++ sets.dc)) (care_on sets) found so.grown

pub loop-cube-init : goal.loop-cube-init
loop-cube-init c =
    let sets = c.args.sets.now in
    found_none sets.size (places (sets.on ++ sets.dc)) (care_on sets) c.new-found.result c.new-found.ensures.essential c.new-found.ensures.others

pub add_essential-requires-clause-found : goal.add_essential-requires-clause-found
add_essential-requires-clause-found c = sized c.args.sets.now c.loop-cube.found _ c.loop-cube.invariant

pub loop-cube-preserved : goal.loop-cube-preserved
loop-cube-preserved c =
    let sets = c.args.sets.now in
    let adds = subst (λ l. AddsEssential sets.size (places l) (care_on sets) c.cube-item.result c.loop-cube.found c.add_essential.new.found)
    (ap (λ k. k.cubes) (c.in_ok-rows.ensures ∙ c.in_ok-list.ensures)) c.in_ok-add_essential.ensures in
    found_next sets.size (places (sets.on ++ sets.dc)) (care_on sets) c.as_slice-cube-items.result.now c.loop-cube.cube-index c.cube-item.result c.loop-cube.found c.add_essential.new.found
    c.loop-cube-test.true c.cube-item.is c.loop-cube.invariant adds

pub from_cubes-requires : goal.from_cubes-requires
from_cubes-requires c =
    subst (λ n. AreCubes n c.loop-cube.found.essential.items) (sym (c.shape.ensures.size ∙ ap (λ k. k.size) c.in_ok-list.ensures)) (sized c.args.sets.now c.loop-cube.found _ c.loop-cube.invariant).essential

pub returns : goal.returns
returns c =
    let sets = c.args.sets.now in
    let s = places (sets.on ++ sets.dc) in
    let found = c.loop-cube.found in
    let on : take c.loop-cube.cube-index c.as_slice-cube-items.result.now ≡ sets.on =
    take_all c.loop-cube.cube-index c.as_slice-cube-items.result.now c.loop-cube-test.false ∙ c.as_slice-cube-items.ensures.value ∙ ap (λ k. k.cubes) c.on.ensures in
    let so = subst (λ l. AreFoundIn sets.size s (care_on sets) (places l) found) on c.loop-cube.invariant in
    let made : Size → List Cube → Cubes = λ z l. record { size = z; cubes = l } in
    if_ok_three c.in_row_order-2.result _ _ _ _ (λ list size rising same.
    let sorted = found_all sets.size s (care_on sets) (places sets.on) found list.cubes (λ p want. (and_parts (places sets.on p) (not (places sets.dc p)) want).0) so rising
    (subst (λ l. HasSameCubes l list.cubes) (ap (λ k. k.cubes) c.from_cubes.ensures) same) in
    ap (λ z. made z list.cubes) (size ∙ ap (λ k. k.size) c.from_cubes.ensures ∙ c.shape.ensures.size ∙ ap (λ k. k.size) c.in_ok-list.ensures)
    ∙ ap (made sets.size) (sorted ∙ same_essential sets (sets.on ++ sets.dc) refl))
    c.in_row_order-2.ensures.size c.in_row_order-2.ensures.rising c.in_row_order-2.ensures.cubes
