use Rattle.std.proofs.Common.{◌++◌, refl, ap, sym, subst, ◌∙◌}
use Rattle.std.proofs.lemmas.List.Elements.{All-append}
use Rattle.cube.specs.Cube.{IsCube, HasSize, holds}
use Rattle.cube.specs.Sum.{is_subset}
use Rattle.rows.specs.Cubes.{Cubes, AreCubes}
use Rattle.rows.specs.Places.{places, behind}
use Rattle.rows.proofs.Lists.{sizes_of_cubes}
use Rattle.cover.proofs.OverRegion.{size_of-is}
use Rattle.minimum.proofs.Neighbours.{near_neighbours}
use Rattle.minimum.proofs.EssentialByNeighbours.{essential_answer}
use Rattle.minimum.proofs.essential_by_neighbours.is_essential.Goals as goal

pub returns : goal.returns
returns c =
    let sets = c.args.sets.now in
    let all : Cubes = record { size = sets.size; cubes = sets.on ++ sets.dc } in
    let prime = c.args.prime.now in
    let rest = c.append.new.self.items in
    let joined = c.in_ok-append.ensures.items
    ∙ ap (λ l. l ++ c.in_ok-beside.beside.items) (c.into_cubes-rest.ensures.value ∙ ap (λ k. k.cubes) (c.in_ok-try_clone.ensures ∙ c.dc.ensures)) in
    let asked = ap behind c.deref-2.ensures.value ∙ c.in_ok-asked.ensures ∙ c.deref.ensures.value in
    essential_answer sets all.cubes refl prime c.requires.prime c.in_ok-beside.beside.items rest c.in_ok-hold_cube.field-0
    (near_neighbours prime all c.args.near.now c.requires.near c.in_ok-beside.beside.items c.in_ok-beside.ensures) joined
    (c.in_ok-hold_cube.ensures ∙ ap (λ n. is_subset n (holds prime) (places (behind c.deref-2.result.now))) (size_of-is prime sets.size c.requires.prime.is_cube.has_size)
    ∙ ap (λ l. is_subset sets.size (holds prime) (places l)) asked)

pub neighbours-requires : goal.neighbours-requires
neighbours-requires c = subst (HasSize c.args.prime.now) (sym c.requires.near.size) c.requires.prime.is_cube.has_size

pub hold_cube-requires : goal.hold_cube-requires
hold_cube-requires c =
    let size = c.args.sets.now.size in
    let P = IsCube size in
    let dc = subst (λ n. AreCubes n c.into_cubes-rest.result.items) (ap (λ k. k.size) (c.in_ok-try_clone.ensures ∙ c.dc.ensures)) c.into_cubes-rest.ensures.cubes in
    let own = c.requires.prime.is_cube.has_size in
    let beside : AreCubes size c.in_ok-beside.beside.items = λ k d lt.
    let cube = c.in_ok-beside.ensures.are_cubes k d lt in
    record { has_size = (cube.has_size.0 ∙ own.0, cube.has_size.1 ∙ own.1); some_output = cube.some_output } in
    let rest : AreCubes size c.append.new.self.items = subst (AreCubes size) (sym c.in_ok-append.ensures.items) (All-append P c.into_cubes-rest.result.items c.in_ok-beside.beside.items dc beside) in
    sizes_of_cubes size c.append.new.self.items rest c.deref-2.result.now (ap behind c.deref-2.ensures.value ∙ c.in_ok-asked.ensures ∙ c.deref.ensures.value) c.args.prime.now own
