use Rattle.std.proofs.Common.{sym, subst}
use Rattle.cube.specs.Cube.{holds, difference}
use Rattle.rows.specs.Cubes.{AreCubes}
use Rattle.rows.specs.Places.{places}
use Rattle.sums.specs.Outside.{Extends}
use Rattle.sums.proofs.OffSets.{IsRest-larger, IsRest-sorted}
use Rattle.cover.proofs.outside_within_budget.merge_halves.Goals as goal

pub expand_each_at-requires : goal.expand_each_at-requires
expand_each_at-requires c =
    let size = c.requires.0 in
    (size, c.requires.1, c.requires.2, c.requires.3, subst (AreCubes size) (sym c.deref.ensures.value) c.requires.4)

pub sort_rows-requires : goal.sort_rows-requires
sort_rows-requires c =
    let size = c.requires.0 in
    record { size = size; are_cubes = c.in_ok-larger.ensures.cubes size (subst (AreCubes size) (sym c.deref.ensures.value) c.requires.4) }

pub returns : goal.returns
returns c = λ size halves.
    let rows = c.args.rows.now in
    let region = c.args.region.now in
    let s = difference (holds region) (places rows) in
    IsRest-sorted size rows (holds region) c.in_ok-larger.larger.items c.in_ok-larger-2.larger.items c.in_ok-larger-2.ensures.cubes
    (IsRest-larger size rows (holds region) c.args.halves.items c.in_ok-larger.larger.items halves
    (c.in_ok-larger.ensures.cubes size (subst (AreCubes size) (sym c.deref.ensures.value) halves.are_cubes))
    (subst (λ l. Extends s (places l) (places c.in_ok-larger.larger.items)) c.deref.ensures.value c.in_ok-larger.ensures.extends))
