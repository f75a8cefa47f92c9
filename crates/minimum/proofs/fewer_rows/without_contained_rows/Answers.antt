use Rattle.std.proofs.Common.{◌∙◌, ap, subst}
use Rattle.cover.specs.Cubes.{AreCubes}
use Rattle.cover.specs.Places.{places}
use Rattle.cover.proofs.ContainedPlaces.{places-contained}
use Rattle.minimum.proofs.fewer_rows.without_contained_rows.Goals as goal

pub returns-clause-places : goal.returns-clause-places
returns-clause-places c p =
    let list = c.args.list.now in
    let cubes_are = subst (AreCubes list.size) c.as_slice-rows.ensures.value c.as_slice-rows.ensures.cubes in
    ap (λ l. places l.cubes p) c.in_ok-rest.ensures ∙ places-contained list.size list.cubes cubes_are p
