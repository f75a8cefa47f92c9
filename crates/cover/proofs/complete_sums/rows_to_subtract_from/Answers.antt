use Rattle.std.proofs.Common.{ap, sym, subst, ◌∙◌}
use Rattle.std.proofs.lemmas.Result.{IfOk-weaker}
use Rattle.cube.specs.Cube.{difference}
use Rattle.rows.specs.Cubes.{AreCubes}
use Rattle.rows.specs.Places.{places}
use Rattle.cover.proofs.NotHeld.{AreCubes-not_held, difference-not_held}
use Rattle.cover.proofs.complete_sums.rows_to_subtract_from.Goals as goal

pub rows_not_held-requires : goal.rows_not_held-requires
rows_not_held-requires c = subst (λ z. AreCubes z c.as_slice-rows.result.now) (sym c.requires) c.as_slice-rows.ensures.cubes

pub returns-clause-cubes : goal.returns-clause-cubes
returns-clause-cubes c =
    let other = c.args.other.now in
    let rows = c.as_slice-rows.result.now in
    let rows_are = subst (λ z. AreCubes z rows) (sym c.requires) c.as_slice-rows.ensures.cubes in
    IfOk-weaker c.rows_not_held.result _ _
    (λ kept is. subst (λ z. AreCubes z kept.items) c.requires (AreCubes-not_held other.size (places other.cubes) rows kept.items rows_are is))
    c.rows_not_held.ensures

pub returns-clause-places : goal.returns-clause-places
returns-clause-places c =
    let other = c.args.other.now in
    let rows = c.as_slice-rows.result.now in
    let rows_are = subst (λ z. AreCubes z rows) (sym c.requires) c.as_slice-rows.ensures.cubes in
    IfOk-weaker c.rows_not_held.result _ _
    (λ kept is p. difference-not_held other.size (places other.cubes) rows kept.items rows_are is p
    ∙ ap (λ l. difference (places l) (places other.cubes) p) c.as_slice-rows.ensures.value)
    c.rows_not_held.ensures
