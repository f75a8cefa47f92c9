use Rattle.std.proofs.Common.{◌∙◌, List, ap, not}
use Rattle.std.proofs.lemmas.Option.{MatchOption-at_some}
use Rattle.cube.specs.Size.{Size}
use Rattle.cube.specs.Cube.{Cube}
use Rattle.rows.specs.Cubes.{Cubes}
use Rattle.rows.specs.Places.{places}
use Rattle.sums.specs.Containing.{sum_containing}
use Rattle.cover.proofs.complete_sums.sum_containing.Goals as goal

pub returns : goal.returns
returns c =
    let size = c.shape-shape.result in
    let region = c.args.region.now in
    let made : Size → List Cube → Cubes = λ z l. record { size = z; cubes = l } in
    c.from_cubes.ensures
    ∙ ap (made size) (MatchOption-at_some _ _ c.in-Some.cubes c.in-Some.is c.in_ok-cubes.ensures.sum)
    ∙ ap (λ l. made size (sum_containing size (λ p. not (places l p)) region)) c.as_slice.ensures.value
    ∙ ap (λ z. made z (sum_containing z (λ p. not (places c.args.off.now.cubes p)) region)) c.shape-shape.ensures.size
