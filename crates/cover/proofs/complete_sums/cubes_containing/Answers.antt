use Rattle.std.proofs.Common.{◌∙◌, ap, sym, subst, filter}
use Rattle.std.proofs.lemmas.List.Elements.{All-filter}
use Rattle.cube.specs.Cube.{IsCube, size_of}
use Rattle.rows.specs.Cubes.{AreCubes}
use Rattle.rows.specs.Contained.{is_within}
use Rattle.sums.proofs.OverRegion.{size_of-is}
use Rattle.cover.proofs.complete_sums.cubes_containing.Goals as goal

pub rows_containing-requires : goal.rows_containing-requires
rows_containing-requires c = λ k d lt.
    let cube = c.as_slice.ensures.cubes k d lt in
    (cube.has_size.0 ∙ sym c.requires.0, cube.has_size.1 ∙ sym c.requires.1)

pub from_cubes-requires : goal.from_cubes-requires
from_cubes-requires c =
    let shape = c.shape-shape.result in
    let region = c.args.region.now in
    let cubes = c.args.list.now.cubes in
    subst (AreCubes shape) (sym (c.in_ok-kept.ensures ∙ ap (filter (is_within (size_of region) region)) c.as_slice.ensures.value))
    (All-filter (is_within (size_of region) region) (IsCube shape) cubes c.shape-shape.ensures.cubes)

pub returns : goal.returns
returns c =
    let region = c.args.region.now in
    c.from_cubes.ensures ∙ ap (λ z. record { size = z; cubes = c.in_ok-kept.kept.items }) c.shape-shape.ensures.size
    ∙ ap (λ l. record { size = c.args.list.now.size; cubes = l })
    (c.in_ok-kept.ensures ∙ ap (filter (is_within (size_of region) region)) c.as_slice.ensures.value
    ∙ ap (λ z. filter (is_within z region) c.args.list.now.cubes) (size_of-is region c.args.list.now.size c.requires))
