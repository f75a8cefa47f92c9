use Rattle.std.proofs.Common.{◌∙◌, ap, subst, get_or}
use Rattle.rows.specs.Cubes.{AreCubes}
use Rattle.rows.proofs.ContainmentLemmas.{lies_from_answer}
use Rattle.cover.proofs.containment.is_within.Goals as goal

pub returns : goal.returns
returns c =
    let v = c.as_slice-cubes.ensures.value in
    lies_from_answer c.args.list.now.size c.args.list.now.cubes (subst (AreCubes c.args.list.now.size) v c.as_slice-cubes.ensures.cubes)
    c.args.k c.args.j c.requires.k c.requires.j c.index-cubes-k.result c.index-cubes-j.result
    (c.index-cubes-k.is ∙ ap (λ l. get_or l c.args.k c.index-cubes-k.result) v) (c.index-cubes-j.is ∙ ap (λ l. get_or l c.args.j c.index-cubes-j.result) v)
    c.contains.result c.contains.ensures
