use Rattle.std.proofs.Common.{◌∙◌, subst}
use Rattle.std.proofs.lemmas.Result.{IfOk-weaker}
use Rattle.rows.specs.Cubes.{AreCubes}
use Rattle.rows.proofs.Lists.{HasSize-references_to}
use Rattle.lower_tests.proofs.lists.references_to.Goals as goal

pub returns-clause-sizes : goal.returns-clause-sizes
returns-clause-sizes c =
    let size = c.args.list.now.size in
    IfOk-weaker c.references_to_cubes.result _ _
    (λ refs h. HasSize-references_to size c.args.list.now.cubes (subst (AreCubes size) c.as_slice.ensures.value c.as_slice.ensures.cubes) refs.items
    (h ∙ c.as_slice.ensures.value))
    c.references_to_cubes.ensures
