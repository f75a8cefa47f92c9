use Rattle.std.proofs.Common.{◌∙◌, ap, sym, subst}
use Rattle.std.proofs.lemmas.Result.{IfOk-weaker}
use Rattle.cube.specs.Cube.{HasSize}
use Rattle.rows.proofs.Lists.{sizes_of_cubes}
use Rattle.growth.proofs.prime.rows_asked.Goals as goal

pub returns-clause-sizes : goal.returns-clause-sizes
returns-clause-sizes c =
    let size = subst (HasSize c.args.cube.now) (sym (ap (λ k. k.size) c.rows_to_ask.ensures ∙ c.requires.near)) c.requires.size in
    IfOk-weaker c.references_to_cubes.result _ _
    (λ asked is. sizes_of_cubes c.rows_to_ask.result.now.size c.as_slice.result.now c.as_slice.ensures.cubes asked.items is c.args.cube.now size)
    c.references_to_cubes.ensures
