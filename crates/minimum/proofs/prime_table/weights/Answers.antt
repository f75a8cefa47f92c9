use Rattle.std.proofs.Common.{◌≤◌, ◌++◌, ◌∷◌, ◌∙◌, [], ap, sym, subst, arith, map, take}
use Rattle.std.proofs.lemmas.List.{take_more, take_all, map-append}
use Rattle.cube.specs.Cube.{IsCube, literals}
use Rattle.minimum.proofs.prime_table.weights.Goals as goal

pub weight-requires : goal.weight-requires
weight-requires c =
    let size = c.args.list.now.size in
    let cube = c.cube-item.result in
    let own = (subst (IsCube size) (sym c.cube-item.is) (c.as_slice-cube-items.ensures.cubes c.loop-cube.cube-index cube c.loop-cube-test.true)).has_size.0 in
    let few : size.inputs ≤ 1024 = c.requires.0 in
    omega (arith, own, few)

pub loop-cube-preserved : goal.loop-cube-preserved
loop-cube-preserved c =
    let cubes = c.as_slice-cube-items.result.now in
    let at = c.loop-cube.cube-index in
    let cube = c.cube-item.result in
    c.in_ok-push.ensures.items ∙ ap (λ l. l ++ c.weight.result ∷ []) c.loop-cube.invariant
    ∙ ap (λ n. map literals (take at cubes) ++ n ∷ []) c.weight.ensures ∙ sym (map-append literals (take at cubes) (cube ∷ []))
    ∙ ap (map literals) (ap (λ d. take at cubes ++ d ∷ []) c.cube-item.is ∙ sym (take_more cubes at cube c.loop-cube-test.true))

pub returns : goal.returns
returns c = c.loop-cube.invariant ∙ ap (map literals) (take_all c.loop-cube.cube-index c.as_slice-cube-items.result.now c.loop-cube-test.false ∙ c.as_slice-cube-items.ensures.value)
