use Rattle.std.proofs.Common.{◌∙◌, ◌++◌, All, ap, sym, subst}
use Rattle.std.specs.Borrow.{Bor}
use Rattle.std.proofs.lemmas.List.{map-append}
use Rattle.std.proofs.lemmas.List.Elements.{All-append}
use Rattle.cube.specs.Cube.{Cube, HasSize}
use Rattle.rows.specs.Places.{behind}
use Rattle.cover.proofs.references.references_to_both.Goals as goal

pub returns-clause-cubes : goal.returns-clause-cubes
returns-clause-cubes c =
    ap behind c.in_ok-append.ensures.items ∙ map-append (λ r. r.now) c.in_ok-refs.refs.items c.in_ok-others.others.items
    ∙ ap (λ l. l ++ behind c.in_ok-others.others.items) c.in_ok-refs.ensures.cubes ∙ ap (λ l. c.args.list.now.cubes ++ l) c.in_ok-others.ensures.cubes

pub returns-clause-sizes : goal.returns-clause-sizes
returns-clause-sizes c =
    let sized : Bor Cube → Type 0 = λ d. HasSize d.now c.args.list.now.size in
    subst (All sized) (sym c.in_ok-append.ensures.items)
    (All-append sized c.in_ok-refs.refs.items c.in_ok-others.others.items c.in_ok-refs.ensures.sizes
    (subst (λ z. All (λ d. HasSize d.now z) c.in_ok-others.others.items) c.requires c.in_ok-others.ensures.sizes))
