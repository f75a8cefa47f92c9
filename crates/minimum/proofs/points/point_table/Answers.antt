use Rattle.std.proofs.Common.{◌∙◌, ◌++◌, ◌∷◌, [], ap, ap₂, sym, subst, length, map, take}
use Rattle.std.proofs.lemmas.List.{map-append, take_all, take_more}
use Rattle.cube.specs.Cube.{literals}
use Rattle.covering.specs.Table.{AreRows, fresh, items_of}
use Rattle.minimum.specs.Points.{holders}
use Rattle.minimum.proofs.points.point_table.Goals as goal

pub holders_of-requires-clause-sizes : goal.holders_of-requires-clause-sizes
holders_of-requires-clause-sizes c = c.requires.sizes c.point-item.result (c.loop-point.point-index, c.loop-point-test.true, sym c.point-item.is)

pub loop-point-preserved : goal.loop-point-preserved
loop-point-preserved c =
    let columns = c.args.columns.now.cubes in
    let points = c.args.points.now in
    let i = c.loop-point.point-index in
    let row = c.in_ok-holders_of.field-0 in
    ap (λ rows. items_of rows) c.in_ok-push.ensures.items
    ∙ map-append (λ r. r.items) c.loop-point.rows.items (row ∷ [])
    ∙ ap (λ l. l ++ row.items ∷ []) c.loop-point.invariant
    ∙ ap (λ l. map (holders columns) (take i points) ++ l ∷ []) c.in_ok-holders_of.ensures
    ∙ sym (map-append (holders columns) (take i points) (c.point-item.result ∷ []))
    ∙ ap (map (holders columns)) (ap (λ d. take i points ++ d ∷ []) c.point-item.is ∙ sym (take_more points i c.point-item.result c.loop-point-test.true))

pub unreachable-requires : goal.unreachable-requires
unreachable-requires c =
    let columns = c.args.columns.now.cubes in
    let none' = rw c.in-None.is at c.in_ok-table.ensures in
    let all = c.loop-point.invariant ∙ ap (map (holders columns)) (take_all c.loop-point.point-index c.args.points.now c.loop-point-test.false) in
    none' (subst (λ w. AreRows (length w) (items_of c.loop-point.rows.items)) (sym c.in_ok-weights.ensures) (subst (AreRows (length (map literals columns))) (sym all) c.requires.rows))

pub returns : goal.returns
returns c =
    let columns = c.args.columns.now.cubes in
    let some = rw c.in-Some.is at c.in_ok-table.ensures in
    some.1 ∙ ap₂ fresh (c.loop-point.invariant ∙ ap (map (holders columns)) (take_all c.loop-point.point-index c.args.points.now c.loop-point-test.false)) c.in_ok-weights.ensures
