use Rattle.std.proofs.Common.{◌≡◌, ◌∙◌, List, All, ap, sym, subst}
use Rattle.std.specs.Borrow.{Bor}
use Rattle.std.specs.List.{AllZip}
use Rattle.std.proofs.lemmas.Result.{IfOk-weaker}
use Rattle.cube.specs.Cube.{Cube, HasSize}
use Rattle.regions.specs.LeftOut.{LeavesOut}
use Rattle.rows.specs.Places.{behind}
use Rattle.regions.proofs.LeftOut.{held_by_nones, left_out_by_somes}
use Rattle.cover.proofs.list.Cover.parts_left_out.Goals as goal

pub part_left_out_of_each-requires-clause-rows : goal.part_left_out_of_each-requires-clause-rows
part_left_out_of_each-requires-clause-rows c =
    let sized : List (Bor Cube) → Type 0 = All (λ d. HasSize d.now c.shape-shape.result) in
    subst sized (sym c.deref.ensures.value)
    (subst (λ z. All (λ d. HasSize d.now z) c.in_ok-rows.rows.items) (sym c.shape-shape.ensures.size) c.in_ok-rows.ensures.sizes)

pub part_left_out_of_each-requires-clause-regions : goal.part_left_out_of_each-requires-clause-regions
part_left_out_of_each-requires-clause-regions c =
    subst (λ z. All (λ d. HasSize d z) c.args.cubes.now) (sym c.shape-shape.ensures.size) c.requires

pub returns-clause-held : goal.returns-clause-held
returns-clause-held c =
    let cubes = c.args.cubes.now in
    let rows : behind c.deref.result.now ≡ c.args.self.now.cubes = ap behind c.deref.ensures.value ∙ c.in_ok-rows.ensures.cubes in
    IfOk-weaker c.part_left_out_of_each.result _ _
    (λ parts h. held_by_nones c.args.self.now.size c.args.self.now.cubes cubes parts.items
    (subst (λ z. AllZip (LeavesOut z c.args.self.now.cubes) cubes parts.items) c.shape-shape.ensures.size
    (subst (λ l. AllZip (LeavesOut c.shape-shape.result l) cubes parts.items) rows h)))
    c.part_left_out_of_each.ensures

pub returns-clause-left_out : goal.returns-clause-left_out
returns-clause-left_out c =
    let cubes = c.args.cubes.now in
    let rows : behind c.deref.result.now ≡ c.args.self.now.cubes = ap behind c.deref.ensures.value ∙ c.in_ok-rows.ensures.cubes in
    IfOk-weaker c.part_left_out_of_each.result _ _
    (λ parts h. left_out_by_somes c.args.self.now.size c.args.self.now.cubes cubes parts.items
    (subst (λ z. AllZip (LeavesOut z c.args.self.now.cubes) cubes parts.items) c.shape-shape.ensures.size
    (subst (λ l. AllZip (LeavesOut c.shape-shape.result l) cubes parts.items) rows h)))
    c.part_left_out_of_each.ensures
