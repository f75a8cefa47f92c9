use Rattle.std.proofs.Common.{◌≡◌, ◌∙◌, List, ap, subst}
use Rattle.std.proofs.lemmas.Result.{IfOk-weaker}
use Rattle.cube.specs.Cube.{Cube, size_of}
use Rattle.rows.specs.Cubes.{AreCubes}
use Rattle.regions.specs.LeftOut.{LeavesOut}
use Rattle.rows.specs.Places.{behind}
use Rattle.regions.proofs.LeftOut.{leaves_out_at, held_by_none, left_out_by_some}
use Rattle.rows.proofs.Lists.{sizes_of_cubes}
use Rattle.cover.proofs.list.Cover.part_left_out.Goals as goal

pub part_left_out-requires : goal.part_left_out-requires
part_left_out-requires c =
    sizes_of_cubes c.args.self.now.size c.args.self.now.cubes (subst (λ l. AreCubes c.args.self.now.size l) c.as_slice.ensures.value c.as_slice.ensures.cubes) c.deref.result.now
    (ap behind c.deref.ensures.value ∙ c.in_ok-rows.ensures ∙ c.as_slice.ensures.value) c.args.cube.now c.requires

pub returns-clause-held : goal.returns-clause-held
returns-clause-held c =
    let size = c.args.self.now.size in
    let same : behind c.deref.result.now ≡ c.args.self.now.cubes = ap behind c.deref.ensures.value ∙ c.in_ok-rows.ensures ∙ c.as_slice.ensures.value in
    IfOk-weaker c.part_left_out.result _ _
    (λ found h. held_by_none size c.args.self.now.cubes c.args.cube.now found
    (leaves_out_at (size_of c.args.cube.now) size c.args.self.now.cubes c.args.cube.now c.requires.0 c.requires.1 found
    (subst (λ (l : List Cube). LeavesOut (size_of c.args.cube.now) l c.args.cube.now found) same h)))
    c.part_left_out.ensures

pub returns-clause-left_out : goal.returns-clause-left_out
returns-clause-left_out c =
    let size = c.args.self.now.size in
    let same : behind c.deref.result.now ≡ c.args.self.now.cubes = ap behind c.deref.ensures.value ∙ c.in_ok-rows.ensures ∙ c.as_slice.ensures.value in
    IfOk-weaker c.part_left_out.result _ _
    (λ found h. left_out_by_some size c.args.self.now.cubes c.args.cube.now found
    (leaves_out_at (size_of c.args.cube.now) size c.args.self.now.cubes c.args.cube.now c.requires.0 c.requires.1 found
    (subst (λ (l : List Cube). LeavesOut (size_of c.args.cube.now) l c.args.cube.now found) same h)))
    c.part_left_out.ensures
