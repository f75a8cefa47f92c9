use Rattle.std.proofs.Common.{◌≡◌, List, ◌∙◌, ◌↔◌, ◌++◌, ◌∷◌, [], IsTrue, ap, sym, subst, take, IfSome, Some, is_some}
use Rattle.std.proofs.lemmas.Bool.{false≢true}
use Rattle.cube.specs.Cofactor.{cofactor}
use Rattle.std.proofs.lemmas.List.{take_all}
use Rattle.cube.specs.Size.{Size}
use Rattle.cube.specs.Cube.{Cube, holds, IsSubset, HasSize, IsCube}
use Rattle.rows.specs.Cubes.{AreCubes, Cubes}
use Rattle.cover.specs.Cofactor.{cofactors}
use Rattle.rows.specs.Places.{places, holds_all}
use Rattle.sums.proofs.OverRegion.{size_of-is}
use Rattle.cover.proofs.Cofactors.{AreCubes-cofactors, cofactors-keep, cofactors-skip, holds_all-cofactors}
use Rattle.cover.proofs.list.Cover.cofactor.Goals as goal
use Rattle.cover.proofs.list.Cover.cofactor.Goals.{in-Some+in_ok-push-in-Some, in-None}

pub loop-row-preserved : goal.loop-row-preserved
loop-row-preserved c =
    let size = c.args.self.now.size in
    let cube = c.args.cube.now in
    let rows = c.as_slice-row-items.result.now in
    let i = c.loop-row.row-index in
    let d = c.row-item.result in
    let are : AreCubes size rows = c.as_slice-row-items.ensures.cubes in
    let d_size : HasSize d size = subst (λ x. HasSize x size) (sym c.row-item.is) (are i d c.loop-row-test.true).has_size in
    elim c.match-branch-2.branch [
      | in-Some+in_ok-push-in-Some w ↦
          let found : IfSome (Some w.in-Some.row) (λ x. x ≡ cofactor d cube) =
          subst (λ o. IfSome o (λ x. x ≡ cofactor d cube)) w.in-Some.is c.in_ok-row.ensures.value in
          ap (λ x. x.items) w.left-is ∙ w.in_ok-push-in-Some.ensures.items
          ∙ ap (λ l. l ++ w.in-Some.row ∷ []) c.loop-row.invariant
          ∙ ap (λ x. cofactors size cube (take i rows) ++ x ∷ []) found
          ∙ sym (cofactors-keep size cube rows i d c.loop-row-test.true c.row-item.is d_size (λ apart.
          false≢true (sym (c.in_ok-row.ensures.none.1 apart) ∙ ap is_some w.in-Some.is)))
      | in-None w ↦
          ap (λ x. x.items) w.left-is ∙ c.loop-row.invariant
          ∙ sym (cofactors-skip size cube rows i d c.loop-row-test.true c.row-item.is d_size (c.in_ok-row.ensures.none.0 (ap is_some w.in-None.is)))
    ]

pub from_cubes-requires : goal.from_cubes-requires
from_cubes-requires c =
    let size = c.args.self.now.size in
    let rows = c.as_slice-row-items.result.now in
    let are : AreCubes size rows = c.as_slice-row-items.ensures.cubes in
    let same : size ≡ c.shape.result = sym (size_of-is c.args.cube.now size c.requires) ∙ size_of-is c.args.cube.now c.shape.result c.shape.ensures.size in
    subst (λ z. AreCubes z c.loop-row.left.items) same
    (AreCubes-cofactors size c.args.cube.now rows c.loop-row.left.items c.requires are
    (c.loop-row.invariant ∙ ap (cofactors size c.args.cube.now) (take_all c.loop-row.row-index rows c.loop-row-test.false)))

pub returns : goal.returns
returns c =
    let size = c.args.self.now.size in
    let rows = c.as_slice-row-items.result.now in
    let v : rows ≡ c.args.self.now.cubes = c.as_slice-row-items.ensures.value in
    let same : size ≡ c.shape.result = sym (size_of-is c.args.cube.now size c.requires) ∙ size_of-is c.args.cube.now c.shape.result c.shape.ensures.size in
    let left : c.loop-row.left.items ≡ cofactors size c.args.cube.now c.args.self.now.cubes =
    c.loop-row.invariant ∙ ap (cofactors size c.args.cube.now) (take_all c.loop-row.row-index rows c.loop-row-test.false ∙ v) in
    let made : Size → List Cube → Cubes = λ z l. record { size = z; cubes = l } in
    let e : c.from_cubes.result ≡ record { size = size; cubes = cofactors size c.args.cube.now c.args.self.now.cubes } =
    c.from_cubes.ensures ∙ ap (λ z. made z c.loop-row.left.items) (sym same) ∙ ap (made size) left in
    let cube : IsCube size c.args.cube.now = record { has_size = c.requires; some_output = c.shape.ensures.is_cube.some_output } in
    record {
      value = e;
      places = subst (λ x. IsTrue (holds_all x.size (places x.cubes)) ↔ IsSubset (holds c.args.cube.now) (places c.args.self.now.cubes)) (sym e)
          (holds_all-cofactors size c.args.cube.now c.args.self.now.cubes cube (subst (AreCubes size) v c.as_slice-row-items.ensures.cubes));
    }
