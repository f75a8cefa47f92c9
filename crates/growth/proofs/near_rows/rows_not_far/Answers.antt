use Rattle.std.proofs.Common.{◌∷◌, ◌++◌, [], ap, sym, subst, ◌∙◌}
use Rattle.std.proofs.lemmas.List.{take_all}
use Rattle.std.proofs.lemmas.List.Elements.{All-append, All-cons, All-nil}
use Rattle.cube.specs.Cube.{IsCube, SameSize}
use Rattle.cover.specs.Cubes.{AreCubes}
use Rattle.cover.specs.Places.{places}
use Rattle.growth.proofs.Near.{AreNearSoFar, near_kept, near_left}
use Rattle.growth.proofs.near_rows.rows_not_far.Goals as goal
use Rattle.growth.proofs.near_rows.rows_not_far.Goals.{then-not-is_far+in_ok-try_clone+in_ok-push, else-not-is_far}

pub loop-row-preserved : goal.loop-row-preserved
loop-row-preserved c =
    let rows = c.as_slice-row-items.result.now in
    let k = c.loop-row.row-index in
    let lt = c.loop-row-test.true in
    let row = c.row-item.result in
    let at = c.row-item.is in
    let cube = c.args.cube.now in
    let old = c.loop-row.near.items in
    let size = c.args.rows.now.size in
    let is_cube = subst (IsCube size) (sym at) (c.as_slice-row-items.ensures.cubes k row lt) in
    let same : SameSize row cube = (is_cube.has_size.0 ∙ sym c.requires.0, is_cube.has_size.1 ∙ sym c.requires.1) in
    elim c.if-not-is_far.branch [
      | then-not-is_far+in_ok-try_clone+in_ok-push w ↦ (
          let is = ap (λ z. z.items) w.near-is ∙ w.in_ok-push.ensures.items ∙ ap (λ d. old ++ d ∷ []) w.in_ok-try_clone.ensures.value in
          record {
            cubes = subst (AreCubes size) (sym is) (All-append (IsCube size) old (row ∷ []) c.loop-row.invariant.cubes (All-cons (IsCube size) row [] is_cube (All-nil (IsCube size))));
            same = near_kept cube rows k row lt at old c.loop-row.invariant.same _ is;
          })
      | else-not-is_far w ↦ (
          let is = ap (λ z. z.items) w.near-is in
          record {
            cubes = subst (AreCubes size) (sym is) c.loop-row.invariant.cubes;
            same = subst (AreNearSoFar cube _) (sym is) (near_left cube rows k row lt at old c.loop-row.invariant.same same (c.is_far.ensures w.if-not-is_far.false));
          })
    ]

pub from_cubes-requires : goal.from_cubes-requires
from_cubes-requires c = subst (λ n. AreCubes n c.loop-row.near.items) (sym c.shape.ensures.size) c.loop-row.invariant.cubes

pub returns : goal.returns
returns c =
    let rows = c.as_slice-row-items.result.now in
    record {
      size = ap (λ k. k.size) c.from_cubes.ensures ∙ c.shape.ensures.size;
      same = λ p beside. ap (λ k. places k.cubes p) c.from_cubes.ensures ∙ c.loop-row.invariant.same p beside
          ∙ ap (λ l. places l p) (take_all c.loop-row.row-index rows c.loop-row-test.false ∙ c.as_slice-row-items.ensures.value);
    }
