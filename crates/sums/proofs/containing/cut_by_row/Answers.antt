use Rattle.std.proofs.Common.{◌≡◌, ◌∙◌, ◌+◌, [], sym, subst, take, All}
use Rattle.std.proofs.lemmas.List.{take_all}
use Rattle.std.proofs.lemmas.List.Elements.{All-same}
use Rattle.std.proofs.lemmas.Result.{IfOk-weaker}
use Rattle.cube.specs.Cube.{IsCube, IsDisjoint, holds}
use Rattle.rows.specs.Cubes.{AreCubes}
use Rattle.rows.specs.Reduced.{IsWithoutAbsorbed}
use Rattle.sums.specs.Containing.{ArePieces, IsCut}
use Rattle.rows.proofs.Lists.{all_members, members_all}
use Rattle.sums.proofs.OverRegion.{size_of-is, IsCut-none, IsCut-kept, IsCut-pieces, IsCut-absorbed, AreCubes-cut, Cuts-none, Cuts-all}
use Rattle.sums.proofs.containing.cut_by_row.Goals as goal
use Rattle.sums.proofs.containing.cut_by_row.Goals.{then-disjoint+in_ok-push_copy, else-disjoint+in_ok-more+in_ok-rest}

pub returns-then-not-any_meets-clause-cuts : goal.returns-then-not-any_meets-clause-cuts
returns-then-not-any_meets-clause-cuts c =
    Cuts-none c.args.shape c.args.region.now c.args.row.now c.args.cubes.items
    (subst (All (λ d. IsDisjoint (holds d) (holds c.args.row.now))) c.deref.ensures.value (c.any_meets.ensures.0 c.if-not-any_meets.true))

pub loop-cube-init : goal.loop-cube-init
loop-cube-init c =
    subst (λ l. IsCut c.args.shape c.args.region.now c.args.row.now [] l c.new-rest.result.items) (sym c.new-kept.ensures.items)
    (subst (λ l. IsCut c.args.shape c.args.region.now c.args.row.now [] [] l) (sym c.new-rest.ensures.items) (IsCut-none c.args.shape c.args.region.now c.args.row.now))

pub loop-cube-preserved : goal.loop-cube-preserved
loop-cube-preserved c =
    let size = c.args.shape in
    let region = c.args.region.now in
    let row = c.args.row.now in
    let cubes = c.deref-cube-items.result.now in
    let at = c.loop-cube.cube-index in
    let cube = c.cube-item.result in
    let kept = c.loop-cube.kept.items in
    let rest = c.loop-cube.rest.items in
    let are : AreCubes size cubes = All-same (IsCube size) cubes c.args.cubes.items c.deref-cube-items.ensures.value c.requires.cubes in
    elim c.if-disjoint.branch [
      | then-disjoint+in_ok-push_copy w ↦
          subst (λ v. IsCut size region row (take (at + 1) cubes) v.items c.if-disjoint.rest.items) (sym w.kept-is)
          (subst (λ v. IsCut size region row (take (at + 1) cubes) w.push_copy.new.rows.items v.items) (sym w.rest-is)
          (IsCut-kept size region row cubes at cube kept rest are c.loop-cube-test.true c.cube-item.is c.loop-cube.invariant w.push_copy.new.rows.items
          w.in_ok-push_copy.ensures (c.disjoint.ensures.0 w.if-disjoint.true)))
      | else-disjoint+in_ok-more+in_ok-rest w ↦
          subst (λ v. IsCut size region row (take (at + 1) cubes) v.items c.if-disjoint.rest.items) (sym w.kept-is)
          (subst (λ v. IsCut size region row (take (at + 1) cubes) kept v.items) (sym w.rest-is)
          (IsCut-pieces size region row cubes at cube kept rest are c.loop-cube-test.true c.cube-item.is c.loop-cube.invariant w.in_ok-more.more.items w.in_ok-rest.rest.items
          w.in_ok-rest.ensures (subst (λ z. ArePieces z region row cube w.in_ok-more.more.items) (size_of-is region size c.requires.region) w.in_ok-more.ensures)))
    ]

pub drop_absorbed_by-requires : goal.drop_absorbed_by-requires
drop_absorbed_by-requires c =
    let size = c.args.shape in
    record {
      size = size;
      are_cubes = All-same (IsCube size) c.deref-2.result.now c.in_ok-pieces.pieces.items c.deref-2.ensures.value
          (members_all (IsCube size) c.in_ok-pieces.pieces.items (λ d h. all_members (IsCube size) c.loop-cube.rest.items c.loop-cube.invariant.piece_cubes d (c.in_ok-pieces.ensures.within d h)));
      are_others = All-same (IsCube size) c.deref-3.result.now c.loop-cube.kept.items c.deref-3.ensures.value c.loop-cube.invariant.kept_cubes;
    }

pub returns-clause-cubes : goal.returns-clause-cubes
returns-clause-cubes c =
    let size = c.args.shape in
    let region = c.args.region.now in
    let row = c.args.row.now in
    let kept = c.loop-cube.kept.items in
    let seen = take c.loop-cube.cube-index c.deref-cube-items.result.now in
    IfOk-weaker c.rows_of_both-2.result _ _ (λ v h. AreCubes-cut size region row seen kept c.in_ok-left.left.items v.items h
    (IsCut-absorbed size region row seen kept c.loop-cube.rest.items c.in_ok-pieces.pieces.items c.in_ok-left.left.items c.in_ok-pieces.ensures
    (subst (λ l. IsWithoutAbsorbed l kept c.in_ok-left.left.items) c.deref-2.ensures.value (subst (λ l. IsWithoutAbsorbed c.deref-2.result.now l c.in_ok-left.left.items) c.deref-3.ensures.value c.in_ok-left.ensures))
    c.loop-cube.invariant)) c.rows_of_both-2.ensures

pub returns-clause-cuts : goal.returns-clause-cuts
returns-clause-cuts c =
    let size = c.args.shape in
    let region = c.args.region.now in
    let row = c.args.row.now in
    let kept = c.loop-cube.kept.items in
    let whole : take c.loop-cube.cube-index c.deref-cube-items.result.now ≡ c.args.cubes.items = take_all c.loop-cube.cube-index c.deref-cube-items.result.now c.loop-cube-test.false ∙ c.deref-cube-items.ensures.value in
    IfOk-weaker c.rows_of_both-2.result _ _ (λ v h. Cuts-all size region row c.args.cubes.items kept c.in_ok-left.left.items v.items h
    (IsCut-absorbed size region row c.args.cubes.items kept c.loop-cube.rest.items c.in_ok-pieces.pieces.items c.in_ok-left.left.items c.in_ok-pieces.ensures
    (subst (λ l. IsWithoutAbsorbed l kept c.in_ok-left.left.items) c.deref-2.ensures.value (subst (λ l. IsWithoutAbsorbed c.deref-2.result.now l c.in_ok-left.left.items) c.deref-3.ensures.value c.in_ok-left.ensures))
    (subst (λ l. IsCut size region row l kept c.loop-cube.rest.items) whole c.loop-cube.invariant))) c.rows_of_both-2.ensures
