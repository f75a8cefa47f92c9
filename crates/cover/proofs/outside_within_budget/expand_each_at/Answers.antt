use Rattle.std.proofs.Common.{◌∙◌, sym, subst, ◌∷◌, [], arith}
use Rattle.std.proofs.lemmas.List.Elements.{All-nil, All-same}
use Rattle.cube.specs.Cube.{IsCube, holds, difference}
use Rattle.rows.specs.Cubes.{AreCubes}
use Rattle.rows.specs.Places.{places}
use Rattle.sums.specs.Outside.{Extends}
use Rattle.rows.proofs.Lists.{all_members}
use Rattle.rows.proofs.SumRows.{sizes}
use Rattle.sums.proofs.OffSets.{AreCubes-one, AreCubes-append, Extends-more}
use Rattle.cover.proofs.outside_within_budget.expand_each_at.Goals as goal

pub loop-cube-init : goal.loop-cube-init
loop-cube-init c = record {
  are_cubes = λ size cubes. All-same (IsCube size) c.new-larger.result.items [] c.new-larger.ensures.items (All-nil (IsCube size));
  extends = subst (λ l. Extends (difference (holds c.args.region.now) (places c.args.rows.now)) (places []) (places l)) (sym c.new-larger.ensures.items)
      (record { over = λ p h. h; within = λ h p k. h p k });
}

pub expand_at-requires : goal.expand_at-requires
expand_at-requires c =
    let size = c.requires.0 in
    let cube = c.cube-item.result in
    let is = all_members (IsCube size) c.args.cubes.now c.requires.4 cube (c.loop-cube.cube-index, c.loop-cube-test.true, sym c.cube-item.is) in
    record {
      region = (c.requires.2.0 ∙ sym is.has_size.0, c.requires.2.1 ∙ sym is.has_size.1);
      rows = sizes size cube c.args.rows.now is c.requires.3;
      input = omega (arith, is.has_size.0, c.requires.1);
    }

pub loop-cube-preserved : goal.loop-cube-preserved
loop-cube-preserved c =
    let s = difference (holds c.args.region.now) (places c.args.rows.now) in
    let done = c.loop-cube.larger.items in
    let more = c.in_ok-expand_at.field-0 in
    let cube = c.cube-item.result in
    record {
      are_cubes = λ size cubes.
          let is = all_members (IsCube size) c.args.cubes.now cubes cube (c.loop-cube.cube-index, c.loop-cube-test.true, sym c.cube-item.is) in
          subst (AreCubes size) (sym c.in_ok-push.ensures.items)
          (AreCubes-append size done (more ∷ []) (c.loop-cube.invariant.are_cubes size cubes) (AreCubes-one size more (c.in_ok-expand_at.ensures.cube size is)));
      extends = Extends-more s c.args.cubes.now c.loop-cube.cube-index cube more done c.push.new.self.items c.loop-cube-test.true c.cube-item.is c.in_ok-push.ensures.items
          c.loop-cube.invariant.extends c.in_ok-expand_at.ensures.extends;
    }
