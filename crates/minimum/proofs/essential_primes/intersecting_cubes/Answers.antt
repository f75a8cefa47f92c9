use Rattle.std.proofs.Common.{List, ◌++◌, ◌∷◌, [], ap, ◌∙◌, inl, inr}
use Rattle.cube.specs.Cube.{Cube}
use Rattle.minimum.specs.EssentialPrimes.{intersects_cube}
use Rattle.minimum.proofs.Filters.{filter_next, filter_done}
use Rattle.minimum.proofs.essential_primes.intersecting_cubes.Goals as goal
use Rattle.minimum.proofs.essential_primes.intersecting_cubes.Goals.{then-intersects_cube+in_ok-try_clone+in_ok-push, else-intersects_cube}

pub loop-cube-preserved : goal.loop-cube-preserved
loop-cube-preserved c =
    let kept = c.loop-cube.kept.items in
    let cube = c.cube-item.result in
    filter_next (intersects_cube c.args.prime.now) c.args.cubes.now c.loop-cube.cube-index kept c.loop-cube.invariant cube cube c.loop-cube-test.true c.cube-item.is
    c.intersects_cube.result c.intersects_cube.ensures c.if-intersects_cube.kept.items (elim c.if-intersects_cube.branch [
      | then-intersects_cube+in_ok-try_clone+in_ok-push w ↦
          let same = ap (λ d. kept ++ d ∷ []) w.in_ok-try_clone.ensures.value in
          inl (w.if-intersects_cube.true, ◌∙◌ {A = List Cube} (ap (λ k. k.items) w.kept-is) (◌∙◌ {A = List Cube} w.in_ok-push.ensures.items same))
      | else-intersects_cube w ↦ inr (w.if-intersects_cube.false, ap (λ k. k.items) w.kept-is)
    ])

pub returns : goal.returns
returns c = filter_done (intersects_cube c.args.prime.now) c.args.cubes.now c.loop-cube.cube-index c.loop-cube.kept.items c.loop-cube.invariant c.loop-cube-test.false
