use Rattle.std.proofs.Common.{List, ◌++◌, ◌∷◌, [], ap, ◌∙◌, inl, inr}
use Rattle.cube.specs.Cube.{Cube}
use Rattle.minimum.specs.EssentialPrimes.{is_rival}
use Rattle.minimum.proofs.Filters.{filter_next, filter_done}
use Rattle.minimum.proofs.essential_primes.rivals.Goals as goal
use Rattle.minimum.proofs.essential_primes.rivals.Goals.{then-is_rival+in_ok-try_clone+in_ok-push, else-is_rival}

pub loop-cube-preserved : goal.loop-cube-preserved
loop-cube-preserved c =
    let kept = c.loop-cube.kept.items in
    let cube = c.cube-item.result in
    filter_next (is_rival c.args.prime.now) c.args.cubes.now c.loop-cube.cube-index kept c.loop-cube.invariant cube cube c.loop-cube-test.true c.cube-item.is
    c.is_rival.result c.is_rival.ensures c.if-is_rival.kept.items (elim c.if-is_rival.branch [
      | then-is_rival+in_ok-try_clone+in_ok-push w ↦
          let same = ap (λ d. kept ++ d ∷ []) w.in_ok-try_clone.ensures.value in
          inl (w.if-is_rival.true, ◌∙◌ {A = List Cube} (ap (λ k. k.items) w.kept-is) (◌∙◌ {A = List Cube} w.in_ok-push.ensures.items same))
      | else-is_rival w ↦ inr (w.if-is_rival.false, ap (λ k. k.items) w.kept-is)
    ])

pub returns : goal.returns
returns c = filter_done (is_rival c.args.prime.now) c.args.cubes.now c.loop-cube.cube-index c.loop-cube.kept.items c.loop-cube.invariant c.loop-cube-test.false
