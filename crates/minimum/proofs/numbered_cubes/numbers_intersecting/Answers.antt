use Rattle.std.proofs.Common.{◌∙◌, ap, get_or, refl, inl, inr}
use Rattle.minimum.specs.PrimeRows.{intersects_region}
use Rattle.minimum.proofs.Filters.{filter_next, filter_done}
use Rattle.minimum.proofs.numbered_cubes.numbers_intersecting.Goals as goal
use Rattle.minimum.proofs.numbered_cubes.numbers_intersecting.Goals.{then-intersects_region+in_ok-push, else-intersects_region}

pub intersects_region-requires-clause-below : goal.intersects_region-requires-clause-below
intersects_region-requires-clause-below c = c.requires.below c.loop-number.number-index 0 c.loop-number-test.true

pub loop-number-preserved : goal.loop-number-preserved
loop-number-preserved c =
    let numbers = c.args.numbers.now in
    let i = c.loop-number.number-index in
    filter_next (intersects_region c.args.cubes.now c.args.region.now) numbers i c.loop-number.kept.items c.loop-number.invariant 0 (get_or numbers i 0)
    c.loop-number-test.true refl c.intersects_region.result c.intersects_region.ensures c.if-intersects_region.kept.items (elim c.if-intersects_region.branch [
      | then-intersects_region+in_ok-push w ↦ inl (w.if-intersects_region.true, ap (λ k. k.items) w.kept-is ∙ w.in_ok-push.ensures.items)
      | else-intersects_region w ↦ inr (w.if-intersects_region.false, ap (λ k. k.items) w.kept-is)
    ])

pub returns : goal.returns
returns c =
    filter_done (intersects_region c.args.cubes.now c.args.region.now) c.args.numbers.now c.loop-number.number-index c.loop-number.kept.items c.loop-number.invariant
    c.loop-number-test.false
