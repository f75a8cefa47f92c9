use Rattle.std.proofs.Common.{◌∙◌, ap, get_or, refl, inl, inr}
use Rattle.minimum.specs.PrimeRows.{contains_region}
use Rattle.minimum.proofs.Filters.{filter_next, filter_done}
use Rattle.minimum.proofs.numbered_cubes.numbers_containing.Goals as goal
use Rattle.minimum.proofs.numbered_cubes.numbers_containing.Goals.{then-contains_region+in_ok-push, else-contains_region}

pub contains_region-requires-clause-below : goal.contains_region-requires-clause-below
contains_region-requires-clause-below c = c.requires.below c.loop-number.number-index 0 c.loop-number-test.true

pub loop-number-preserved : goal.loop-number-preserved
loop-number-preserved c =
    let numbers = c.args.numbers.now in
    let i = c.loop-number.number-index in
    filter_next (contains_region c.args.cubes.now c.args.region.now) numbers i c.loop-number.kept.items c.loop-number.invariant 0 (get_or numbers i 0)
    c.loop-number-test.true refl c.contains_region.result c.contains_region.ensures c.if-contains_region.kept.items (elim c.if-contains_region.branch [
      | then-contains_region+in_ok-push w ↦ inl (w.if-contains_region.true, ap (λ k. k.items) w.kept-is ∙ w.in_ok-push.ensures.items)
      | else-contains_region w ↦ inr (w.if-contains_region.false, ap (λ k. k.items) w.kept-is)
    ])

pub returns : goal.returns
returns c =
    filter_done (contains_region c.args.cubes.now c.args.region.now) c.args.numbers.now c.loop-number.number-index c.loop-number.kept.items c.loop-number.invariant
    c.loop-number-test.false
