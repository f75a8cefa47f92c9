use Rattle.std.proofs.Common.{◌∙◌, ◌||◌, ap, get_or, sym}
use Rattle.std.specs.List.{list_any}
use Rattle.std.proofs.lemmas.List.{take_all}
use Rattle.std.proofs.lemmas.List.Folds.{list_any_at, list_any_more}
use Rattle.minimum.specs.PrimeRows.{contains_region}
use Rattle.minimum.proofs.numbered_cubes.any_contains.Goals as goal

pub contains_region-requires-clause-below : goal.contains_region-requires-clause-below
contains_region-requires-clause-below c = c.requires.below c.loop-number.number-index 0 c.loop-number-test.true

pub returns-then-contains_region : goal.returns-then-contains_region
returns-then-contains_region c =
    sym (list_any_at (contains_region c.args.cubes.now c.args.region.now) c.args.numbers.now c.loop-number.number-index 0 c.loop-number-test.true (sym c.contains_region.ensures ∙ c.if-contains_region.true))

pub loop-number-preserved : goal.loop-number-preserved
loop-number-preserved c =
    let test = contains_region c.args.cubes.now c.args.region.now in
    let number = get_or c.args.numbers.now c.loop-number.number-index 0 in
    list_any_more test c.args.numbers.now c.loop-number.number-index 0 c.loop-number-test.true
    ∙ ap (λ b. b || test number) c.loop-number.invariant ∙ sym c.contains_region.ensures ∙ c.if-contains_region.false

pub returns : goal.returns
returns c =
    sym c.loop-number.invariant ∙ ap (list_any (contains_region c.args.cubes.now c.args.region.now)) (take_all c.loop-number.number-index c.args.numbers.now c.loop-number-test.false)
