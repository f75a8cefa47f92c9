use Rattle.std.proofs.Common.{◌∙◌, ap, get_or, refl, inl, inr}
use Rattle.minimum.specs.PrimeRows.{has_output}
use Rattle.minimum.proofs.Filters.{filter_next, filter_done}
use Rattle.minimum.proofs.numbered_cubes.numbers_with_output.Goals as goal
use Rattle.minimum.proofs.numbered_cubes.numbers_with_output.Goals.{then-has_output+in_ok-push, else-has_output}

pub has_output-requires-clause-below : goal.has_output-requires-clause-below
has_output-requires-clause-below c = c.requires.below c.loop-number.number-index 0 c.loop-number-test.true

pub loop-number-preserved : goal.loop-number-preserved
loop-number-preserved c =
    let numbers = c.args.numbers.now in
    let i = c.loop-number.number-index in
    filter_next (has_output c.args.list.now.cubes c.args.j) numbers i c.loop-number.kept.items c.loop-number.invariant 0 (get_or numbers i 0)
    c.loop-number-test.true refl c.has_output.result c.has_output.ensures c.if-has_output.kept.items (elim c.if-has_output.branch [
      | then-has_output+in_ok-push w ↦ inl (w.if-has_output.true, ap (λ k. k.items) w.kept-is ∙ w.in_ok-push.ensures.items)
      | else-has_output w ↦ inr (w.if-has_output.false, ap (λ k. k.items) w.kept-is)
    ])

pub returns : goal.returns
returns c =
    filter_done (has_output c.args.list.now.cubes c.args.j) c.args.numbers.now c.loop-number.number-index c.loop-number.kept.items c.loop-number.invariant
    c.loop-number-test.false
