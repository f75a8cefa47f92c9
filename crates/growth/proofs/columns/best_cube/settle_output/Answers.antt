use Rattle.std.proofs.Common.{◌≡◌, ◌∙◌, ◌≤◌, ℕ, false, Some, slice_get, ap, not, sym, arith}
use Rattle.cube.specs.Literals.{is_opposite}
use Rattle.std.proofs.lemmas.Option.{get_or_from_slice_get}
use Rattle.growth.proofs.FirstPrimes.{from_none, member_at, output_refused}
use Rattle.growth.proofs.GrowthSteps.{HasOutputAdded, all_with, in_wide, widened_settles, widened_symbols}
use Rattle.growth.proofs.columns.best_cube.settle_output.Goals as goal
use Rattle.growth.proofs.columns.best_cube.settle_output.Goals.{In-Some-2}

widened : (c : In-Some-2) → HasOutputAdded c.args.off.now.size c.args.cube.now c.args.j c.in_ok-output.output c.in-Some-2.wide
widened c =
    record {
      cube = c.requires.cube;
      below = c.requires.output;
      output = c.in_ok-output.ensures ∙ ap (λ z. all_with z c.args.j) c.shape.ensures.size;
      same = rw c.in-Some-2.is at c.in_ok-wide.ensures.size;
      stacked = rw c.in-Some-2.is at c.in_ok-wide.ensures.places;
    }

pub returns-then-output-2-clause-settled : goal.returns-then-output-2-clause-settled
returns-then-output-2-clause-settled c none =
    let off = c.args.off.now in
    let row = c.in-Some-get.row.now in
    let at : slice_get off.cubes c.in-Some.r ≡ Some row = sym c.in-Some-get.ensures.value in
    output_refused off c.args.cube.now row c.args.j c.requires.cube c.in-Some-get.ensures.is_cube (member_at off.cubes c.in-Some.r row at)
    (get_or_from_slice_get row.outputs c.args.j c.output-in-Some.result false c.output-in-Some.ensures ∙ c.if-output-2.true)
    (λ k. from_none c.next_opposite.result ((j : ℕ) → 0 ≤ j → is_opposite c.args.cube.now row j ≡ false) c.next_opposite.ensures.none (c.is_none.ensures ∙ ap not none) k (omega arith))

pub returns-clause-over : goal.returns-clause-over
returns-clause-over c = in_wide (widened (goal.at.returns-clause-over c).In-Some-2)

pub returns-clause-symbols : goal.returns-clause-symbols
returns-clause-symbols c = widened_symbols (widened (goal.at.returns-clause-symbols c).In-Some-2)

pub returns-clause-settled : goal.returns-clause-settled
returns-clause-settled c _ = widened_settles (widened (goal.at.returns-clause-settled c).In-Some-2)
