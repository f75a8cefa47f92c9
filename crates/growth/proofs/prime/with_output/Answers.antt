use Rattle.std.proofs.Common.{◌↔◌, IsTrue, Bool, false, true, not, arith, refl, length, replicate, ap, sym, ◌∙◌}
use Rattle.std.proofs.lemmas.Bool.{false≢true}
use Rattle.std.proofs.lemmas.List.{length-set, length-replicate}
use Rattle.std.proofs.lemmas.Option.{get_or_from_slice_get}
use Rattle.cube.specs.declared.symbol.Symbol.TheVariants.{Dash}
use Rattle.cube.specs.Cube.{holds, IsSubset}
use Rattle.cube.proofs.SharpLemmas.{length-minus}
use Rattle.growth.specs.Growth.{on_side, near_or}
use Rattle.growth.proofs.GrowthSteps.{HasOutputAdded, all_with, grows_none, not_apart, rest_output, beside_wide, beside_rest, widened_grows, widened_settles, widened_symbols, unwidened_settles}
use Rattle.growth.proofs.Reached.{off_settles}
use Rattle.growth.proofs.Near.{answer_for_all, near_fewer}
use Rattle.growth.proofs.prime.with_output.Goals as goal
use Rattle.growth.proofs.prime.with_output.Goals.{After-is_implicant, In-Some}

widened : (c : In-Some) → HasOutputAdded c.args.rows.now.size c.args.growth.now.cube c.args.j c.in_ok-output.output c.in-Some.wide
widened c =
    record {
      cube = c.requires.is_cube;
      below = c.requires.output;
      output = c.in_ok-output.ensures ∙ ap (λ z. all_with z c.args.j) c.shape.ensures.size;
      same = rw c.in-Some.is at c.in_ok-wide.ensures.size;
      stacked = rw c.in-Some.is at c.in_ok-wide.ensures.places;
    }

asked : (c : After-is_implicant) → HasOutputAdded c.args.rows.now.size c.args.growth.now.cube c.args.j c.in_ok-output.output c.in-Some.wide → (b : Bool)
    → IsTrue b ↔ IsSubset (holds c.in_ok-rest.rest) (on_side c.args.side (near_or c.args.rows.now c.args.growth.now.near).cubes) → IsTrue b ↔ IsSubset (holds c.in_ok-rest.rest) (on_side c.args.side c.args.rows.now.cubes)
asked c w =
    let rows = c.args.rows.now in
    answer_for_all c.args.growth.now.cube rows (near_or rows c.args.growth.now.near) c.requires.near c.args.side c.in_ok-rest.rest
    (beside_rest w c.in_ok-rest.rest c.in_ok-rest.ensures.value)

-- ---- the calls

pub output-requires : goal.output-requires
output-requires c = let long = c.requires.is_cube.has_size.1 in let lt = c.requires.output in omega (arith, long, lt)

pub is_refused-requires : goal.is_refused-requires
is_refused-requires c = let size = c.requires.reached.size.1 in let long = c.requires.is_cube.has_size.1 in let lt = c.requires.output in omega (arith, size, long, lt)

pub output_consensus-requires : goal.output_consensus-requires
output_consensus-requires c =
    let rows = c.args.rows.now in
    let is = c.in_ok-output.ensures ∙ ap (λ z. all_with z c.args.j) c.shape.ensures.size in
    let own = c.requires.is_cube.has_size in (
      own.0 ∙ sym (ap (λ k. length k.symbols) is ∙ length-replicate rows.size.inputs Dash),
      own.1 ∙ sym (ap (λ k. length k.outputs) is ∙ length-set (replicate rows.size.outputs false) c.args.j true ∙ length-replicate rows.size.outputs false),
    )

pub unreachable-requires : goal.unreachable-requires
unreachable-requires c =
    not_apart c.args.rows.now.size c.args.growth.now.cube c.requires.is_cube c.args.j c.requires.output c.in_ok-output.output
    (c.in_ok-output.ensures ∙ ap (λ z. all_with z c.args.j) c.shape.ensures.size) (rw c.in_default.is at c.in_ok-wide.ensures.none)

pub without_outputs-requires-clause-size : goal.without_outputs-requires-clause-size
without_outputs-requires-clause-size c = (widened (goal.at.without_outputs-requires-clause-size c).In-Some).same

pub without_outputs-requires-clause-some : goal.without_outputs-requires-clause-some
without_outputs-requires-clause-some c =
    let lacks = get_or_from_slice_get c.args.growth.now.cube.outputs c.args.j c.output.result false c.output.ensures ∙ c.if-output.false in
    rest_output (widened (goal.at.without_outputs-requires-clause-some c).In-Some) lacks

pub is_implicant-requires-clause-size : goal.is_implicant-requires-clause-size
is_implicant-requires-clause-size c =
    let same = (widened (goal.at.is_implicant-requires-clause-size c).In-Some).same in
    let own = c.requires.is_cube.has_size in (
      ap (λ k. length k.symbols) c.in_ok-rest.ensures.value ∙ same.0 ∙ own.0,
      ap (λ k. length k.outputs) c.in_ok-rest.ensures.value ∙ length-minus c.in-Some.wide.outputs c.args.growth.now.cube.outputs same.1 ∙ same.1 ∙ own.1,
    )

-- ---- with the output

pub returns-clause-grows : goal.returns-clause-grows
returns-clause-grows c =
    let s = goal.at.returns-clause-grows c in
    let w = widened s.In-Some in
    widened_grows w c.in_ok-rest.rest c.in_ok-rest.ensures.value ((asked s.After-is_implicant w c.in_ok-is_implicant.field-0 c.in_ok-is_implicant.ensures).0 c.if-not-branch.false)

pub returns-clause-near : goal.returns-clause-near
returns-clause-near c =
    let rows = c.args.rows.now in
    near_fewer c.args.growth.now.cube rows (near_or rows c.args.growth.now.near) c.requires.near c.in-Some.wide (beside_wide (widened (goal.at.returns-clause-near c).In-Some))

pub returns-clause-settled : goal.returns-clause-settled
returns-clause-settled c = widened_settles (widened (goal.at.returns-clause-settled c).In-Some)

-- ---- the cube as it was

pub returns-then-not-branch-clause-settled : goal.returns-then-not-branch-clause-settled
returns-then-not-branch-clause-settled c =
    let s = goal.at.returns-then-not-branch-clause-settled c in
    let w = widened s.In-Some in
    unwidened_settles w c.in_ok-rest.rest c.in_ok-rest.ensures.value
    (λ sub. false≢true (sym c.if-not-branch.true ∙ (asked s.After-is_implicant w c.in_ok-is_implicant.field-0 c.in_ok-is_implicant.ensures).1 sub))

pub returns-then-is_refused-clause-settled : goal.returns-then-is_refused-clause-settled
returns-then-is_refused-clause-settled c =
    let rows = c.args.rows.now in
    let cube = c.args.growth.now.cube in
    off_settles rows.size (on_side c.args.side rows.cubes) cube c.args.reached.now rows.cubes c.args.j c.requires.is_cube c.requires.reached
    (get_or_from_slice_get cube.outputs c.args.j c.output.result false c.output.ensures ∙ c.if-output.false)
    (λ p same. c.is_refused.ensures rows.cubes p same ∙ ap not c.if-is_refused.true)

pub returns-then-output-clause-settled : goal.returns-then-output-clause-settled
returns-then-output-clause-settled c _ _ _ _ _ = get_or_from_slice_get c.args.growth.now.cube.outputs c.args.j c.output.result false c.output.ensures ∙ c.if-output.true

pub returns-then-output-clause-grows : goal.returns-then-output-clause-grows
returns-then-output-clause-grows c = grows_none c.args.rows.now.size (on_side c.args.side c.args.rows.now.cubes) c.args.growth.now.cube c.requires.is_cube

pub returns-then-output-clause-near : goal.returns-then-output-clause-near
returns-then-output-clause-near c = c.requires.near

pub returns-then-is_refused-clause-grows : goal.returns-then-is_refused-clause-grows
returns-then-is_refused-clause-grows c = grows_none c.args.rows.now.size (on_side c.args.side c.args.rows.now.cubes) c.args.growth.now.cube c.requires.is_cube

pub returns-then-is_refused-clause-near : goal.returns-then-is_refused-clause-near
returns-then-is_refused-clause-near c = c.requires.near

pub returns-then-not-branch-clause-grows : goal.returns-then-not-branch-clause-grows
returns-then-not-branch-clause-grows c = grows_none c.args.rows.now.size (on_side c.args.side c.args.rows.now.cubes) c.args.growth.now.cube c.requires.is_cube

pub returns-then-not-branch-clause-near : goal.returns-then-not-branch-clause-near
returns-then-not-branch-clause-near c = c.requires.near

-- ---- the symbols

pub returns-clause-symbols : goal.returns-clause-symbols
returns-clause-symbols c = widened_symbols (widened (goal.at.returns-clause-symbols c).In-Some)

pub returns-then-not-branch-clause-symbols : goal.returns-then-not-branch-clause-symbols
returns-then-not-branch-clause-symbols c = refl

pub returns-then-is_refused-clause-symbols : goal.returns-then-is_refused-clause-symbols
returns-then-is_refused-clause-symbols c = refl

pub returns-then-output-clause-symbols : goal.returns-then-output-clause-symbols
returns-then-output-clause-symbols c = refl
