use Rattle.std.proofs.Common.{◌≡◌, ◌≢◌, ℕ, arith, get_or, ap, sym, ◌∙◌}
use Rattle.cube.specs.declared.symbol.Symbol.TheVariants.{Dash}
use Rattle.cube.specs.Cube.{holds}
use Rattle.cube.specs.Sharp.{opposite}
use Rattle.cube.proofs.LiteralMarks.{opposite_symbols}
use Rattle.minimum.proofs.Neighbours.{crossed_some, crossed_none, free_some, free_none, no_step, some_both, none_of, not_opposite, not_beyond, beyond_dash}
use Rattle.minimum.proofs.essential_by_neighbours.neighbours.neighbour_by_inputs.Goals as goal
use Rattle.minimum.proofs.essential_by_neighbours.neighbours.neighbour_by_inputs.Goals.{In-Some, In_default}

-- the row has the opposite literal
crossed : (c : In-Some) → (get_or c.args.prime.now.symbols c.in-Some.i Dash ≢ Dash) × (get_or c.args.row.now.symbols c.in-Some.i Dash ≡ opposite (get_or c.args.prime.now.symbols c.in-Some.i Dash))
crossed c = opposite_symbols (get_or c.args.prime.now.symbols c.in-Some.i Dash) (get_or c.args.row.now.symbols c.in-Some.i Dash) c.in-Some.ensures.found.passes

-- it has none
uncrossed : (c : In_default) → (k : ℕ) → get_or c.args.row.now.symbols k Dash ≡ opposite (get_or c.args.prime.now.symbols k Dash) → get_or c.args.prime.now.symbols k Dash ≡ Dash
uncrossed c k = not_opposite (get_or c.args.prime.now.symbols k Dash) (get_or c.args.row.now.symbols k Dash) (c.in_default.ensures.none k (omega arith))

pub returns-in-Some-clause-none : goal.returns-in-Some-clause-none
returns-in-Some-clause-none c p in_c =
    let at = crossed ((goal.at.returns-in-Some-clause-none c).In-Some) in
    crossed_none c.args.prime.now c.args.row.now c.requires p in_c c.in-Some.i at.0 at.1 c.in_ok-with_symbol.field-0 c.in_ok-with_symbol.ensures.value

pub returns-in-Some-clause-some : goal.returns-in-Some-clause-some
returns-in-Some-clause-some c p in_c =
    let at = crossed ((goal.at.returns-in-Some-clause-some c).In-Some) in
    crossed_some c.args.prime.now c.args.row.now c.requires p in_c c.in-Some.i at.0 at.1 c.in_ok-with_symbol.field-0 c.in_ok-with_symbol.ensures.value

pub returns-then-is_some-clause-none : goal.returns-then-is_some-clause-none
returns-then-is_some-clause-none c p in_c h =
    free_none c.args.prime.now c.args.row.now c.requires p in_c (uncrossed ((goal.at.returns-then-is_some-clause-none c).In_default)) (ap (λ k. holds k p) (sym c.in_ok-try_clone.ensures.value) ∙ h)

pub returns-then-is_some-clause-some : goal.returns-then-is_some-clause-some
returns-then-is_some-clause-some c p in_c h =
    let prime = c.args.prime.now in
    let row = c.args.row.now in
    let found = some_both c.next_beyond.result _ _ (sym c.is_some.ensures ∙ c.if-is_some.true) c.next_beyond.ensures.found c.next_beyond.ensures.within in
    let at = beyond_dash (get_or prime.symbols found.0 Dash) (get_or row.symbols found.0 Dash) found.1.passes (c.in_default.ensures.none found.0 (omega arith)) in
    free_some prime row c.requires p in_c (uncrossed ((goal.at.returns-then-is_some-clause-some c).In_default)) found.0 at.0 at.1 (ap (λ k. holds k p) (sym c.in_ok-try_clone.ensures.value) ∙ h)

pub returns-clause-none : goal.returns-clause-none
returns-clause-none c p in_c _ =
    let prime = c.args.prime.now in
    let row = c.args.row.now in
    let none' = none_of c.next_beyond.result _ (sym c.is_some.ensures ∙ c.if-is_some.false) c.next_beyond.ensures.none in
    no_step prime row c.requires p in_c (uncrossed ((goal.at.returns-clause-none c).In_default))
    (λ k. not_beyond (get_or prime.symbols k Dash) (get_or row.symbols k Dash) (none' k (omega arith)))
