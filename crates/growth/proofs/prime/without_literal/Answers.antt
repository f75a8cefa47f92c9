use denote.Enum.Bare.{same_true}
use Rattle.std.proofs.Common.{rules, refl, inl, inr, ◌<◌, ◌↔◌, IsTrue, ◌≡◌, Bool, not, length, get_or, ap, sym, ◌∙◌, arith}
use Rattle.std.proofs.lemmas.Bool.{false≢true}
use Rattle.std.proofs.lemmas.Option.{get_or_from_slice_get}
use Rattle.cube.specs.declared.symbol.Symbol.TheVariants.{Dash}
use Rattle.cube.specs.contracts.symbol.Symbol.{the_type}
use Rattle.cube.specs.Cube.{holds, with_symbol, IsSubset}
use Rattle.cube.specs.Sharp.{opposite}
use Rattle.growth.specs.Growth.{on_side, near_or}
use Rattle.growth.proofs.GrowthSteps.{grows_none, freed_grows, freed_settles, refused_settles}
use Rattle.growth.proofs.Near.{answer_for_all, beside_half, near_none}
use Rattle.growth.proofs.prime.without_literal.Goals as goal
use Rattle.growth.proofs.prime.without_literal.Goals.{After-is_implicant}

within : (c : After-is_implicant) → c.args.i < length c.args.growth.now.cube.symbols
within c = let long = c.requires.is_cube.has_size.0 in let lt = c.requires.input in omega (arith, long, lt)

is_rest : (c : After-is_implicant) → c.in_ok-rest.rest ≡ with_symbol c.args.growth.now.cube c.args.i (opposite (get_or c.args.growth.now.cube.symbols c.args.i Dash))
is_rest c = c.in_ok-rest.ensures.value ∙ ap (with_symbol c.args.growth.now.cube c.args.i) (c.opposite.ensures
    ∙ ap opposite (sym (get_or_from_slice_get c.args.growth.now.cube.symbols c.args.i c.symbol-literal.result Dash c.symbol-literal.ensures)))

asked : (c : After-is_implicant) (b : Bool) → IsTrue b ↔ IsSubset (holds c.in_ok-rest.rest) (on_side c.args.side (near_or c.args.rows.now c.args.growth.now.near).cubes)
    → IsTrue b ↔ IsSubset (holds c.in_ok-rest.rest) (on_side c.args.side c.args.rows.now.cubes)
asked c =
    let rows = c.args.rows.now in
    let cube = c.args.growth.now.cube in
    answer_for_all cube rows (near_or rows c.args.growth.now.near) c.requires.near c.args.side c.in_ok-rest.rest
    (beside_half cube c.args.i _ (within c) c.in_ok-rest.rest (is_rest c))

-- ---- without the literal

pub returns-clause-grows : goal.returns-clause-grows
returns-clause-grows c =
    let rows = c.args.rows.now in
    let s = (goal.at.returns-clause-grows c).After-is_implicant in
    freed_grows rows.size (on_side c.args.side rows.cubes) c.args.growth.now.cube c.requires.is_cube c.args.i (within s) c.set_symbol.new.self c.in_ok-rest.rest c.set_symbol.ensures (is_rest s)
    ((asked s c.in_ok-is_implicant.field-0 c.in_ok-is_implicant.ensures).0 c.if-not-branch.false)

pub returns-clause-settled : goal.returns-clause-settled
returns-clause-settled c =
    let rows = c.args.rows.now in
    let s = (goal.at.returns-clause-settled c).After-is_implicant in
    freed_settles rows.size (on_side c.args.side rows.cubes) c.args.growth.now.cube c.requires.is_cube c.args.i (within s) c.set_symbol.new.self c.set_symbol.ensures

pub returns-then-is_none-clause-grows : goal.returns-then-is_none-clause-grows
returns-then-is_none-clause-grows c =
    let rows = c.args.rows.now in
    let s = (goal.at.returns-then-is_none-clause-grows c).After-is_implicant in
    freed_grows rows.size (on_side c.args.side rows.cubes) c.args.growth.now.cube c.requires.is_cube c.args.i (within s) c.set_symbol.new.self c.in_ok-rest.rest c.set_symbol.ensures (is_rest s)
    ((asked s c.in_ok-is_implicant.field-0 c.in_ok-is_implicant.ensures).0 c.if-not-branch.false)

pub returns-then-is_none-clause-settled : goal.returns-then-is_none-clause-settled
returns-then-is_none-clause-settled c =
    let rows = c.args.rows.now in
    let s = (goal.at.returns-then-is_none-clause-settled c).After-is_implicant in
    freed_settles rows.size (on_side c.args.side rows.cubes) c.args.growth.now.cube c.requires.is_cube c.args.i (within s) c.set_symbol.new.self c.set_symbol.ensures

pub returns-then-is_none-clause-near : goal.returns-then-is_none-clause-near
returns-then-is_none-clause-near c = near_none c.set_symbol.new.self c.args.rows.now c.args.growth.now.near (c.is_none.ensures ∙ ap not c.if-is_none.true)

-- ---- the cube as it was

pub returns-then-not-branch-clause-settled : goal.returns-then-not-branch-clause-settled
returns-then-not-branch-clause-settled c =
    let rows = c.args.rows.now in
    let s = (goal.at.returns-then-not-branch-clause-settled c).After-is_implicant in
    refused_settles rows.size (on_side c.args.side rows.cubes) c.args.growth.now.cube c.requires.is_cube c.args.i (within s) c.in_ok-rest.rest (is_rest s)
    (λ sub. false≢true (sym c.if-not-branch.true ∙ (asked s c.in_ok-is_implicant.field-0 c.in_ok-is_implicant.ensures).1 sub))

pub returns-then-eq-clause-settled : goal.returns-then-eq-clause-settled
returns-then-eq-clause-settled c _ _ _ _ _ =
    get_or_from_slice_get c.args.growth.now.cube.symbols c.args.i c.symbol-literal.result Dash c.symbol-literal.ensures
    ∙ same_true the_type (search rules) c.symbol-literal.result Dash (sym c.eq.ensures ∙ c.if-eq.true)

pub returns-then-eq-clause-grows : goal.returns-then-eq-clause-grows
returns-then-eq-clause-grows c = grows_none c.args.rows.now.size (on_side c.args.side c.args.rows.now.cubes) c.args.growth.now.cube c.requires.is_cube

pub returns-then-eq-clause-near : goal.returns-then-eq-clause-near
returns-then-eq-clause-near c = c.requires.near

pub returns-then-not-branch-clause-grows : goal.returns-then-not-branch-clause-grows
returns-then-not-branch-clause-grows c = grows_none c.args.rows.now.size (on_side c.args.side c.args.rows.now.cubes) c.args.growth.now.cube c.requires.is_cube

pub returns-then-not-branch-clause-near : goal.returns-then-not-branch-clause-near
returns-then-not-branch-clause-near c = c.requires.near

pub symbol-literal-requires : goal.symbol-literal-requires
symbol-literal-requires c = let long = c.requires.is_cube.has_size.0 in let lt = c.requires.input in omega (arith, long, lt)

pub with_symbol-requires : goal.with_symbol-requires
with_symbol-requires c = let long = c.requires.is_cube.has_size.0 in let lt = c.requires.input in omega (arith, long, lt)

pub set_symbol-requires : goal.set_symbol-requires
set_symbol-requires c = let long = c.requires.is_cube.has_size.0 in let lt = c.requires.input in omega (arith, long, lt)

-- ---- what was freed

pub returns-clause-freed : goal.returns-clause-freed
returns-clause-freed c = inr c.set_symbol.ensures

pub returns-then-is_none-clause-freed : goal.returns-then-is_none-clause-freed
returns-then-is_none-clause-freed c = inr c.set_symbol.ensures

pub returns-then-not-branch-clause-freed : goal.returns-then-not-branch-clause-freed
returns-then-not-branch-clause-freed c = inl refl

pub returns-then-eq-clause-freed : goal.returns-then-eq-clause-freed
returns-then-eq-clause-freed c = inl refl
