use Rattle.std.proofs.Common.{◌≡◌, ◌∙◌, ◌∷◌, [], sym, ap, subst, arith}
use Rattle.std.proofs.lemmas.Option.{get_or_from_slice_get}
use Rattle.cube.specs.declared.symbol.Symbol.TheVariants.{Dash, Zero, One}
use Rattle.cube.specs.Cube.{IsCube}
use Rattle.cube.specs.Sum.{complete_sum}
use Rattle.rows.specs.Places.{places}
use Rattle.sums.proofs.SumTwo.{complete_sum-other_order, two_rows}
use Rattle.sums.proofs.two_rows.sum_of_two_rows.Goals as goal

pub sum_of_opposites-requires-clause-size : goal.sum_of_opposites-requires-clause-size
sum_of_opposites-requires-clause-size c =
    let first = subst (IsCube c.requires.size) (sym c.index-rows-0.is) (c.requires.are_cubes 0 c.index-rows-0.result (omega arith)) in
    let second = subst (IsCube c.requires.size) (sym c.index-rows-1.is) (c.requires.are_cubes 1 c.index-rows-1.result (omega arith)) in
    let below = c.in-Some.ensures.within in
    let long = first.has_size.0 in
    (c.requires.size, omega arith, first, second)

pub sum_of_opposites-requires-in-One-Zero-clause-size : goal.sum_of_opposites-requires-in-One-Zero-clause-size
sum_of_opposites-requires-in-One-Zero-clause-size c =
    let first = subst (IsCube c.requires.size) (sym c.index-rows-0.is) (c.requires.are_cubes 0 c.index-rows-0.result (omega arith)) in
    let second = subst (IsCube c.requires.size) (sym c.index-rows-1.is) (c.requires.are_cubes 1 c.index-rows-1.result (omega arith)) in
    let below = c.in-Some.ensures.within in
    let long = first.has_size.0 in
    (c.requires.size, omega arith, second, first)

pub returns-in_ok-sum_of_opposites-in-Zero-One : goal.returns-in_ok-sum_of_opposites-in-Zero-One
returns-in_ok-sum_of_opposites-in-Zero-One c size h =
    let first = c.index-rows-0.result in
    let second = c.index-rows-1.result in
    let rows : c.args.rows.now ≡ first ∷ second ∷ [] = two_rows c.args.rows.now first second (omega arith) c.index-rows-0.is c.index-rows-1.is in
    let cube = subst (IsCube size) (sym c.index-rows-0.is) (h 0 first (omega arith)) in
    let other = subst (IsCube size) (sym c.index-rows-1.is) (h 1 second (omega arith)) in
    c.in_ok-sum_of_opposites-in-Zero-One.ensures size cube other ∙ ap (λ l. complete_sum size (places l)) (sym rows)

pub returns-in_ok-sum_of_opposites-in-One-Zero : goal.returns-in_ok-sum_of_opposites-in-One-Zero
returns-in_ok-sum_of_opposites-in-One-Zero c size h =
    let first = c.index-rows-0.result in
    let second = c.index-rows-1.result in
    let rows : c.args.rows.now ≡ first ∷ second ∷ [] = two_rows c.args.rows.now first second (omega arith) c.index-rows-0.is c.index-rows-1.is in
    let cube = subst (IsCube size) (sym c.index-rows-0.is) (h 0 first (omega arith)) in
    let other = subst (IsCube size) (sym c.index-rows-1.is) (h 1 second (omega arith)) in
    c.in_ok-sum_of_opposites-in-One-Zero.ensures size other cube ∙ complete_sum-other_order size second first ∙ ap (λ l. complete_sum size (places l)) (sym rows)

pub sum_of_opposites-requires-clause-low : goal.sum_of_opposites-requires-clause-low
sum_of_opposites-requires-clause-low c = get_or_from_slice_get c.index-rows-0.result.symbols c.in-Some.i Zero Dash c.in-Zero-One.ensures

pub sum_of_opposites-requires-clause-high : goal.sum_of_opposites-requires-clause-high
sum_of_opposites-requires-clause-high c = get_or_from_slice_get c.index-rows-1.result.symbols c.in-Some.i One Dash c.in-Zero-One.ensures'

pub sum_of_opposites-requires-in-One-Zero-clause-low : goal.sum_of_opposites-requires-in-One-Zero-clause-low
sum_of_opposites-requires-in-One-Zero-clause-low c = get_or_from_slice_get c.index-rows-1.result.symbols c.in-Some.i Zero Dash c.in-One-Zero.ensures'

pub sum_of_opposites-requires-in-One-Zero-clause-high : goal.sum_of_opposites-requires-in-One-Zero-clause-high
sum_of_opposites-requires-in-One-Zero-clause-high c = get_or_from_slice_get c.index-rows-0.result.symbols c.in-Some.i One Dash c.in-One-Zero.ensures
