use Rattle.std.proofs.Common.{◌≡◌, ◌∙◌, ◌∷◌, [], get_or, sym, ap, subst, arith}
use Rattle.cube.specs.declared.symbol.Symbol.TheVariants.{Dash, Zero, One}
use Rattle.cube.specs.Sum.{complete_sum}
use Rattle.rows.specs.Cubes.{AreCubes}
use Rattle.rows.specs.Places.{places}
use Rattle.sums.proofs.SumFour.{four_rows, first_symbol, second_symbol}
use Rattle.sums.proofs.four_rows.sum_of_four_rows.Goals as goal

pub sum_of_square-requires-clause-size : goal.sum_of_square-requires-clause-size
sum_of_square-requires-clause-size c =
    let size = c.requires.size in
    let rows : c.args.rows.now ≡ c.index-rows-0.result ∷ c.index-rows-1.result ∷ c.index-rows-2.result ∷ c.index-rows-3.result ∷ [] =
    four_rows c.args.rows.now c.index-rows-0.result c.index-rows-1.result c.index-rows-2.result c.index-rows-3.result (omega arith)
    c.index-rows-0.is c.index-rows-1.is c.index-rows-2.is c.index-rows-3.is in
    let cubes = subst (AreCubes size) rows c.requires.are_cubes in
    let long = (cubes 0 c.index-rows-0.result (omega arith)).has_size.0 in
    (size, omega (arith, long, c.in-Some.ensures.within), omega (arith, long, c.in-Some-next_opposite.ensures.within), cubes)

pub sum_of_square-requires-clause-inputs : goal.sum_of_square-requires-clause-inputs
sum_of_square-requires-clause-inputs c = λ same.
    let i = c.in-Some.i in
    let j = c.in-Some-next_opposite.j in
    let second = c.index-rows-1.result in
    let has = sym c.if-has_symbols_at-2.ensures in
    let impossible : Zero ≡ One = sym (first_symbol i j Zero One second has) ∙ ap (λ k. get_or second.symbols k Dash) (sym same) ∙ second_symbol i j Zero One second has in
    cc impossible

pub returns-then-has_symbols_at-4 : goal.returns-then-has_symbols_at-4
returns-then-has_symbols_at-4 c size cubes =
    let rows : c.args.rows.now ≡ c.index-rows-0.result ∷ c.index-rows-1.result ∷ c.index-rows-2.result ∷ c.index-rows-3.result ∷ [] =
    four_rows c.args.rows.now c.index-rows-0.result c.index-rows-1.result c.index-rows-2.result c.index-rows-3.result (omega arith)
    c.index-rows-0.is c.index-rows-1.is c.index-rows-2.is c.index-rows-3.is in
    c.in_ok-sum.ensures size (subst (AreCubes size) rows cubes) ∙ ap (λ l. complete_sum size (places l)) (sym rows)
