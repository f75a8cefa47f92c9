use Rattle.std.proofs.Common.{◌∙◌, ◌∷◌, [], false, true, IfSome, arith}
use Rattle.std.proofs.lemmas.Result.{IfOk-weaker}
use Rattle.std.proofs.lemmas.List.{get_or-set_other}
use Rattle.cube.specs.declared.symbol.Symbol.TheVariants.{Dash}
use Rattle.cube.specs.Cube.{IsCube, with_symbol, intersection}
use Rattle.cube.proofs.SumLemmas.{complete_sum-same}
use Rattle.rows.specs.Places.{places}
use Rattle.rows.proofs.SumSplit.{IsCube-with_symbol}
use Rattle.sums.proofs.SumFour.{freed_meet-cube, freed_meet-literal, places-meets}
use Rattle.sums.proofs.four_rows.sum_of_freed_meets.Goals as goal

zero_cube : (c : goal.In_ok-one) → IfSome c.in_ok-zero.zero (IsCube c.requires.size.0)
zero_cube c =
    let r = c.requires.size in
    freed_meet-cube r.0 c.args.i c.args.j c.requires.inputs c.args.low_zero.now c.args.high_zero.now r.3 r.5 c.in_ok-zero.zero c.in_ok-zero.ensures.none c.in_ok-zero.ensures.size c.in_ok-zero.ensures.places

one_cube : (c : goal.In_ok-one) → IfSome c.in_ok-one.one (IsCube c.requires.size.0)
one_cube c =
    let r = c.requires.size in
    freed_meet-cube r.0 c.args.i c.args.j c.requires.inputs c.args.low_one.now c.args.high_one.now r.4 r.6 c.in_ok-one.one c.in_ok-one.ensures.none c.in_ok-one.ensures.size c.in_ok-one.ensures.places

pub sum_of_some_opposites-requires-clause-size : goal.sum_of_some_opposites-requires-clause-size
sum_of_some_opposites-requires-clause-size c = (c.requires.size.0, c.requires.size.2, zero_cube c, one_cube c)

pub sum_of_some_opposites-requires-clause-zero : goal.sum_of_some_opposites-requires-clause-zero
sum_of_some_opposites-requires-clause-zero c =
    let r = c.requires.size in
    freed_meet-literal r.0 c.args.i c.args.j c.requires.inputs c.args.low_zero.now c.args.high_zero.now r.3 r.5 false c.requires.low_zero c.in_ok-zero.zero (zero_cube c)
    c.in_ok-zero.ensures.places

pub sum_of_some_opposites-requires-clause-one : goal.sum_of_some_opposites-requires-clause-one
sum_of_some_opposites-requires-clause-one c =
    let r = c.requires.size in
    freed_meet-literal r.0 c.args.i c.args.j c.requires.inputs c.args.low_one.now c.args.high_one.now r.4 r.6 true c.requires.low_one c.in_ok-one.one (one_cube c)
    c.in_ok-one.ensures.places

pub returns : goal.returns
returns c =
    let i = c.args.i in
    let j = c.args.j in
    let a = c.args.low_zero.now in
    let b = c.args.low_one.now in
    let d = c.args.high_zero.now in
    let e = c.args.high_one.now in
    IfOk-weaker c.sum_of_some_opposites.result _ _ (λ sum h size cube_a cube_b cube_d cube_e.
    let zero' = freed_meet-cube size i j c.requires.inputs a d cube_a cube_d c.in_ok-zero.zero c.in_ok-zero.ensures.none c.in_ok-zero.ensures.size c.in_ok-zero.ensures.places in
    let one = freed_meet-cube size i j c.requires.inputs b e cube_b cube_e c.in_ok-one.one c.in_ok-one.ensures.none c.in_ok-one.ensures.size c.in_ok-one.ensures.places in
    h size zero' one
    ∙ complete_sum-same size _ (intersection (places (with_symbol a i Dash ∷ with_symbol b i Dash ∷ [])) (places (with_symbol d i Dash ∷ with_symbol e i Dash ∷ [])))
    (places-meets size j (omega (arith, c.requires.size.2, c.requires.size.3.has_size.0, cube_a.has_size.0)) (with_symbol a i Dash) (with_symbol b i Dash) (with_symbol d i Dash) (with_symbol e i Dash)
    (IsCube-with_symbol size a i Dash cube_a) (IsCube-with_symbol size b i Dash cube_b) (IsCube-with_symbol size d i Dash cube_d) (IsCube-with_symbol size e i Dash cube_e)
    (get_or-set_other a.symbols i j Dash Dash c.requires.inputs ∙ c.requires.low_zero) (get_or-set_other b.symbols i j Dash Dash c.requires.inputs ∙ c.requires.low_one)
    (get_or-set_other d.symbols i j Dash Dash c.requires.inputs ∙ c.requires.high_zero) (get_or-set_other e.symbols i j Dash Dash c.requires.inputs ∙ c.requires.high_one)
    c.in_ok-zero.zero c.in_ok-one.one c.in_ok-zero.ensures.none c.in_ok-one.ensures.none c.in_ok-zero.ensures.places c.in_ok-one.ensures.places)) c.sum_of_some_opposites.ensures
