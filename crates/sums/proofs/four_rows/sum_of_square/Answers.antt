use Rattle.std.proofs.Common.{◌<◌, arith}
use Rattle.std.proofs.lemmas.Result.{IfOk-weaker}
use Rattle.cube.specs.declared.symbol.Symbol.TheVariants.{Zero, One}
use Rattle.sums.proofs.SumFour.{first_symbol, second_symbol, AreBranches, square-branches, complete_sum-square}
use Rattle.sums.proofs.four_rows.sum_of_square.Goals as goal

pub sum_of_freed_meets-requires-clause-size : goal.sum_of_freed_meets-requires-clause-size
sum_of_freed_meets-requires-clause-size c =
    let r = c.requires.size in
    let a = c.args.low_zero.now in
    (r.0, r.1, r.2, r.3 0 a (omega arith), r.3 1 a (omega arith), r.3 2 a (omega arith), r.3 3 a (omega arith))

pub sum_of_freed_meets-requires-clause-low_zero : goal.sum_of_freed_meets-requires-clause-low_zero
sum_of_freed_meets-requires-clause-low_zero c = second_symbol c.args.i c.args.j Zero Zero c.args.low_zero.now c.requires.low_zero

pub sum_of_freed_meets-requires-clause-low_one : goal.sum_of_freed_meets-requires-clause-low_one
sum_of_freed_meets-requires-clause-low_one c = second_symbol c.args.i c.args.j Zero One c.args.low_one.now c.requires.low_one

pub sum_of_freed_meets-requires-clause-high_zero : goal.sum_of_freed_meets-requires-clause-high_zero
sum_of_freed_meets-requires-clause-high_zero c = second_symbol c.args.i c.args.j One Zero c.args.high_zero.now c.requires.high_zero

pub sum_of_freed_meets-requires-clause-high_one : goal.sum_of_freed_meets-requires-clause-high_one
sum_of_freed_meets-requires-clause-high_one c = second_symbol c.args.i c.args.j One One c.args.high_one.now c.requires.high_one

pub sum_of_freed_opposites-requires-clause-low : goal.sum_of_freed_opposites-requires-clause-low
sum_of_freed_opposites-requires-clause-low c = second_symbol c.args.i c.args.j Zero Zero c.args.low_zero.now c.requires.low_zero

pub sum_of_freed_opposites-requires-clause-high : goal.sum_of_freed_opposites-requires-clause-high
sum_of_freed_opposites-requires-clause-high c = second_symbol c.args.i c.args.j Zero One c.args.low_one.now c.requires.low_one

pub sum_of_freed_opposites-requires-2-clause-low : goal.sum_of_freed_opposites-requires-2-clause-low
sum_of_freed_opposites-requires-2-clause-low c = second_symbol c.args.i c.args.j One Zero c.args.high_zero.now c.requires.high_zero

pub sum_of_freed_opposites-requires-2-clause-high : goal.sum_of_freed_opposites-requires-2-clause-high
sum_of_freed_opposites-requires-2-clause-high c = second_symbol c.args.i c.args.j One One c.args.high_one.now c.requires.high_one

pub sum_of_freed_opposites-requires-clause-size : goal.sum_of_freed_opposites-requires-clause-size
sum_of_freed_opposites-requires-clause-size c =
    let r = c.requires.size in
    let a = c.args.low_zero.now in
    (r.0, r.1, r.2, r.3 0 a (omega arith), r.3 1 a (omega arith))

pub sum_of_freed_opposites-requires-2-clause-size : goal.sum_of_freed_opposites-requires-2-clause-size
sum_of_freed_opposites-requires-2-clause-size c =
    let r = c.requires.size in
    let a = c.args.low_zero.now in
    (r.0, r.1, r.2, r.3 2 a (omega arith), r.3 3 a (omega arith))

-- the sums of the three branches can be put together
branches : (c : goal.In_ok-high) → AreBranches c.requires.size.0 c.args.i c.in_ok-both.both.items c.in_ok-low.low.items c.in_ok-high.high.items
branches c =
    let r = c.requires.size in
    let i = c.args.i in
    let j = c.args.j in
    let a = c.args.low_zero.now in
    let b = c.args.low_one.now in
    let d = c.args.high_zero.now in
    let e = c.args.high_one.now in
    square-branches r.0 i r.1 a b d e r.3 (first_symbol i j Zero Zero a c.requires.low_zero) (first_symbol i j Zero One b c.requires.low_one)
    (first_symbol i j One Zero d c.requires.high_zero) (first_symbol i j One One e c.requires.high_one) c.in_ok-both.both.items c.in_ok-low.low.items c.in_ok-high.high.items
    (c.in_ok-both.ensures r.0 (r.3 0 a (omega arith)) (r.3 1 a (omega arith)) (r.3 2 a (omega arith)) (r.3 3 a (omega arith)))
    (c.in_ok-low.ensures r.0 (r.3 0 a (omega arith)) (r.3 1 a (omega arith))) (c.in_ok-high.ensures r.0 (r.3 2 a (omega arith)) (r.3 3 a (omega arith)))

pub combine_branches-requires-clause-size : goal.combine_branches-requires-clause-size
combine_branches-requires-clause-size c =
    let parts = branches c in
    (c.requires.size.0, c.requires.size.1, parts.both_cubes, parts.low_cubes, parts.high_cubes)

pub combine_branches-requires-clause-both : goal.combine_branches-requires-clause-both
combine_branches-requires-clause-both c = (branches c).rising

pub combine_branches-requires-clause-zeros : goal.combine_branches-requires-clause-zeros
combine_branches-requires-clause-zeros c = (branches c).zeros

pub combine_branches-requires-clause-ones : goal.combine_branches-requires-clause-ones
combine_branches-requires-clause-ones c = (branches c).ones

pub returns : goal.returns
returns c =
    let r = c.requires.size in
    let i = c.args.i in
    let j = c.args.j in
    let a = c.args.low_zero.now in
    let b = c.args.low_one.now in
    let d = c.args.high_zero.now in
    let e = c.args.high_one.now in
    IfOk-weaker c.combine_branches.result _ _ (λ sum h size cubes.
    let lt : i < size.inputs = omega (arith, r.1, (r.3 0 a (omega arith)).has_size.0, (cubes 0 a (omega arith)).has_size.0) in
    complete_sum-square size i lt a b d e cubes (first_symbol i j Zero Zero a c.requires.low_zero) (first_symbol i j Zero One b c.requires.low_one)
    (first_symbol i j One Zero d c.requires.high_zero) (first_symbol i j One One e c.requires.high_one) c.in_ok-both.both.items c.in_ok-low.low.items c.in_ok-high.high.items
    (c.in_ok-both.ensures size (cubes 0 a (omega arith)) (cubes 1 a (omega arith)) (cubes 2 a (omega arith)) (cubes 3 a (omega arith)))
    (c.in_ok-low.ensures size (cubes 0 a (omega arith)) (cubes 1 a (omega arith))) (c.in_ok-high.ensures size (cubes 2 a (omega arith)) (cubes 3 a (omega arith)))
    sum.items h) c.combine_branches.ensures
