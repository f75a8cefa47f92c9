use Rattle.std.proofs.Common.{◌≡◌, ◌∙◌, [], ap, sym, subst}
use Rattle.std.proofs.lemmas.List.{get_or_default}
use Rattle.cube.specs.Cube.{IsCube, IsSubset, holds}
use Rattle.cover.specs.Marks.{cube_at}
use Rattle.growth.proofs.RowsAround.{kept_prime, kept_dominated}
use Rattle.growth.proofs.columns.columns_of_point.Goals as goal

pub returns-clause-primes : goal.returns-clause-primes
returns-clause-primes c =
    let points = c.args.points.now in
    let y = c.index-points-number.result in
    let found = c.in-Some.found in
    let around = c.in_ok-around in
    let size = rw c.in-Some.is at c.in_ok-found.ensures.size in
    let primes = rw c.in-Some.is at c.in_ok-found.ensures.primes in
    let y_is : IsCube c.args.off.now.size y = subst (IsCube c.args.off.now.size) (sym c.index-points-number.is) (c.requires.points c.args.number y c.requires.number) in
    kept_prime c.args.off.now around.around y around.ensures.size around.ensures.same points found.cubes c.in_ok-columns.columns.cubes found.size (size ∙ around.ensures.size)
    (c.args.number, c.requires.number, sym c.index-points-number.is) (ap (λ l. l.cubes) c.in_ok-columns.ensures) y_is primes

pub returns-clause-dominated : goal.returns-clause-dominated
returns-clause-dominated c d d_is within sub =
    let points = c.args.points.now in
    let y = c.index-points-number.result in
    let found = c.in-Some.found in
    let around = c.in_ok-around in
    let at : cube_at points c.args.number ≡ y = get_or_default points c.args.number (record { symbols = []; outputs = [] }) y c.requires.number ∙ sym c.index-points-number.is in
    let size = rw c.in-Some.is at c.in_ok-found.ensures.size in
    let served = rw c.in-Some.is at c.in_ok-found.ensures.dominated in
    let y_is : IsCube c.args.off.now.size y = subst (IsCube c.args.off.now.size) (sym c.index-points-number.is) (c.requires.points c.args.number y c.requires.number) in
    kept_dominated c.args.off.now around.around y around.ensures.size around.ensures.same points found.cubes c.in_ok-columns.columns.cubes found.size (size ∙ around.ensures.size)
    (c.args.number, c.requires.number, sym c.index-points-number.is) (ap (λ l. l.cubes) c.in_ok-columns.ensures) y_is c.args.choice
    (λ e e_is e_within over. served e e_is e_within (subst (λ z. IsSubset (holds z) (holds e)) (sym at) over)) d d_is within (subst (λ z. IsSubset (holds z) (holds d)) at sub)
