use Rattle.std.proofs.Common.{◌≡◌, ◌∙◌, ◌<◌, ℕ, List, [], length, get_or, ap, sym, subst, not}
use Rattle.std.proofs.lemmas.List.{get_or_default}
use Rattle.cube.specs.Cube.{Cube}
use Rattle.cube.specs.Sum.{complete_sum}
use Rattle.cover.specs.Cubes.{Cubes}
use Rattle.cover.specs.Places.{places}
use Rattle.cover.specs.Marks.{cube_at}
use Rattle.cover.specs.Contained.{is_within}
use Rattle.std.proofs.lemmas.Result.{IfOk-weaker}
use Rattle.std.proofs.lemmas.Option.{IfSome_then}
use Rattle.covering.specs.declared.choice.Choice.{Choice}
use Rattle.growth.proofs.Dominating.{prime_parts}
use Rattle.std.specs.Prelude.{filter}
use Rattle.minimum.specs.Points.{AreColumnsOf}
use Rattle.minimum.proofs.PickedPoints.{columns_of_filter}
use Rattle.minimum.proofs.points.source.columns_outside.Goals as goal

-- all primes that contain the point
of_sum : (choice : Choice) (off : Cubes) (points : List Cube) (number : ℕ) (x : Cube) (row : Cubes) → number < length points → x ≡ get_or points number x
    → row ≡ record { size = off.size; cubes = filter (is_within off.size x) (complete_sum off.size (λ p. not (places off.cubes p))) } → AreColumnsOf choice (complete_sum off.size (λ p. not (places off.cubes p))) points (cube_at points number) row.cubes
of_sum choice off points number x row below item e =
    let all = complete_sum off.size (λ p. not (places off.cubes p)) in
    let at : cube_at points number ≡ x = get_or_default points number (record { symbols = []; outputs = [] }) x below ∙ sym item in
    let is : row.cubes ≡ filter (is_within off.size x) all = ap (λ (l : Cubes). l.cubes) e in
    subst (λ y. AreColumnsOf choice all points y row.cubes) (sym at) (columns_of_filter choice off.size all points row.cubes x is)

pub returns-in-Some-clause-columns : goal.returns-in-Some-clause-columns
returns-in-Some-clause-columns c =
    of_sum c.args.choice c.args.off.now c.args.points.now c.args.number c.index-points-number.result c.in-Some.row c.requires.number c.index-points-number.is (rw c.in-Some.is at c.in_ok-row.ensures)

pub returns-in-Some-2-clause-columns : goal.returns-in-Some-2-clause-columns
returns-in-Some-2-clause-columns c = record {
  primes = rw c.in-Some-2.is at c.in_ok-row-2.ensures.primes;
  dominated = λ d member sub. let is = prime_parts c.args.off.now d member in (rw c.in-Some-2.is at c.in_ok-row-2.ensures.dominated) d is.is_cube is.within sub;
}

pub returns-in-Literals-clause-columns : goal.returns-in-Literals-clause-columns
returns-in-Literals-clause-columns c =
    IfOk-weaker c.sum_containing-in-Literals.result _ _
    (λ o h. IfSome_then o h (λ row e. of_sum c.args.choice c.args.off.now c.args.points.now c.args.number c.index-points-number-in-Literals.result row c.requires.number c.index-points-number-in-Literals.is e))
    c.sum_containing-in-Literals.ensures
