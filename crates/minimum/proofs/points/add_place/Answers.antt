use Rattle.std.proofs.Common.{◌≡◌, ◌∙◌, ◌++◌, ◌∷◌, [], length, take, refl, ap, sym, subst}
use Rattle.std.proofs.Math.Seq.{get_or-append_seam, take-append_seam}
use Rattle.cube.specs.Cube.{IsCube}
use Rattle.cover.specs.Cubes.{AreCubes}
use Rattle.cover.specs.Marks.{cube_at}
use Rattle.minimum.specs.Points.{AreColumnsOf, IsWantedPoint, function_by, lists_of, source_primes}
use Rattle.minimum.proofs.PickedPoints.{wanted_point, points_with, found_more, found_again}
use Rattle.minimum.proofs.points.add_place.Goals as goal

pub columns_for-requires-clause-points : goal.columns_for-requires-clause-points
columns_for-requires-clause-points c =
    let sets = lists_of c.args.on.now c.args.dc.now in
    let point = c.in-Some.point in
    let shape : c.shape.result ≡ sets.size = c.shape.ensures.size in
    let cube : IsCube c.shape.result point = rw c.in-Some.is at c.in_ok-point.ensures.cube in
    let wanted : IsWantedPoint (function_by sets c.args.source.now) point = wanted_point sets c.args.source.now point (subst (λ z. IsCube z point) shape cube) (rw c.in-Some.is at c.in_ok-point.ensures.one) (rw c.in-Some.is at c.in_ok-point.ensures.point) (c.is_wanted.ensures c.if-not-is_wanted.false) in
    subst (λ z. AreCubes z c.deref.result.now) (sym c.requires.source.sized) (points_with sets c.args.source.now c.args.choice point c.args.found.now c.deref.result.now wanted (c.deref.ensures.value ∙ c.in_ok-push_cube.ensures) c.requires.found)

pub returns-in_ok-append-in-Some-2 : goal.returns-in_ok-append-in-Some-2
returns-in_ok-append-in-Some-2 c =
    let sets = lists_of c.args.on.now c.args.dc.now in
    let source = c.args.source.now in
    let point = c.in-Some.point in
    let old = c.args.found.now in
    let row = c.in-Some-2.row in
    let points = c.deref.result.now in
    let shape : c.shape.result ≡ sets.size = c.shape.ensures.size in
    let cube : IsCube c.shape.result point = rw c.in-Some.is at c.in_ok-point.ensures.cube in
    let wanted : IsWantedPoint (function_by sets source) point = wanted_point sets source point (subst (λ z. IsCube z point) shape cube) (rw c.in-Some.is at c.in_ok-point.ensures.one) (rw c.in-Some.is at c.in_ok-point.ensures.point) (c.is_wanted.ensures c.if-not-is_wanted.false) in
    let both : points ≡ old.points.items ++ point ∷ [] = c.deref.ensures.value ∙ c.in_ok-push_cube.ensures in
    let number : c.len-number.result ≡ length old.points.items = c.len-number.ensures ∙ old.points.ok.0 in
    let at : cube_at points c.len-number.result ≡ point = ap (cube_at points) number ∙ ap (λ l. cube_at l (length old.points.items)) both ∙ get_or-append_seam old.points.items point [] (record { symbols = []; outputs = [] }) in
    let columns : AreColumnsOf c.args.choice (source_primes source) points (cube_at points c.len-number.result) row.cubes = rw c.in-Some-2.is at c.in_ok-row.ensures.columns in
    let of_point : AreColumnsOf c.args.choice (source_primes source) (old.points.items ++ point ∷ []) point row.cubes = subst (λ l. AreColumnsOf c.args.choice (source_primes source) l point row.cubes) both (subst (λ x. AreColumnsOf c.args.choice (source_primes source) points x row.cubes) at columns) in
    found_more sets source c.args.choice point wanted old (record { points = c.push_cube.new.list; columns = c.append.new.self }) row.cubes c.in_ok-push_cube.ensures c.in_ok-append-in-Some-2.ensures.ok of_point c.requires.found c.in_ok-append-in-Some-2.ensures.size

pub returns-in-None : goal.returns-in-None
returns-in-None c =
    let old = c.args.found.now in
    let point = c.in-Some.point in
    let number : c.len-number.result ≡ length old.points.items = c.len-number.ensures ∙ old.points.ok.0 in
    let back : c.truncate.new.self.items ≡ old.points.items = c.truncate.ensures.items ∙ ap (take c.len-number.result) c.in_ok-push_cube.ensures ∙ ap (λ n. take n (old.points.items ++ point ∷ [])) number ∙ take-append_seam old.points.items (point ∷ []) in
    found_again c.args.choice (function_by (lists_of c.args.on.now c.args.dc.now) c.args.source.now) old (record { points = c.truncate.new.self; columns = old.columns }) back refl c.requires.found
