use Rattle.std.proofs.Common.{◌≡◌, ◌∙◌, ◌++◌, ◌∷◌, [], length, take, refl, ap, sym, subst}
use Rattle.std.proofs.Math.Seq.{get_or-append_seam, take-append_seam}
use Rattle.std.specs.List.{Contains}
use Rattle.cube.specs.Cube.{IsCube, IsDisjoint, holds, size_of}
use Rattle.cover.specs.Cubes.{AreCubes, Cubes}
use Rattle.cover.specs.Marks.{cube_at}
use Rattle.cover.specs.Places.{places}
use Rattle.minimum.specs.declared.points.source.Source.TheVariants.{Primes}
use Rattle.minimum.specs.declared.points.picked_points.PickedPoints.{PickedPoints}
use Rattle.minimum.specs.Primes.{primes_of}
use Rattle.minimum.specs.PrimeRows.{HasOneOutput}
use Rattle.minimum.specs.Points.{function_of, AreColumnsOf, IsOnePoint, IsWantedPoint}
use Rattle.minimum.specs.AsNeeded.{primes_inside, AreOutside}
use Rattle.minimum.proofs.PickedPoints.{wanted_by, wanted_point, points_with, found_more, found_again}
use Rattle.minimum.proofs.AsNeeded.{size_is, apart_more, primes_are}
use Rattle.minimum.proofs.as_needed.add_point_in.Goals as goal
use Rattle.minimum.proofs.as_needed.add_point_in.Goals.{In_ok-push_cube}

-- the point is wanted
is_wanted : (c : In_ok-push_cube) → IsWantedPoint (function_of c.args.sets.now) c.in-Some.point
is_wanted c =
    let sets = c.args.sets.now in
    let part = c.args.part.now in
    let point = c.in-Some.point in
    let cube : IsCube (size_of part) point = rw c.in-Some.is at c.in_ok-point.ensures.cube in
    let one : HasOneOutput point = rw c.in-Some.is at c.in_ok-point.ensures.one in
    let literals : IsOnePoint point = rw c.in-Some.is at c.in_ok-point.ensures.point in
    let is_cube : IsCube sets.size point = subst (λ z. IsCube z point) (sym (size_is sets.size part c.requires.part.has_size)) cube in
    wanted_point sets (Primes (record { size = sets.size; cubes = primes_of sets })) point is_cube one literals (λ p h. sym (wanted_by sets c.on.result.now c.dc.result.now c.on.ensures c.dc.ensures p) ∙ c.is_wanted.ensures c.if-not-is_wanted.false p h)

pub primes_of_point-requires-clause-points : goal.primes_of_point-requires-clause-points
primes_of_point-requires-clause-points c =
    let sets = c.args.sets.now in
    let wanted = is_wanted (goal.at.primes_of_point-requires-clause-points c).In_ok-push_cube in
    subst (λ (l : Cubes). AreCubes l.size c.deref.result.now) (sym c.requires.all)
    (points_with sets (Primes (record { size = sets.size; cubes = primes_of sets })) c.args.choice c.in-Some.point c.args.known.now.found c.deref.result.now wanted (c.deref.ensures.value ∙ c.in_ok-push_cube.ensures) c.requires.known.found)

pub returns-in_ok-append-in-Some-2 : goal.returns-in_ok-append-in-Some-2
returns-in_ok-append-in-Some-2 c =
    let sets = c.args.sets.now in
    let essential = c.args.essential.now.cubes in
    let point = c.in-Some.point in
    let old = c.args.known.now.found in
    let row = c.in-Some-2.row in
    let points = c.deref.result.now in
    let number = c.len-number.result in
    let wanted = is_wanted (goal.at.returns-in_ok-append-in-Some-2 c).In_ok-push_cube in
    let outside : AreOutside c.args.all.now c.primes_of_point.new.outside = c.in_ok-row.ensures.outside in
    let apart : IsDisjoint (holds point) (places essential) = subst (λ l. IsDisjoint (holds point) (places l)) c.as_slice.ensures.value (c.are_apart.ensures.0 c.if-not-are_apart.false) in
    let both : points ≡ old.points.items ++ point ∷ [] = c.deref.ensures.value ∙ c.in_ok-push_cube.ensures in
    let is : number ≡ length old.points.items = c.len-number.ensures ∙ old.points.ok.0 in
    let at : cube_at points number ≡ point = ap (cube_at points) is ∙ ap (λ l. cube_at l (length old.points.items)) both ∙ get_or-append_seam old.points.items point [] (record { symbols = []; outputs = [] }) in
    let columns : AreColumnsOf c.args.choice (primes_inside c.args.all.now) points (cube_at points number) row.cubes = rw c.in-Some-2.is at c.in_ok-row.ensures.columns in
    let of_point : AreColumnsOf c.args.choice (primes_of sets) (old.points.items ++ point ∷ []) point row.cubes =
    subst (λ l. AreColumnsOf c.args.choice (primes_of sets) l point row.cubes) both
    (subst (λ x. AreColumnsOf c.args.choice (primes_of sets) points x row.cubes) at
    (subst (λ l. AreColumnsOf c.args.choice l points (cube_at points number) row.cubes) (primes_are sets c.args.all.now c.requires.all) columns)) in
    let new : PickedPoints = record { points = c.push_cube.new.list; columns = c.append.new.self } in
    record {
      outside = subst (λ a. AreOutside a c.primes_of_point.new.outside) c.requires.all outside;
      found = found_more sets (Primes (record { size = sets.size; cubes = primes_of sets })) c.args.choice point wanted old new row.cubes c.in_ok-push_cube.ensures c.in_ok-append-in-Some-2.ensures.ok of_point c.requires.known.found c.in_ok-append-in-Some-2.ensures.size;
      apart = apart_more sets essential old.points.items c.push_cube.new.list.items point c.in_ok-push_cube.ensures wanted apart c.requires.known.apart;
    }

pub returns-in-None : goal.returns-in-None
returns-in-None c =
    let point = c.in-Some.point in
    let old = c.args.known.now.found in
    let number = c.len-number.result in
    let is : number ≡ length old.points.items = c.len-number.ensures ∙ old.points.ok.0 in
    let back : c.truncate.new.self.items ≡ old.points.items = c.truncate.ensures.items ∙ ap (take number) c.in_ok-push_cube.ensures ∙ ap (λ n. take n (old.points.items ++ point ∷ [])) is ∙ take-append_seam old.points.items (point ∷ []) in
    record {
      outside = subst (λ a. AreOutside a c.primes_of_point.new.outside) c.requires.all c.in_ok-row.ensures.outside;
      found = found_again c.args.choice (function_of c.args.sets.now) old (record { points = c.truncate.new.self; columns = old.columns }) back refl c.requires.known.found;
      apart = λ d x own k. c.requires.known.apart d x own (subst (λ l. Contains l x) back k);
    }
