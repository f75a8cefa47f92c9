use Rattle.std.proofs.Common.{◌≡◌, ◌∙◌, [], All, sym, subst, arith}
use Rattle.std.specs.List.{Contains}
use Rattle.std.proofs.lemmas.Bool.{eqb-true}
use Rattle.cube.specs.Cube.{Cube, HasSize, IsCube, IsSubset, IsDisjoint, holds}
use Rattle.cover.specs.Cubes.{AreCubes}
use Rattle.cover.specs.Marks.{cube_at}
use Rattle.cover.specs.Places.{places}
use Rattle.cover.proofs.SumRows.{nothing_left}
use Rattle.growth.specs.Dominating.{IsDominated, primes_outside, IsImplicant}
use Rattle.minimum.proofs.AsNeeded.{have_size, columns_are_primes}
use Rattle.minimum.proofs.as_needed.primes_of_point.Goals as goal

pub columns_of_point-requires-clause-points : goal.columns_of_point-requires-clause-points
columns_of_point-requires-clause-points c = subst (λ z. AreCubes z c.args.points.now) (sym c.loop.invariant.size) c.requires.points

pub parts_not_held-requires : goal.parts_not_held-requires
parts_not_held-requires c =
    let size : c.in-Some.columns.size ≡ c.loop.outside.size = rw c.in-Some.is at c.in_ok-columns.ensures.size in
    subst (λ z. All (λ d. HasSize d z.size) c.as_slice.result.now) (sym c.list.ensures)
    (have_size c.in_ok-row.row.size c.args.all.now.size c.as_slice.result.now (c.in_ok-row.ensures.size ∙ size ∙ c.loop.invariant.size) c.as_slice.ensures.cubes)

pub returns-then-is_empty-clause-size : goal.returns-then-is_empty-clause-size
returns-then-is_empty-clause-size c =
    let size : c.in-Some.columns.size ≡ c.loop.outside.size = rw c.in-Some.is at c.in_ok-columns.ensures.size in
    c.in_ok-row.ensures.size ∙ size ∙ c.loop.invariant.size

pub returns-then-is_empty-clause-columns : goal.returns-then-is_empty-clause-columns
returns-then-is_empty-clause-columns c =
    let all = c.args.all.now in
    let outside = c.loop.outside in
    let points = c.args.points.now in
    let columns = c.in-Some.columns in
    let row = c.in_ok-row.row in
    let refused = c.in_ok-refused.refused.items in
    let primes : (d : Cube) → Contains columns.cubes d → Contains (primes_outside outside) d = rw c.in-Some.is at c.in_ok-columns.ensures.primes in
    let dominated : (d : Cube) → IsCube outside.size d → IsImplicant outside d → IsSubset (holds (cube_at points c.args.number)) (holds d) → IsDominated c.args.choice points columns.cubes d = rw c.in-Some.is at c.in_ok-columns.ensures.dominated in
    let no_refused : refused ≡ [] = nothing_left refused (
    let e = eqb-true c.in_ok-refused.refused.len 0 (sym c.is_empty.ensures ∙ c.if-is_empty.true) in
    let long = c.in_ok-refused.refused.ok.0 in
    omega (arith, e, long)) in
    let within : All (λ d. IsSubset (holds d) (places all.cubes)) row.cubes = subst (All (λ d. IsSubset (holds d) (places all.cubes))) c.as_slice.ensures.value
    (subst (λ z. All (λ d. IsSubset (holds d) (places z.cubes)) c.as_slice.result.now) c.list.ensures (c.in_ok-refused.ensures.held no_refused)) in
    columns_are_primes all outside c.loop.invariant c.args.choice points (cube_at points c.args.number) columns.cubes row.cubes c.in_ok-row.ensures.cubes primes dominated within

pub add_refusals-requires-clause-parts : goal.add_refusals-requires-clause-parts
add_refusals-requires-clause-parts c d k = subst (λ z. IsCube z.size d) c.list.ensures (c.in_ok-refused.ensures.cubes d (subst (λ l. Contains l d) c.deref.ensures.value k))

pub add_refusals-requires-clause-apart : goal.add_refusals-requires-clause-apart
add_refusals-requires-clause-apart c d k =
    subst (λ z. IsDisjoint (holds d) (places z.cubes)) c.list.ensures (c.in_ok-refused.ensures.apart d (subst (λ l. Contains l d) c.deref.ensures.value k))
