use Rattle.std.proofs.Common.{◌≡◌, ◌∙◌, ◌++◌, ◌||◌, [], refl, ap, sym, subst, arith}
use Rattle.std.specs.List.{Contains}
use Rattle.std.proofs.lemmas.Bool.{eqb-true}
use Rattle.cube.specs.Cube.{IsSubset}
use Rattle.cube.specs.Limits.{IsWithinLimits, format_limits}
use Rattle.cover.specs.Cubes.{Cubes}
use Rattle.cover.specs.Places.{places}
use Rattle.cover.specs.Reduced.{HasSameCubes}
use Rattle.cover.proofs.SumRows.{nothing_left}
use Rattle.minimum.specs.Points.{AreDominating, IsLeastOfPoints, function_of}
use Rattle.minimum.specs.Primes.{care_on, exact_of}
use Rattle.minimum.specs.AsNeeded.{IsKnown}
use Rattle.minimum.proofs.AsNeeded.{on_cubes, nothing_known}
use Rattle.minimum.proofs.PickedPoints.{found_dominate}
use Rattle.minimum.proofs.PointTables.{points_are_enough, least_beside}
use Rattle.minimum.proofs.as_needed.exact_beside.Goals as goal

pub loop-init : goal.loop-init
loop-init g c =
    let known = c.new-known.result in
    let size = c.shape-shape.ensures.size ∙ ap (λ (l : Cubes). l.size) c.requires.1.0 in
    nothing_known c.args.choice g.lists c.args.essential.now.cubes known (c.new-known.ensures.outside ∙ ap (λ z. record { size = z; cubes = [] }) size) c.new-known.ensures.points (c.new-known.ensures.size ∙ size) c.new-known.ensures.columns

pub cover_of_points-requires : goal.cover_of_points-requires
cover_of_points-requires g c =
    let sets = g.lists in
    let is = c.requires.1.0 in
    let found = c.loop.known.found in
    let size = c.shape-shape.ensures.size ∙ ap (λ (l : Cubes). l.size) is in
    let dominating : AreDominating c.args.choice (function_of sets) c.deref.result.now found.columns.cubes = subst (λ l. AreDominating c.args.choice (function_of sets) l found.columns.cubes) (sym c.deref.ensures.value)
    (found_dominate c.args.choice (function_of sets) (λ p. places sets.on p || places sets.dc p) found refl c.loop.invariant.found) in (
      on_cubes sets c.args.all.now c.shape-shape.result is c.shape-shape.ensures.size c.shape-shape.ensures.cubes,
      (dominating, (c.loop.invariant.found.size, subst (IsWithinLimits format_limits) size c.most_looks-looks.ensures)),
    )

pub returns-then-is_least : goal.returns-then-is_least
returns-then-is_least g c =
    let sets = g.lists in
    let essential = c.args.essential.now.cubes in
    let found = c.loop.known.found in
    let chosen = c.in_ok-chosen.chosen in
    let list = c.in_ok-in_row_order.field-0 in
    let is_cover = ap (λ (l : Cubes). l.cubes) c.in_ok-cover.ensures in
    let parts = c.in_ok-parts.parts.items in
    let no_parts : parts ≡ [] = nothing_left parts (
    let e = eqb-true c.in_ok-parts.parts.len 0 (sym c.is_empty.ensures ∙ c.if-is_empty.true) in
    let long = c.in_ok-parts.parts.ok.0 in
    omega (arith, e, long)) in
    let held : IsSubset (care_on sets) (places (essential ++ chosen.cubes)) = subst (λ l. IsSubset (care_on sets) (places l)) is_cover (subst (λ z. IsSubset (care_on z) (places c.in_ok-cover.cover.cubes)) c.requires.0 (c.in_ok-parts.ensures.held no_parts)) in
    let same : HasSameCubes (essential ++ chosen.cubes) list.cubes = subst (λ l. HasSameCubes l list.cubes) is_cover c.in_ok-in_row_order.ensures.cubes in
    let on = on_cubes sets c.args.all.now c.shape-shape.result c.requires.1.0 c.shape-shape.ensures.size c.shape-shape.ensures.cubes in
    let least : IsLeastOfPoints c.args.choice (function_of sets) [] found.points.items chosen.cubes = subst (λ l. IsLeastOfPoints c.args.choice (function_of sets) [] l chosen.cubes) c.deref.ensures.value (c.in_ok-chosen.ensures.least c.if-is_least.true) in
    let cubes : list.cubes ≡ exact_of c.args.choice sets =
    points_are_enough c.args.choice sets essential found.points.items chosen.cubes list.cubes on (λ d k. subst (λ l. Contains l d) (ap (λ (l : Cubes). l.cubes) c.requires.1.1) k)
    (least_beside c.args.choice (function_of sets) essential found.points.items chosen.cubes c.loop.invariant.apart least)
    (λ d k. c.loop.invariant.found.primes d (c.in_ok-chosen.ensures.columns d k)) held c.in_ok-in_row_order.ensures.rising same in
    let size : list.size ≡ sets.size = c.in_ok-in_row_order.ensures.size ∙ ap (λ (l : Cubes). l.size) c.in_ok-cover.ensures ∙ ap (λ (l : Cubes). l.size) c.requires.1.1 in
    λ i. record { size = size i; cubes = cubes i }

pub add_points-requires-clause-parts : goal.add_points-requires-clause-parts
add_points-requires-clause-parts g c d k = c.in_ok-parts.ensures.cubes d (subst (λ l. Contains l d) c.deref-in-loop.ensures.value k)

pub add_points-requires-clause-known : goal.add_points-requires-clause-known
add_points-requires-clause-known g c = subst (λ z. IsKnown c.args.choice z c.args.essential.now.cubes c.loop.known) (sym c.requires.0) c.loop.invariant

pub loop-preserved : goal.loop-preserved
loop-preserved g c = subst (λ z. IsKnown c.args.choice z c.args.essential.now.cubes c.add_points.new.known) c.requires.0 c.in_ok-add_points.ensures
