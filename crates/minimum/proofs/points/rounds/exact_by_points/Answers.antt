use Rattle.std.proofs.Common.{◌≡◌, ◌∙◌, ◌||◌, [], length, refl, sym, subst}
use Rattle.std.specs.List.{Contains}
use Rattle.std.proofs.lemmas.Bool.{eqb-true}
use Rattle.cube.specs.Cube.{IsSubset}
use Rattle.cube.specs.Limits.{IsWithinLimits, format_limits}
use Rattle.cover.specs.Cubes.{AreCubes}
use Rattle.cover.specs.Places.{places}
use Rattle.cover.proofs.SumRows.{nothing_left}
use Rattle.minimum.specs.Points.{function_of, lists_of, AreDominating}
use Rattle.minimum.specs.Primes.{care_on, exact_of}
use Rattle.minimum.proofs.PickedPoints.{found_same, found_dominate, wanted_given}
use Rattle.minimum.proofs.PointTables.{points_alone}
use Rattle.minimum.proofs.points.rounds.exact_by_points.Goals as goal

pub cover_of_points-requires : goal.cover_of_points-requires
cover_of_points-requires g c =
    let sets = g.sets in
    let given = lists_of c.args.on.now c.args.dc.now in
    let same = c.requires.1.1 in
    let found = c.loop.found in
    let points = c.deref.result.now in
    let given_on = subst (λ z. AreCubes z c.args.on.now.cubes) c.shape.ensures.size c.shape.ensures.cubes in
    let on : AreCubes sets.size sets.on = subst (λ z. AreCubes z sets.on) same.size (subst (AreCubes given.size) (sym same.on) given_on) in
    let dominating : AreDominating c.args.choice (function_of sets) points found.columns.cubes = subst (λ l. AreDominating c.args.choice (function_of sets) l found.columns.cubes) (sym c.deref.ensures.value)
    (found_dominate c.args.choice (function_of sets) (λ p. places sets.on p || places sets.dc p) found refl (found_same sets given c.args.source.now on given_on same c.args.choice found c.loop.invariant)) in
    (on, (dominating, (c.loop.invariant.size ∙ same.size, subst (IsWithinLimits format_limits) same.size c.in_ok-proposer.ensures)))

pub returns-then-is_least : goal.returns-then-is_least
returns-then-is_least g c =
    let sets = g.sets in
    let given = lists_of c.args.on.now c.args.dc.now in
    let same = c.requires.1.1 in
    let list = c.in_ok-list.list in
    let given_on = subst (λ z. AreCubes z c.args.on.now.cubes) c.shape.ensures.size c.shape.ensures.cubes in
    let on : AreCubes sets.size sets.on = subst (λ z. AreCubes z sets.on) same.size (subst (AreCubes given.size) (sym same.on) given_on) in
    let empty : c.in_ok-left.left.cubes ≡ [] = nothing_left c.in_ok-left.left.cubes (eqb-true (length c.in_ok-left.left.cubes) 0 (sym c.is_empty.ensures ∙ c.if-is_empty.true)) in
    let held : IsSubset (care_on sets) (places list.cubes) = λ p want. c.in_ok-left.ensures empty p (wanted_given sets given c.args.source.now on given_on same p want) in
    let cubes : list.cubes ≡ exact_of c.args.choice sets = points_alone c.args.choice sets c.deref.result.now list.cubes on (c.in_ok-list.ensures.least c.if-is_least.true)
    (λ d h. subst (λ l. Contains l d) same.primes (c.loop.invariant.primes d (c.in_ok-list.ensures.columns d h))) held in
    let size : list.size ≡ given.size = c.in_ok-list.ensures.size ∙ sym same.size in
    λ i. record { size = size i; cubes = cubes i }

pub cubes_left_out-requires : goal.cubes_left_out-requires
cubes_left_out-requires g c = record { dc = c.requires.0; list = c.in_ok-list.ensures.size ∙ sym c.requires.1.1.size }

pub loop-preserved : goal.loop-preserved
loop-preserved g c = c.in_ok-is_added.ensures
