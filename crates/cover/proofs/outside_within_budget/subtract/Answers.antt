use Rattle.std.proofs.Common.{◌∙◌, ap, sym, subst}
use Rattle.std.proofs.lemmas.Option.{MatchOption-at_some}
use Rattle.cube.specs.Cube.{IsPlace, difference}
use Rattle.rows.specs.Cubes.{Cubes, AreCubes}
use Rattle.rows.specs.Places.{places}
use Rattle.sums.proofs.OffSets.{rest-apart}
use Rattle.cover.proofs.outside_within_budget.subtract.Goals as goal

pub subtract_by_halves-requires-clause-others : goal.subtract_by_halves-requires-clause-others
subtract_by_halves-requires-clause-others c =
    subst (λ z. AreCubes z c.as_slice.result.now) (c.requires ∙ sym c.shape-shape.ensures.size) c.as_slice.ensures.cubes

pub returns-then-not-meet-clause-places : goal.returns-then-not-meet-clause-places
returns-then-not-meet-clause-places c = λ p place.
    ap (λ (l : Cubes). places l.cubes p) c.in_ok-try_clone.ensures ∙ rest-apart c.args.list.now.size c.args.list.now.cubes c.args.other.now.cubes (sym c.in_ok-meet.ensures ∙ c.if-not-meet.true) p place

pub returns-clause-places : goal.returns-clause-places
returns-clause-places c = λ p place.
    let found = MatchOption-at_some _ _ c.in-Some.cubes c.in-Some.is c.in_ok-cubes.ensures in
    ap (λ (l : Cubes). places l.cubes p) c.from_cubes.ensures ∙ found.places p (subst (λ z. IsPlace z p) (sym c.shape-shape.ensures.size) place)
    ∙ ap (λ l. difference (places l) (places c.as_slice.result.now) p) c.deref.ensures.value
    ∙ ap (λ l. difference (places c.in_ok-rows.rows.items) (places l) p) c.as_slice.ensures.value ∙ c.in_ok-rows.ensures.places p
