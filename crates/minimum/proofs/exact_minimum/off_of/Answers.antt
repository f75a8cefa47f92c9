use Rattle.std.proofs.Common.{◌≡◌, ◌∙◌, ◌++◌, ◌||◌, not, ap, Option, Some, None, Result, Ok, Err, IfOk, IfSome, subst}
use Rattle.cube.specs.Cube.{Place, IsPlace}
use Rattle.cover.specs.Cubes.{Cubes}
use Rattle.cover.specs.Places.{places}
use Rattle.cover.proofs.SumMeets.{places-append}
use Rattle.pla.specs.Sets.{SetLists}
use Rattle.minimum.proofs.exact_minimum.off_of.Goals as goal

-- the places outside both lists are those outside the joined one
outside_both : {E : Type 0} (sets : SetLists) (all : Cubes) (r : Result (Option Cubes) E) → all ≡ record { size = sets.size; cubes = sets.on ++ sets.dc }
    → IfOk r (λ o. IfSome o (λ off. (p : Place) → IsPlace all.size p → places off.cubes p ≡ not (places all.cubes p)))
    → IfOk r (λ o. IfSome o (λ off. (p : Place) → IsPlace sets.size p → places off.cubes p ≡ not (places sets.on p || places sets.dc p)))
outside_both sets all (Ok None) e h = tt
outside_both sets all (Ok (Some off)) e h = λ p place.
    subst (λ (k : Cubes). (q : Place) → IsPlace k.size q → places off.cubes q ≡ not (places k.cubes q)) e h p place ∙ ap not (places-append sets.on sets.dc p)
outside_both sets all (Err x) e h = tt

pub returns-clause-places : goal.returns-clause-places
returns-clause-places c = outside_both c.args.sets.now c.in_ok-all.all c.outside.result c.in_ok-all.ensures c.outside.ensures.places
