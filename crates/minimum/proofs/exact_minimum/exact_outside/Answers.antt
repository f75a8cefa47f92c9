use Rattle.std.proofs.Common.{◌≡◌, ◌∙◌, ◌||◌, not, ap, sym, subst}
use Rattle.std.specs.Prelude.{IfOk, IfSome}
use Rattle.cube.specs.Cube.{Place, IsPlace}
use Rattle.cover.specs.Cubes.{Cubes}
use Rattle.cover.specs.Places.{places}
use Rattle.pla.specs.Sets.{SetLists}
use Rattle.minimum.specs.declared.points.source.Source.TheVariants.{Outside}
use Rattle.minimum.specs.Points.{IsSource}
use Rattle.minimum.specs.Primes.{exact_of}
use Rattle.minimum.proofs.PrimeSources.{places_same, source_outside, stands_given, stands_outside}
use Rattle.minimum.proofs.exact_minimum.exact_outside.Goals as goal

pub exact_by_points-requires : goal.exact_by_points-requires
exact_by_points-requires g c =
    let lists = g.lists in
    let own : SetLists → Cubes = λ s. record { size = s.size; cubes = s.on } in
    let others : SetLists → Cubes = λ s. record { size = s.size; cubes = s.dc } in
    let on = c.on.ensures ∙ ap own c.requires in
    let dc = c.dc.ensures ∙ ap others c.requires in
    let off = c.in_ok-large_first.field-0 in
    let given : Cubes = c.in-Some.off in
    let sized : off.size ≡ lists.size = c.in_ok-large_first.ensures.size ∙ rw c.in-Some.is at c.in_ok-off.ensures.size ∙ ap (λ (s : SetLists). s.size) c.requires in
    let same = places_same given.cubes off.cubes c.in_ok-large_first.ensures.cubes in
    let outside : (p : Place) → IsPlace lists.size p → places given.cubes p ≡ not (places lists.on p || places lists.dc p) =
    subst (λ (s : SetLists). (p : Place) → IsPlace s.size p → places given.cubes p ≡ not (places s.on p || places s.dc p)) c.requires (rw c.in-Some.is at c.in_ok-off.ensures.places) in
    let on_size = ap (λ (l : Cubes). l.size) on in (
      ap (λ (l : Cubes). l.size) dc ∙ sym on_size,
      (
        subst (λ z. IsSource z (Outside off)) (sym on_size) (source_outside lists off sized),
        stands_given lists c.on.result.now c.dc.result.now (Outside off) on dc (stands_outside lists off sized (λ p place. same p ∙ outside p place)),
      ),
    )

pub returns : goal.returns
returns g c =
    let size = ap (λ (l : Cubes). l.size) c.on.ensures ∙ ap (λ (s : SetLists). s.size) c.requires in
    subst (λ z. IfOk c.exact_by_points.result (λ o. IfSome o (λ list. list ≡ record { size = z; cubes = exact_of c.args.choice g.lists }))) size c.exact_by_points.ensures
