use Rattle.std.proofs.Common.{◌≡◌, ◌∙◌, ◌++◌, ◌↔◌, All, ap, sym, subst, IsTrue}
use Rattle.std.specs.Borrow.{Bor}
use Rattle.std.proofs.lemmas.Result.{IfOk-weaker}
use Rattle.cube.specs.Cube.{Cube, HasSize, IsSubset, intersection}
use Rattle.rows.specs.Cubes.{AreCubes}
use Rattle.rows.specs.Places.{places, behind}
use Rattle.rows.proofs.Agreement.{IsSubset-either}
use Rattle.regions.proofs.MeetsWithin.{AreCubes-rest, IsSubset-rest_where}
use Rattle.cover.proofs.compare.meets_within.are_meets_within_either.Goals as goal

pub are_meets_held_by_halves-requires-clause-rows : goal.are_meets_held_by_halves-requires-clause-rows
are_meets_held_by_halves-requires-clause-rows c =
    let size = c.shape-shape.result in
    let list = c.args.list.now.cubes in
    subst (AreCubes size) (sym (c.deref-4.ensures.value ∙ c.in_ok-copies.ensures ∙ ap behind c.deref-3.ensures.value))
    (AreCubes-rest size list c.deref.result.now c.in_ok-rest.rest.items c.deref-2.result.now (ap behind c.deref.ensures.value ∙ c.in_ok-rows.ensures.cubes) c.in_ok-rest.ensures.some
    c.shape-shape.ensures.cubes)

pub are_meets_held_by_halves-requires-clause-mask : goal.are_meets_held_by_halves-requires-clause-mask
are_meets_held_by_halves-requires-clause-mask c =
    subst (λ z. AreCubes z c.as_slice.result.now) (c.requires.mask ∙ sym c.shape-shape.ensures.size) c.as_slice.ensures.cubes

pub are_meets_held_by_halves-requires-clause-others : goal.are_meets_held_by_halves-requires-clause-others
are_meets_held_by_halves-requires-clause-others c =
    let sized : Bor Cube → Type 0 = λ d. HasSize d.now c.shape-shape.result in
    subst (All sized) (sym c.deref-5.ensures.value)
    (subst (λ z. All (λ d. HasSize d.now z) c.in_ok-all.all.items) (c.requires.dc ∙ sym c.shape-shape.ensures.size) c.in_ok-all.ensures.sizes)

pub returns : goal.returns
returns c =
    let list = c.args.list.now.cubes in
    let mask = c.args.mask.now.cubes in
    let other = c.args.other.now.cubes in
    let dc = c.args.dc.now.cubes in
    let rest = c.in_ok-rest.rest.items in
    let held_by = c.deref-2.result.now in
    let rows : behind c.deref.result.now ≡ list = ap behind c.deref.ensures.value ∙ c.in_ok-rows.ensures.cubes in
    let all : behind held_by ≡ dc ++ other = ap behind c.deref-2.ensures.value ∙ c.in_ok-all.ensures.cubes in
    let copied : c.deref-4.result.now ≡ behind rest = c.deref-4.ensures.value ∙ c.in_ok-copies.ensures ∙ ap behind c.deref-3.ensures.value in
    IfOk-weaker c.are_meets_held_by_halves.result _ _
    (λ held h.
    let left : IsTrue held ↔ IsSubset (intersection (places (behind rest)) (places mask)) (places (behind held_by)) =
    subst (λ l. IsTrue held ↔ IsSubset (intersection (places (behind rest)) (places mask)) (places (behind l))) (c.deref-5.ensures.value ∙ sym c.deref-2.ensures.value)
    (subst (λ l. IsTrue held ↔ IsSubset (intersection (places (behind rest)) (places l)) (places (behind c.deref-5.result.now))) c.as_slice.ensures.value
    (subst (λ l. IsTrue held ↔ IsSubset (intersection (places l) (places c.as_slice.result.now)) (places (behind c.deref-5.result.now))) copied h)) in
    IsSubset-either (intersection (places list) (places mask)) dc other (behind held_by) all held
    (IsSubset-rest_where c.shape-shape.result list c.deref.result.now rest held_by rows c.in_ok-rest.ensures.some c.in_ok-rest.ensures.all (places mask) held left))
    c.are_meets_held_by_halves.ensures
