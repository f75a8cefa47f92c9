use Rattle.std.proofs.Common.{◌≡◌, ◌∙◌, ◌++◌, ◌↔◌, All, ap, sym, subst, IsTrue}
use Rattle.std.specs.Borrow.{Bor}
use Rattle.std.proofs.lemmas.Result.{IfOk-weaker}
use Rattle.cube.specs.Cube.{Cube, HasSize, IsSubset}
use Rattle.rows.specs.Places.{places, behind}
use Rattle.rows.proofs.Agreement.{IsSubset-either}
use Rattle.regions.proofs.EqualRows.{HasSize-rest, IsSubset-rest}
use Rattle.cover.proofs.compare.is_within_either.Goals as goal

pub are_related-requires-clause-rows : goal.are_related-requires-clause-rows
are_related-requires-clause-rows c =
    let size = c.shape-shape.result in
    let sized : Bor Cube → Type 0 = λ d. HasSize d.now size in
    let rows : All sized c.deref.result.now =
    subst (All sized) (sym c.deref.ensures.value)
    (subst (λ z. All (λ d. HasSize d.now z) c.in_ok-rows.rows.items) (sym c.shape-shape.ensures.size) c.in_ok-rows.ensures.sizes) in
    subst (All sized) (sym c.deref-3.ensures.value)
    (HasSize-rest size c.in_ok-rest.rest.items c.deref.result.now rows c.in_ok-rest.ensures.some)

pub are_related-requires-clause-others : goal.are_related-requires-clause-others
are_related-requires-clause-others c =
    let sized : Bor Cube → Type 0 = λ d. HasSize d.now c.shape-shape.result in
    subst (All sized) (sym c.deref-4.ensures.value)
    (subst (λ z. All (λ d. HasSize d.now z) c.in_ok-all.all.items) (c.requires.dc ∙ sym c.shape-shape.ensures.size) c.in_ok-all.ensures.sizes)

pub returns : goal.returns
returns c =
    let list = c.args.list.now.cubes in
    let other = c.args.other.now.cubes in
    let dc = c.args.dc.now.cubes in
    let held_by = c.deref-2.result.now in
    let rows : behind c.deref.result.now ≡ list = ap behind c.deref.ensures.value ∙ c.in_ok-rows.ensures.cubes in
    let all : behind held_by ≡ dc ++ other = ap behind c.deref-2.ensures.value ∙ c.in_ok-all.ensures.cubes in
    IfOk-weaker c.are_related.result _ _
    (λ held h.
    let left : IsTrue held ↔ IsSubset (places (behind c.in_ok-rest.rest.items)) (places (behind held_by)) =
    subst (λ l. IsTrue held ↔ IsSubset (places (behind c.in_ok-rest.rest.items)) (places (behind l))) (c.deref-4.ensures.value ∙ sym c.deref-2.ensures.value)
    (subst (λ l. IsTrue held ↔ IsSubset (places (behind l)) (places (behind c.deref-4.result.now))) c.deref-3.ensures.value h) in
    IsSubset-either (places list) dc other (behind held_by) all held
    (subst (λ l. IsTrue held ↔ IsSubset (places l) (places (behind held_by))) rows
    (IsSubset-rest c.deref.result.now c.in_ok-rest.rest.items held_by c.in_ok-rest.ensures.some c.in_ok-rest.ensures.all held left)))
    c.are_related.ensures
