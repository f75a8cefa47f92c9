use Rattle.std.proofs.Common.{◌≡◌, ◌∙◌, ◌<◌, length, ap, arith}
use Rattle.std.proofs.lemmas.Result.{IfOk-weaker}
use Rattle.std.proofs.lemmas.List.{length-take, length-drop}
use Rattle.std.proofs.lemmas.List.Elements.{All-same, All-take, All-drop}
use Rattle.cube.specs.Cube.{Cube, IsCube, intersection}
use Rattle.rows.specs.Places.{places, behind}
use Rattle.rows.proofs.Lists.{HasSize-references_to}
use Rattle.regions.proofs.MeetsWithin.{IsSubset-meets, IsSubset-apart, IsSubset-front, IsSubset-back}
use Rattle.regions.proofs.meets_within.+are_meets_held_by_halves.Goals as goal

pub are_related-requires-clause-rows : goal.are_related-requires-clause-rows
are_related-requires-clause-rows t c =
    HasSize-references_to c.args.shape c.in_ok-meets.meets.items (c.in_ok-meets.ensures c.args.shape c.requires.rows c.requires.mask).are_cubes c.deref-then-rows-le-FEW.result.now
    (ap behind c.deref-then-rows-le-FEW.ensures.value ∙ c.in_ok-met.ensures ∙ c.deref.ensures.value)

pub returns-then-rows-le-FEW : goal.returns-then-rows-le-FEW
returns-then-rows-le-FEW t c =
    let met : behind c.deref-then-rows-le-FEW.result.now ≡ c.in_ok-meets.meets.items = ap behind c.deref-then-rows-le-FEW.ensures.value ∙ c.in_ok-met.ensures ∙ c.deref.ensures.value in
    IfOk-weaker c.are_related.result _ _
    (λ held h. IsSubset-meets (places (behind c.deref-then-rows-le-FEW.result.now)) (intersection (places c.args.rows.now) (places c.args.mask.now)) (places (behind c.args.others.now))
    (λ p. ap (λ l. places l p) met ∙ (c.in_ok-meets.ensures c.args.shape c.requires.rows c.requires.mask).places p) held h)
    c.are_related.ensures

pub returns-then-branch : goal.returns-then-branch
returns-then-branch t c =
    IsSubset-apart (places c.args.rows.now) (places c.args.mask.now) (places (behind c.args.others.now)) (c.in_ok-are_disjoint.ensures.0 c.if-branch.true)

pub are_meets_held_by_halves-requires : goal.are_meets_held_by_halves-requires
are_meets_held_by_halves-requires t c =
    let rows = c.args.rows.now in
    let front = c.split_at.ensures.front in
    let shorter : length c.split_at.result.0.now < length rows = omega (arith, ap length front, length-take {A = Cube}) in (
      omega arith,
      (All-same (IsCube c.args.shape) c.split_at.result.0.now _ front (All-take (IsCube c.args.shape) _ rows c.requires.rows), (c.requires.mask, c.requires.others)),
    )

pub are_meets_held_by_halves-requires-2 : goal.are_meets_held_by_halves-requires-2
are_meets_held_by_halves-requires-2 t c =
    let rows = c.args.rows.now in
    let back = c.split_at.ensures.back in
    let shorter : length c.split_at.result.1.now < length rows = omega (arith, ap length back, length-drop {A = Cube}) in (
      omega arith,
      (All-same (IsCube c.args.shape) c.split_at.result.1.now _ back (All-drop (IsCube c.args.shape) _ rows c.requires.rows), (c.requires.mask, c.requires.others)),
    )

pub returns-then-not-branch : goal.returns-then-not-branch
returns-then-not-branch t c =
    let rows = c.args.rows.now in
    let front = c.split_at.result.0.now in
    let back = c.split_at.result.1.now in
    IsSubset-front rows front back (places c.args.mask.now) (places (behind c.args.others.now)) _ c.split_at.ensures.front c.split_at.ensures.back c.in_ok-are_meets_held_by_halves.field-0 c.if-not-branch.true
    c.in_ok-are_meets_held_by_halves.ensures

pub returns : goal.returns
returns t c =
    let rows = c.args.rows.now in
    let front = c.split_at.result.0.now in
    let back = c.split_at.result.1.now in
    IfOk-weaker c.are_meets_held_by_halves-2.result _ _
    (λ held h. IsSubset-back rows front back (places c.args.mask.now) (places (behind c.args.others.now)) _ c.split_at.ensures.front c.split_at.ensures.back c.in_ok-are_meets_held_by_halves.field-0 c.if-not-branch.false
    c.in_ok-are_meets_held_by_halves.ensures held h)
    c.are_meets_held_by_halves-2.ensures
