use Rattle.std.proofs.Common.{◌≡◌, ◌+◌, ◌<◌, [], All, IfSome, None, Some, refl, sym, subst, ◌∙◌, length, true, arith}
use Rattle.std.specs.List.{Contains}
use Rattle.std.proofs.lemmas.Bool.{false≢true, and_parts}
use Rattle.std.proofs.lemmas.List.{take_all}
use Rattle.cube.specs.Cube.{Cube, holds, intersection, HasSize, IsCube, IsSubset, SameSize}
use Rattle.cover.specs.Places.{places}
use Rattle.cover.proofs.Found.{meet_output, apart_from_none, same_from_some, part_from_some}
use Rattle.minimum.specs.Blocking.{IsNogood, IsWidening}
use Rattle.minimum.proofs.CommonPlace.{AreNogoods, no_nogoods, nogood_sizes, nogoods_more, nogood_earlier, nogood_by_rows, common_none, common_more, first_rows_more, parts_more}
use Rattle.minimum.proofs.essential_by_neighbours.common_place.+nogood_around.Goals as goal

pub returns-then-next-lists-clause-common : goal.returns-then-next-lists-clause-common
returns-then-next-lists-clause-common t c _ =
    c.next_list-next.ensures.common (common_none c.args.region.now c.args.lists.now c.next_list-next.result (omega (arith, c.if-next-lists.true)) c.requires.output)

pub loop-row-init : goal.loop-row-init
loop-row-init t c =
    let after = c.next_list-next.result + 1 in (
      subst (AreNogoods c.args.lists.now after c.args.region.now) (sym c.new-nogoods.ensures.items) (no_nogoods c.args.lists.now after c.args.region.now),
      λ p h. absurd (false≢true (and_parts (holds c.args.region.now p) (places [] p) h).1),
    )

pub loop-row-preserved-in_default-2 : goal.loop-row-preserved-in_default-2
loop-row-preserved-in_default-2 t c =
    let region = c.args.region.now in
    let row = c.row-item.result in (
      c.loop-row.invariant.0,
      first_rows_more region row c.as_slice-rows.result.now c.loop-row.row-index (λ p. places c.loop-row.nogoods.items p ≡ true) c.loop-row-test.true c.row-item.is c.loop-row.invariant.1
          (λ p in_region in_row. absurd (apart_from_none region row c.in_ok-part.field-0 c.in_ok-part.ensures.none c.in_default-2.is p in_region in_row)),
    )

pub nogood_around-requires : goal.nogood_around-requires
nogood_around-requires t c =
    let region = c.args.region.now in
    let row = c.row-item.result in
    let part = c.in-Some-2.part in
    let found = c.in_ok-part.field-0 in
    let same = same_from_some region part found c.in_ok-part.ensures.size c.in-Some-2.is in
    let lt : c.next_list-next.result < length c.args.lists.now = omega (arith, c.if-next-lists.false) in (
      omega (arith, lt, c.next_list-next.ensures.from),
      (
        (λ k l below. let own = c.requires.sizes k l below in (same.0 ∙ own.0, same.1 ∙ own.1)),
        (omega (arith, lt), meet_output region row part found c.in-Some-2.is c.in_ok-part.ensures.none (part_from_some region row part found c.in_ok-part.ensures.places c.in-Some-2.is)),
      ),
    )

pub returns-in_default-3-clause-common : goal.returns-in_default-3-clause-common
returns-in_default-3-clause-common t c _ =
    let region = c.args.region.now in
    let row = c.row-item.result in
    let part = c.in-Some-2.part in
    let list = c.index-lists-next.result in
    let member : Contains list.cubes row = subst (λ l. Contains l row) c.as_slice-rows.ensures.value (c.loop-row.row-index, c.loop-row-test.true, sym c.row-item.is) in
    c.next_list-next.ensures.common
    (common_more region row part c.args.lists.now c.next_list-next.result (part_from_some region row part c.in_ok-part.field-0 c.in_ok-part.ensures.places c.in-Some-2.is) list (omega (arith, c.if-next-lists.false))
    c.index-lists-next.is member (c.in_ok-nogood-2.ensures.common c.in_default-3.is))

pub returns-then-contains-clause-nogood : goal.returns-then-contains-clause-nogood
returns-then-contains-clause-nogood t c =
    let region = c.args.region.now in
    let lists = c.args.lists.now in
    let part = c.in-Some-2.part in
    let after = c.next_list-next.result + 1 in
    nogood_earlier lists c.args.from after region part c.in-Some-3.nogood (omega (arith, c.next_list-next.ensures.from)) (same_from_some region part c.in_ok-part.field-0 c.in_ok-part.ensures.size c.in-Some-2.is)
    (subst (λ o. IfSome o (IsNogood lists after part)) c.in-Some-3.is c.in_ok-nogood-2.ensures.nogood) (c.contains.ensures.0 c.if-contains.true)

pub loop-row-preserved : goal.loop-row-preserved
loop-row-preserved t c =
    let region = c.args.region.now in
    let row = c.row-item.result in
    let lists = c.args.lists.now in
    let part = c.in-Some-2.part in
    let found = c.in_ok-part.field-0 in
    let nogood = c.in-Some-3.nogood in
    let after = c.next_list-next.result + 1 in
    let nogoods = c.loop-row.nogoods.items in
    let new = c.push.new.self.items in
    let is : IsNogood lists after part nogood = subst (λ o. IfSome o (IsNogood lists after part)) c.in-Some-3.is c.in_ok-nogood-2.ensures.nogood in (
      nogoods_more lists after region part nogood nogoods new c.loop-row.invariant.0 (same_from_some region part found c.in_ok-part.ensures.size c.in-Some-2.is) is c.in_ok-push.ensures.items,
      parts_more region row part nogood c.as_slice-rows.result.now nogoods new c.loop-row.row-index c.loop-row-test.true c.row-item.is (part_from_some region row part found c.in_ok-part.ensures.places c.in-Some-2.is)
          is.around c.in_ok-push.ensures.items c.loop-row.invariant.1,
    )

pub widen-requires-clause-nogoods : goal.widen-requires-clause-nogoods
widen-requires-clause-nogoods t c =
    subst (All (λ d. SameSize d c.args.region.now)) (sym c.deref.ensures.value) (nogood_sizes c.args.lists.now (c.next_list-next.result + 1) c.args.region.now c.loop-row.nogoods.items c.loop-row.invariant.0)

pub widen-requires-clause-parts : goal.widen-requires-clause-parts
widen-requires-clause-parts t c =
    let region = c.args.region.now in
    let rows = c.as_slice-rows.result.now in
    subst (λ l. IsSubset (intersection (holds region) (places rows)) (places l)) (sym c.deref.ensures.value)
    (subst (λ l. IsSubset (intersection (holds region) (places l)) (places c.loop-row.nogoods.items)) (take_all c.loop-row.row-index rows c.loop-row-test.false) c.loop-row.invariant.1)

pub returns-clause-nogood : goal.returns-clause-nogood
returns-clause-nogood t c =
    let region = c.args.region.now in
    let rows = c.as_slice-rows.result.now in
    let list = c.index-lists-next.result in
    let nogoods = c.loop-row.nogoods.items in
    let widening : IsWidening list.cubes nogoods region c.in_ok-widen.field-0 = subst (λ l. IsWidening l nogoods region c.in_ok-widen.field-0) c.as_slice-rows.ensures.value
    (subst (λ l. IsWidening rows l region c.in_ok-widen.field-0) c.deref.ensures.value c.in_ok-widen.ensures) in
    nogood_by_rows c.args.lists.now c.args.from c.next_list-next.result c.next_list-next.ensures.from (omega (arith, c.if-next-lists.false)) list c.index-lists-next.is region c.in_ok-widen.field-0 nogoods
    c.loop-row.invariant.0 widening

pub next_list-next-requires-clause-sizes : goal.next_list-next-requires-clause-sizes
next_list-next-requires-clause-sizes t c = c.requires.sizes

pub next_list-next-requires-clause-from : goal.next_list-next-requires-clause-from
next_list-next-requires-clause-from t c = c.requires.from

pub returns-then-next-lists-clause-nogood : goal.returns-then-next-lists-clause-nogood
returns-then-next-lists-clause-nogood t c = tt

pub nogood_by_one_list-requires : goal.nogood_by_one_list-requires
nogood_by_one_list-requires t c = c.requires.sizes

some_none : (c : Cube) → Some c ≡ None → ⊥
some_none c e = cc

pub returns-in-Some-clause-common : goal.returns-in-Some-clause-common
returns-in-Some-clause-common t c e = absurd (some_none c.in-Some.nogood e)

pub returns-in-Some-clause-nogood : goal.returns-in-Some-clause-nogood
returns-in-Some-clause-nogood t c =
    let region = c.args.region.now in
    let lists = c.args.lists.now in
    let next = c.next_list-next.result in
    let is : IsNogood lists next region c.in-Some.nogood = subst (λ o. IfSome o (IsNogood lists next region)) c.in-Some.is c.in_ok-nogood.ensures in
    nogood_earlier lists c.args.from next region region c.in-Some.nogood c.next_list-next.ensures.from (refl, refl) is is.around

pub meet-requires : goal.meet-requires
meet-requires t c =
    let list = c.index-lists-next.result in
    let lt = c.if-next-lists.false in
    let own = subst (λ l. HasSize c.args.region.now l.size) (sym c.index-lists-next.is) (c.requires.sizes c.next_list-next.result list (omega (arith, lt))) in
    let cube = subst (IsCube list.size) (sym c.row-item.is) (c.as_slice-rows.ensures.cubes c.loop-row.row-index c.row-item.result c.loop-row-test.true) in
    (own.0 ∙ sym cube.has_size.0, own.1 ∙ sym cube.has_size.1)

pub returns-in_default-3-clause-nogood : goal.returns-in_default-3-clause-nogood
returns-in_default-3-clause-nogood t c = tt

pub contains-requires : goal.contains-requires
contains-requires t c =
    let part = c.in-Some-2.part in
    let same = same_from_some c.args.region.now part c.in_ok-part.field-0 c.in_ok-part.ensures.size c.in-Some-2.is in
    let is : IsNogood c.args.lists.now (c.next_list-next.result + 1) part c.in-Some-3.nogood = subst (λ o. IfSome o (IsNogood c.args.lists.now (c.next_list-next.result + 1) part)) c.in-Some-3.is c.in_ok-nogood-2.ensures.nogood in
    (is.size.0 ∙ same.0, is.size.1 ∙ same.1)

pub returns-then-contains-clause-common : goal.returns-then-contains-clause-common
returns-then-contains-clause-common t c e = absurd (some_none c.in-Some-3.nogood e)

pub widen-requires-clause-rows : goal.widen-requires-clause-rows
widen-requires-clause-rows t c =
    let list = c.index-lists-next.result in
    let lt = c.if-next-lists.false in
    let own = subst (λ l. HasSize c.args.region.now l.size) (sym c.index-lists-next.is) (c.requires.sizes c.next_list-next.result list (omega (arith, lt))) in
    λ k d below. let cube = c.as_slice-rows.ensures.cubes k d below in (cube.has_size.0 ∙ sym own.0, cube.has_size.1 ∙ sym own.1)

pub returns-clause-common : goal.returns-clause-common
returns-clause-common t c e = absurd (some_none c.in_ok-widen.field-0 e)
