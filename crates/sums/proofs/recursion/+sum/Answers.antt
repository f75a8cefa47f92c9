use Rattle.std.proofs.Common.{◌≡◌, ◌∙◌, ◌<◌, ◌≤◌, ◌++◌, ap, refl, sym, subst, arith, false, true, vec_len, length, IfSome}
use Rattle.std.specs.List.{Contains}
use Rattle.std.proofs.lemmas.Bool.{eqb-true}
use Rattle.std.proofs.lemmas.Result.{IfOk-weaker}
use Rattle.std.proofs.lemmas.List.Elements.{All-nil}
use Rattle.cube.specs.Size.{Size}
use Rattle.cube.specs.Cube.{Cube, Place, IsCube, IsPlace, difference}
use Rattle.cube.specs.Sum.{complete_sum}
use Rattle.sums.specs.Apart.{IsFree, IsInParts}
use Rattle.rows.specs.Cubes.{AreCubes}
use Rattle.rows.specs.Places.{places}
use Rattle.rows.specs.Complete.{cofactor_at, consensus_at, smoothing_at}
use Rattle.rows.specs.Parts.{live, has_symbol}
use Rattle.sums.specs.Free.{IsFreePart, IsRest}
use Rattle.rows.specs.Reduced.{IsUnate, IsWithoutAbsorbed}
use Rattle.sums.proofs.Dividing.{IsInParts-appended, complete_sum-appended, live-parts, live-one, live-other}
use Rattle.rows.proofs.Lists.{all_members}
use Rattle.sums.proofs.SumApart.{complete_sum-whole, complete_sum-whole_other, complete_sum-parts}
use Rattle.sums.proofs.SumFree.{live-rest}
use Rattle.rows.proofs.SumRows.{nothing_left, sizes}
use Rattle.sums.proofs.SumUnate.{complete_sum-unate}
use Rattle.sums.proofs.SumStep.{sum_of_lists, sum_of_copy, branch_falls, branch_sum, both_sum, complete_sum-no_outer, sum_of_list, complete_sum-empty, complete_sum-single, complete_sum-sharp, complete_sum-covered, AreCubes-complete_sum}
use Rattle.sums.proofs.SumBranches.{IsBranch-absorbed}
use Rattle.sums.proofs.SumWithoutAbsorbed.{AreCubes-without_absorbed, live-without_absorbed, complete_sum-without_absorbed}
use Rattle.sums.proofs.SumSides.{IsSide-none, IsSide-sum, side-rising, complete_sum-sides}
use Rattle.std.specs.List.Sorted.{IsStrictlySortedBy}
use Rattle.cube.specs.Order.{row_cmp}
use Rattle.cube.proofs.SumLemmas.{sorted-complete_sum}
use Rattle.sums.proofs.recursion.+sum.Goals as goal

pub sum_by_case-returns-then-is_empty : goal.sum_by_case-returns-then-is_empty
sum_by_case-returns-then-is_empty t c = complete_sum-empty c.args.shape c.args.minuend.items c.args.subtrahend.items (sym c.args.minuend.ok.0 ∙ eqb-true (vec_len c.args.minuend) 0 (sym c.is_empty.ensures ∙ c.if-is_empty.true))

pub sum_by_case-returns-then-len-eq1 : goal.sum_by_case-returns-then-len-eq1
sum_by_case-returns-then-len-eq1 t c =
    complete_sum-single c.args.shape c.args.minuend.items c.args.subtrahend.items c.requires.minuend
    (sym c.args.minuend.ok.0 ∙ (sym c.len.ensures ∙ c.if-len-eq1.true))
    (sym c.args.subtrahend.ok.0 ∙ eqb-true (vec_len c.args.subtrahend) 0 (sym c.is_empty-2.ensures ∙ c.if-is_empty-2.true))

pub sum_by_case-returns-then-branch : goal.sum_by_case-returns-then-branch
sum_by_case-returns-then-branch t c =
    let unate = subst (IsUnate c.args.shape) c.deref-then-is_empty-2.ensures.value (c.in_ok-is_unate.ensures c.if-branch.true) in
    IfOk-weaker c.absorb.result _ _ (λ rows h. complete_sum-no_outer c.args.shape rows.items c.args.minuend.items c.args.subtrahend.items (nothing_left c.args.subtrahend.items (sym c.args.subtrahend.ok.0 ∙ eqb-true (vec_len c.args.subtrahend) 0 (sym c.is_empty-2.ensures ∙ c.if-is_empty-2.true)))
    (complete_sum-unate c.args.shape c.args.minuend.items rows.items c.requires.minuend unate h)) c.absorb.ensures

pub sum_by_case-returns-then-has_universal_row : goal.sum_by_case-returns-then-has_universal_row
sum_by_case-returns-then-has_universal_row t c =
    let cubes = subst (AreCubes c.args.shape) (sym c.deref-2.ensures.value) c.requires.subtrahend in
    let all = c.has_universal_row.ensures c.if-has_universal_row.true c.args.shape cubes in
    c.new.ensures.items ∙ complete_sum-covered c.args.shape c.args.minuend.items c.args.subtrahend.items
    (subst (λ l. (p : Place) → IsPlace c.args.shape p → places l p ≡ true) c.deref-2.ensures.value all)

pub sum_by_case-sum_of_few_rows-requires : goal.sum_by_case-sum_of_few_rows-requires
sum_by_case-sum_of_few_rows-requires t c = record {
  size = c.args.shape;
  are_cubes = subst (AreCubes c.args.shape) (sym c.deref.ensures.value) c.requires.minuend;
}

pub sum_by_case-returns-in-Some : goal.sum_by_case-returns-in-Some
sum_by_case-returns-in-Some t c =
    complete_sum-no_outer c.args.shape c.in-Some.sum.items c.args.minuend.items c.args.subtrahend.items
    (nothing_left c.args.subtrahend.items (sym c.args.subtrahend.ok.0 ∙ eqb-true (vec_len c.args.subtrahend) 0 (sym c.is_empty-2.ensures ∙ c.if-is_empty-2.true)))
    (sum_of_copy c.args.shape c.deref.result.now c.args.minuend.items c.in-Some.sum.items c.deref.ensures.value c.requires.minuend
    (subst (λ found. IfSome found (λ sum. (size : Size) → AreCubes size c.deref.result.now → sum.items ≡ complete_sum size (places c.deref.result.now))) c.in-Some.is c.in_ok-sum.ensures))

pub sum_by_case-remembered_sum-requires : goal.sum_by_case-remembered_sum-requires
sum_by_case-remembered_sum-requires t c =
    let size = c.args.shape in
    let cubes = subst (AreCubes size) (sym c.deref-then-is_empty-2-2.ensures.value) c.requires.minuend in
    let part = subst (λ o. IfSome o (λ x. IsFreePart size c.deref-then-is_empty-2-2.result.now x)) c.in-Some-2.is (c.in_ok-constant.ensures size cubes) in
    let left = subst (λ l. AreCubes size l → IsRest size l c.in-Some-2.constant c.in_ok-rest.rest.items) c.deref-in-Some-2.ensures.value (λ h. c.in_ok-rest.ensures size h part.is_cube) c.requires.minuend in
    let less : live c.args.shape.inputs c.in_ok-rest.rest.items c.args.subtrahend.items ≤ live c.args.shape.inputs c.args.minuend.items c.args.subtrahend.items =
    live-rest c.args.shape c.args.minuend.items c.in_ok-rest.rest.items c.args.subtrahend.items c.in-Some-2.constant left c.args.shape.inputs in
    (omega arith, (left.are_cubes, c.requires.subtrahend))

pub sum_by_case-constant_row-requires : goal.sum_by_case-constant_row-requires
sum_by_case-constant_row-requires t c =
    record { size = c.args.shape; are_cubes = subst (AreCubes c.args.shape) (sym c.deref-then-is_empty-2-2.ensures.value) c.requires.minuend }

pub sum_by_case-without_constant_outputs-requires : goal.sum_by_case-without_constant_outputs-requires
sum_by_case-without_constant_outputs-requires t c =
    let size = c.args.shape in
    let cubes = subst (AreCubes size) (sym c.deref-then-is_empty-2-2.ensures.value) c.requires.minuend in
    let part = subst (λ o. IfSome o (λ x. IsFreePart size c.deref-then-is_empty-2-2.result.now x)) c.in-Some-2.is (c.in_ok-constant.ensures size cubes) in
    sizes size c.in-Some-2.constant c.deref-in-Some-2.result.now part.is_cube (subst (AreCubes size) (sym c.deref-in-Some-2.ensures.value) c.requires.minuend)

pub sum_by_case-with_constant_outputs-requires : goal.sum_by_case-with_constant_outputs-requires
sum_by_case-with_constant_outputs-requires t c =
    let size = c.args.shape in
    let cubes = subst (AreCubes size) (sym c.deref-then-is_empty-2-2.ensures.value) c.requires.minuend in
    let part = subst (λ o. IfSome o (λ x. IsFreePart size c.deref-then-is_empty-2-2.result.now x)) c.in-Some-2.is (c.in_ok-constant.ensures size cubes) in
    record {
      size = (
        size,
        AreCubes-complete_sum size (difference (places c.in_ok-rest.rest.items) (places c.args.subtrahend.items)) c.in_ok-sum-2.sum.items c.in_ok-sum-2.ensures,
        part.is_cube,
      );
      no_literal = part.no_literal;
    }

pub sum_by_case-returns-in-Some-2 : goal.sum_by_case-returns-in-Some-2
sum_by_case-returns-in-Some-2 t c =
    let size = c.args.shape in
    let minuend = c.args.minuend.items in
    let constant = c.in-Some-2.constant in
    let rest = c.in_ok-rest.rest.items in
    let none' = nothing_left c.args.subtrahend.items (sym c.args.subtrahend.ok.0 ∙ eqb-true (vec_len c.args.subtrahend) 0 (sym c.is_empty-2.ensures ∙ c.if-is_empty-2.true)) in
    let cubes = subst (AreCubes size) (sym c.deref-then-is_empty-2-2.ensures.value) c.requires.minuend in
    let part = subst (λ l. IsFreePart size l constant) c.deref-then-is_empty-2-2.ensures.value
    (subst (λ o. IfSome o (λ x. IsFreePart size c.deref-then-is_empty-2-2.result.now x)) c.in-Some-2.is (c.in_ok-constant.ensures size cubes)) in
    let left = subst (λ l. AreCubes size l → IsRest size l constant rest) c.deref-in-Some-2.ensures.value (λ h. c.in_ok-rest.ensures size h part.is_cube) c.requires.minuend in
    let own = AreCubes-complete_sum size (difference (places rest) (places c.args.subtrahend.items)) c.in_ok-sum-2.sum.items c.in_ok-sum-2.ensures in
    IfOk-weaker c.with_constant_outputs.result _ _ (λ rows h.
    complete_sum-no_outer size rows.items minuend c.args.subtrahend.items none'
    (h size minuend rest own part left (c.in_ok-sum-2.ensures ∙ sum_of_list size rest rest c.args.subtrahend.items refl none'))) c.with_constant_outputs.ensures

pub remembered_sum-returns-in-Some : goal.remembered_sum-returns-in-Some
remembered_sum-returns-in-Some t c =
    subst (λ found. IfSome found (λ rows. rows.items ≡ complete_sum c.args.shape (difference (places c.deref-3.result.now) (places c.deref-4.result.now)))) c.in-Some.is c.in_ok-sum.ensures
    ∙ sum_of_lists c.args.shape c.deref-3.result.now c.args.minuend.items c.deref-4.result.now c.args.subtrahend.items c.deref-3.ensures.value c.deref-4.ensures.value

pub remembered_sum-keep-requires : goal.remembered_sum-keep-requires
remembered_sum-keep-requires t c =
    c.deref-7.ensures.value ∙ c.in_ok-sum-2.ensures
    ∙ sum_of_lists c.args.shape c.deref-5.result.now c.args.minuend.items c.deref-6.result.now c.args.subtrahend.items c.deref-5.ensures.value c.deref-6.ensures.value

pub remembered_sum-returns : goal.remembered_sum-returns
remembered_sum-returns t c =
    c.in_ok-sum-2.ensures
    ∙ sum_of_lists c.args.shape c.deref-5.result.now c.args.minuend.items c.deref-6.result.now c.args.subtrahend.items c.deref-5.ensures.value c.deref-6.ensures.value

pub sum_by_split-difference_sum-requires : goal.sum_by_split-difference_sum-requires
sum_by_split-difference_sum-requires t c =
    let minuend = c.in_ok-both_minuend.ensures.both in
    let subtrahend = c.in_ok-both_subtrahend.ensures in
    let less : live c.args.shape.inputs c.in_ok-both_minuend.field-0.both.items c.in_ok-both_subtrahend.both_subtrahend.items < live c.args.shape.inputs c.args.minuend.now c.args.subtrahend.now =
    branch_falls c.args.shape c.in-Some.split.input c.args.minuend.now c.args.subtrahend.now c.in_ok-both_minuend.field-0.both.items c.in_ok-both_subtrahend.both_subtrahend.items
    (consensus_at c.in-Some.split.input (places c.args.minuend.now)) (smoothing_at c.in-Some.split.input (places c.args.subtrahend.now)) c.args.minuend.now c.args.subtrahend.now c.in-Some.ensures.bound refl refl
    c.in-Some.ensures.some minuend subtrahend in
    (omega arith, (minuend.are_cubes, subtrahend.are_cubes))

pub sum_by_split-combine_branches-requires-clause-size : goal.sum_by_split-combine_branches-requires-clause-size
sum_by_split-combine_branches-requires-clause-size t c = (
  c.args.shape,
  c.in-Some.ensures.bound,
  AreCubes-complete_sum c.args.shape (difference (places c.in_ok-both_minuend.field-0.both.items) (places c.in_ok-both_subtrahend.both_subtrahend.items)) c.in_ok-both.both.items c.in_ok-both.ensures,
  c.in_ok-low.ensures.are_cubes,
  c.in_ok-high.ensures.are_cubes,
)

pub sum_by_split-combine_branches-requires-clause-both : goal.sum_by_split-combine_branches-requires-clause-both
sum_by_split-combine_branches-requires-clause-both t c =
    subst (IsStrictlySortedBy row_cmp) (sym c.in_ok-both.ensures)
    (sorted-complete_sum c.args.shape (difference (places c.in_ok-both_minuend.field-0.both.items) (places c.in_ok-both_subtrahend.both_subtrahend.items)))

pub sum_by_split-combine_branches-requires-clause-zeros : goal.sum_by_split-combine_branches-requires-clause-zeros
sum_by_split-combine_branches-requires-clause-zeros t c =
    side-rising c.args.shape c.in-Some.split.input c.in-Some.ensures.bound c.args.minuend.now c.args.subtrahend.now
    c.in_ok-both_minuend.field-0.both.items c.in_ok-both_subtrahend.both_subtrahend.items c.in_ok-both.both.items
    c.in_ok-both_minuend.ensures.both c.in_ok-both_subtrahend.ensures c.in_ok-both.ensures false c.in_ok-low.low.items c.in_ok-low.ensures

pub sum_by_split-combine_branches-requires-clause-ones : goal.sum_by_split-combine_branches-requires-clause-ones
sum_by_split-combine_branches-requires-clause-ones t c =
    side-rising c.args.shape c.in-Some.split.input c.in-Some.ensures.bound c.args.minuend.now c.args.subtrahend.now
    c.in_ok-both_minuend.field-0.both.items c.in_ok-both_subtrahend.both_subtrahend.items c.in_ok-both.both.items
    c.in_ok-both_minuend.ensures.both c.in_ok-both_subtrahend.ensures c.in_ok-both.ensures true c.in_ok-high.high.items c.in_ok-high.ensures

pub sum_by_split-returns : goal.sum_by_split-returns
sum_by_split-returns t c =
    let size = c.args.shape in
    let i = c.in-Some.split.input in
    let lt = c.in-Some.ensures.bound in
    let minuend = c.args.minuend.now in
    let subtrahend = c.args.subtrahend.now in
    IfOk-weaker c.combine_branches.result _ _ (λ rows h.
    complete_sum-sides size i (difference (places minuend) (places subtrahend)) lt c.in_ok-both.both.items c.in_ok-low.low.items c.in_ok-high.high.items rows.items
    (both_sum size i lt minuend subtrahend c.in_ok-both_minuend.field-0.both.items c.in_ok-both_subtrahend.both_subtrahend.items c.in_ok-both.both.items c.in_ok-both_minuend.ensures.both c.in_ok-both_subtrahend.ensures c.in_ok-both.ensures)
    c.in_ok-low.ensures c.in_ok-high.ensures h) c.combine_branches.ensures

pub sum_at_value-difference_sum-requires : goal.sum_at_value-difference_sum-requires
sum_at_value-difference_sum-requires t c =
    let minuend = IsBranch-absorbed c.args.shape c.args.i c.args.minuend.now (cofactor_at c.args.i c.args.value (places c.args.minuend.now)) c.args.cofactor.items c.in_ok-minuend_at_value.minuend_at_value.items c.requires.cofactor c.in_ok-minuend_at_value.ensures in
    let subtrahend = c.in_ok-subtrahend_at_value.ensures in
    let less : live c.args.shape.inputs c.in_ok-minuend_at_value.minuend_at_value.items c.in_ok-subtrahend_at_value.subtrahend_at_value.items < live c.args.shape.inputs c.args.minuend.now c.args.subtrahend.now =
    branch_falls c.args.shape c.args.i c.args.minuend.now c.args.subtrahend.now c.in_ok-minuend_at_value.minuend_at_value.items c.in_ok-subtrahend_at_value.subtrahend_at_value.items
    (cofactor_at c.args.i c.args.value (places c.args.minuend.now)) (cofactor_at c.args.i c.args.value (places c.args.subtrahend.now)) c.args.minuend.now c.args.subtrahend.now c.requires.input refl refl
    c.requires.literal minuend subtrahend in
    (omega arith, (minuend.are_cubes, subtrahend.are_cubes))

pub sum_at_value-returns-then-not-has_symbol-2 : goal.sum_at_value-returns-then-not-has_symbol-2
sum_at_value-returns-then-not-has_symbol-2 t c =
    IsSide-none c.args.shape c.args.i c.requires.input c.args.minuend.now c.args.subtrahend.now c.requires.minuend c.requires.subtrahend c.args.value
    (ap (λ t. has_symbol c.args.i t c.args.minuend.now) (sym c.literal_of_value.ensures) ∙ sym c.has_symbol.ensures ∙ c.if-not-has_symbol.true)
    (ap (λ t. has_symbol c.args.i t c.args.subtrahend.now) (sym c.literal_of_value-then-not-has_symbol.ensures) ∙ sym c.has_symbol-then-not-has_symbol.ensures ∙ c.if-not-has_symbol-2.true)
    c.new.result.items c.new.ensures.items

pub sum_at_value-returns : goal.sum_at_value-returns
sum_at_value-returns t c =
    IfOk-weaker c.difference_sum.result _ _ (λ rows h.
    IsSide-sum c.args.shape c.args.i (difference (places c.args.minuend.now) (places c.args.subtrahend.now)) c.args.value rows.items
    (branch_sum c.args.shape c.args.i c.requires.input c.args.minuend.now c.args.subtrahend.now c.args.value c.in_ok-minuend_at_value.minuend_at_value.items c.in_ok-subtrahend_at_value.subtrahend_at_value.items rows.items
    (IsBranch-absorbed c.args.shape c.args.i c.args.minuend.now (cofactor_at c.args.i c.args.value (places c.args.minuend.now)) c.args.cofactor.items c.in_ok-minuend_at_value.minuend_at_value.items c.requires.cofactor c.in_ok-minuend_at_value.ensures)
    c.in_ok-subtrahend_at_value.ensures h)) c.difference_sum.ensures

pub sum_by_case-returns-then-len-eq1-3 : goal.sum_by_case-returns-then-len-eq1-3
sum_by_case-returns-then-len-eq1-3 t c =
    IfOk-weaker c.sharp.result _ _ (λ rows h.
    complete_sum-sharp c.args.shape c.args.minuend.items c.args.subtrahend.items rows.items c.index.result.now c.index-then-len-eq1-3.result.now c.requires.minuend
    (sym c.args.minuend.ok.0 ∙ (sym c.len-2.ensures ∙ c.if-len-eq1-2.true)) (sym c.args.subtrahend.ok.0 ∙ (sym c.len-then-len-eq1-2.ensures ∙ c.if-len-eq1-3.true))
    c.index.ensures c.index-then-len-eq1-3.ensures h) c.sharp.ensures

pub difference_sum-sum_by_case-requires : goal.difference_sum-sum_by_case-requires
difference_sum-sum_by_case-requires t c =
    let kept = subst (λ l. IsWithoutAbsorbed c.args.minuend.items l c.in_ok-left.left.items) c.deref.ensures.value c.in_ok-left.ensures in
    let less : live c.args.shape.inputs c.in_ok-left.left.items c.args.subtrahend.items ≤ live c.args.shape.inputs c.args.minuend.items c.args.subtrahend.items =
    live-without_absorbed c.args.minuend.items c.args.subtrahend.items c.in_ok-left.left.items kept c.args.shape.inputs in
    (omega arith, (AreCubes-without_absorbed c.args.shape c.args.minuend.items c.args.subtrahend.items c.in_ok-left.left.items kept c.requires.minuend, c.requires.subtrahend))

pub difference_sum-returns : goal.difference_sum-returns
difference_sum-returns t c =
    let kept = subst (λ l. IsWithoutAbsorbed c.args.minuend.items l c.in_ok-left.left.items) c.deref.ensures.value c.in_ok-left.ensures in
    IfOk-weaker c.sum_by_case.result _ _ (λ rows h. h ∙ complete_sum-without_absorbed c.args.shape c.args.minuend.items c.args.subtrahend.items c.in_ok-left.left.items kept) c.sum_by_case.ensures

pub sum_by_split-sum_by_parts-requires : goal.sum_by_split-sum_by_parts-requires
sum_by_split-sum_by_parts-requires t c =
    let parts = subst (λ found. IfSome found (λ parts. IsInParts c.args.shape c.args.minuend.now parts.one.items parts.other.items)) c.in-Some-2.is c.in_ok-parts.ensures in
    let one = c.in-Some-2.parts.one.items in
    let other = c.in-Some-2.parts.other.items in
    let less : live c.args.shape.inputs one other ≤ live c.args.shape.inputs c.args.minuend.now c.args.subtrahend.now =
    live-parts c.args.shape c.args.minuend.now one other parts c.args.subtrahend.now c.args.shape.inputs in
    (omega arith, IsInParts-appended c.args.shape c.args.minuend.now one other parts)

pub sum_by_split-returns-in-Some-2 : goal.sum_by_split-returns-in-Some-2
sum_by_split-returns-in-Some-2 t c =
    let parts = subst (λ found. IfSome found (λ parts. IsInParts c.args.shape c.args.minuend.now parts.one.items parts.other.items)) c.in-Some-2.is c.in_ok-parts.ensures in
    IfOk-weaker c.sum_by_parts.result _ _ (λ rows h.
    complete_sum-no_outer c.args.shape rows.items c.args.minuend.now c.args.subtrahend.now
    (nothing_left c.args.subtrahend.now (eqb-true (length c.args.subtrahend.now) 0 (sym c.is_empty.ensures ∙ c.if-is_empty.true)))
    (h ∙ complete_sum-appended c.args.shape c.args.minuend.now c.in-Some-2.parts.one.items c.in-Some-2.parts.other.items parts)) c.sum_by_parts.ensures

pub sum_by_parts-sum_by_case-requires : goal.sum_by_parts-sum_by_case-requires
sum_by_parts-sum_by_case-requires t c =
    let one = c.args.parts.one.items in
    let other = c.args.parts.other.items in
    let less : live c.args.shape.inputs one c.new.result.items < live c.args.shape.inputs one other =
    subst (λ l. live c.args.shape.inputs one l < live c.args.shape.inputs one other) (sym c.new.ensures.items) (live-one c.args.shape (one ++ other) one other c.requires) in
    (omega arith, (c.requires.one_cubes, subst (AreCubes c.args.shape) (sym c.new.ensures.items) (All-nil (IsCube c.args.shape))))

pub sum_by_parts-returns-then-has_row_without_literals : goal.sum_by_parts-returns-then-has_row_without_literals
sum_by_parts-returns-then-has_row_without_literals t c =
    let one = c.args.parts.one.items in
    let other = c.args.parts.other.items in
    let w = c.has_row_without_literals.ensures.some c.if-has_row_without_literals.true in
    complete_sum-whole c.args.shape (one ++ other) one other c.requires c.in_ok-sum.sum.items
    (c.in_ok-sum.ensures ∙ sum_of_list c.args.shape one one c.new.result.items refl c.new.ensures.items)
    w.0 (subst (λ l. Contains l w.0) c.deref.ensures.value w.1) w.2

pub sum_by_parts-sum_by_case-requires-2 : goal.sum_by_parts-sum_by_case-requires-2
sum_by_parts-sum_by_case-requires-2 t c =
    let one = c.args.parts.one.items in
    let other = c.args.parts.other.items in
    let less : live c.args.shape.inputs other c.new-2.result.items < live c.args.shape.inputs one other =
    subst (λ l. live c.args.shape.inputs other l < live c.args.shape.inputs one other) (sym c.new-2.ensures.items) (live-other c.args.shape (one ++ other) one other c.requires) in
    (omega arith, (c.requires.other_cubes, subst (AreCubes c.args.shape) (sym c.new-2.ensures.items) (All-nil (IsCube c.args.shape))))

pub sum_by_parts-returns-then-has_row_without_literals-2 : goal.sum_by_parts-returns-then-has_row_without_literals-2
sum_by_parts-returns-then-has_row_without_literals-2 t c =
    let one = c.args.parts.one.items in
    let other = c.args.parts.other.items in
    let w = c.has_row_without_literals-2.ensures.some c.if-has_row_without_literals-2.true in
    complete_sum-whole_other c.args.shape (one ++ other) one other c.requires c.in_ok-other_sum.other_sum.items
    (c.in_ok-other_sum.ensures ∙ sum_of_list c.args.shape other other c.new-2.result.items refl c.new-2.ensures.items)
    w.0 (subst (λ l. Contains l w.0) c.deref-2.ensures.value w.1) w.2

pub sum_by_parts-merge-requires : goal.sum_by_parts-merge-requires
sum_by_parts-merge-requires t c = record {
  size = c.args.shape;
  are_cubes = AreCubes-complete_sum c.args.shape (difference (places c.args.parts.one.items) (places c.new.result.items)) c.in_ok-sum.sum.items c.in_ok-sum.ensures;
  are_others =
      AreCubes-complete_sum c.args.shape (difference (places c.args.parts.other.items) (places c.new-2.result.items)) c.in_ok-other_sum.other_sum.items c.in_ok-other_sum.ensures;
}

pub sum_by_parts-returns : goal.sum_by_parts-returns
sum_by_parts-returns t c =
    let one = c.args.parts.one.items in
    let other = c.args.parts.other.items in
    let bound = λ (d : Cube). IsFree d → ⊥ in
    IfOk-weaker c.merge.result _ _ (λ rows h.
    complete_sum-parts c.args.shape (one ++ other) one other c.requires c.in_ok-sum.sum.items c.in_ok-other_sum.other_sum.items rows.items
    (c.in_ok-sum.ensures ∙ sum_of_list c.args.shape one one c.new.result.items refl c.new.ensures.items)
    (c.in_ok-other_sum.ensures ∙ sum_of_list c.args.shape other other c.new-2.result.items refl c.new-2.ensures.items)
    (λ m k. all_members bound c.deref.result.now (c.has_row_without_literals.ensures.none c.if-has_row_without_literals.false) m (subst (λ l. Contains l m) (sym c.deref.ensures.value) k))
    (λ m k. all_members bound c.deref-2.result.now (c.has_row_without_literals-2.ensures.none c.if-has_row_without_literals-2.false) m (subst (λ l. Contains l m) (sym c.deref-2.ensures.value) k))
    h) c.merge.ensures
