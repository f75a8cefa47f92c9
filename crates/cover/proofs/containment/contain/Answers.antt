use Rattle.std.proofs.Common.{◌≡◌, ◌∙◌, length, ap, sym, subst, replicate, false, get_or, arith}
use Rattle.std.specs.List.{range_with_len}
use Rattle.rows.specs.Cubes.{AreCubes}
use Rattle.rows.specs.Marks.{Marks}
use Rattle.rows.proofs.ContainmentLemmas.{All-range, marks_contained, take_front}
use Rattle.cover.proofs.containment.contain.Goals as goal

pub mark_absorbed-requires-clause-cubes : goal.mark_absorbed-requires-clause-cubes
mark_absorbed-requires-clause-cubes c = subst (AreCubes c.args.list.now.size) c.as_slice-cubes.ensures.value c.as_slice-cubes.ensures.cubes

pub mark_absorbed-requires-clause-inner : goal.mark_absorbed-requires-clause-inner
mark_absorbed-requires-clause-inner c =
    All-range (length c.args.list.now.cubes) c.deref-2.result.now
    (c.deref-2.ensures.value ∙ c.in_ok-all.ensures ∙ ap (range_with_len 0) (ap length c.as_slice-cubes.ensures.value))

pub mark_absorbed-requires-clause-outer : goal.mark_absorbed-requires-clause-outer
mark_absorbed-requires-clause-outer c =
    All-range (length c.args.list.now.cubes) c.deref-3.result.now
    (c.deref-3.ensures.value ∙ c.in_ok-all.ensures ∙ ap (range_with_len 0) (ap length c.as_slice-cubes.ensures.value))

pub unmarked_cubes-requires-clause-marks : goal.unmarked_cubes-requires-clause-marks
unmarked_cubes-requires-clause-marks c =
    let cubes = c.args.list.now.cubes in
    let all = c.deref-2.result.now in
    let all_is : all ≡ range_with_len 0 (length cubes) = c.deref-2.ensures.value ∙ c.in_ok-all.ensures ∙ ap (range_with_len 0) (ap length c.as_slice-cubes.ensures.value) in
    let both : c.deref-3.result.now ≡ all = c.deref-3.ensures.value ∙ sym c.deref-2.ensures.value in
    let old : c.deref_mut.result.now ≡ replicate (length cubes) false = c.deref_mut.ensures.value ∙ c.in_ok-marks.ensures.items_if_clones_equal (λ y e. e) ∙ ap (λ l. replicate (length l) false) c.as_slice-cubes.ensures.value in
    let new : c.deref-4.result.now ≡ c.mark_absorbed.new.marks = take_front _ _ _ _ c.deref-4.ensures.value (omega arith) in
    let marked = subst (λ l. Marks c.args.list.now.size cubes all l c.deref_mut.result.now c.mark_absorbed.new.marks) both c.in_ok-mark_absorbed.ensures in
    λ k lt. ap (λ l. get_or l k false) new ∙ marks_contained c.args.list.now.size cubes all c.deref_mut.result.now c.mark_absorbed.new.marks all_is old marked k lt
