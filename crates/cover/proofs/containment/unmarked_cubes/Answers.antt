use Rattle.std.proofs.Common.{◌+◌, ◌<◌, ◌∙◌, ◌++◌, ◌∷◌, [], length, ap, sym, subst, get_or}
use Rattle.rows.specs.Cubes.{AreCubes}
use Rattle.rows.specs.Marks.{cube_at}
use Rattle.rows.proofs.ContainmentLemmas.{KeepsUnmarked, KeepsUnmarked-keep, KeepsUnmarked-skip, cube_at-self}
use Rattle.cover.proofs.containment.unmarked_cubes.Goals as goal
use Rattle.cover.proofs.containment.unmarked_cubes.Goals.{then-not-marks-k+in_ok-try_clone+in_ok-push, else-not-marks-k}

pub loop-k-preserved : goal.loop-k-preserved
loop-k-preserved c =
    let size = c.args.list.now.size in
    let cubes = c.args.list.now.cubes in
    let v = c.as_slice-cubes.ensures.value in
    let lt : c.loop-k.k < length cubes = subst (λ l. c.loop-k.k < length l) v c.loop-k-test.true in
    elim c.if-not-marks-k.branch [
      | then-not-marks-k+in_ok-try_clone+in_ok-push w ↦
          subst (KeepsUnmarked size cubes (c.loop-k.k + 1))
          (sym (ap (λ x. x.items) w.kept-is ∙ w.in_ok-push.ensures.items ∙ ap (λ x. c.loop-k.kept.items ++ x ∷ []) w.in_ok-try_clone.ensures.value))
          (KeepsUnmarked-keep size cubes c.loop-k.k w.index-cubes-k.result lt (w.index-cubes-k.is ∙ ap (λ l. get_or l c.loop-k.k w.index-cubes-k.result) v)
          c.loop-k.kept.items (subst (AreCubes size) v c.as_slice-cubes.ensures.cubes) c.loop-k.invariant
          (sym (c.requires.marks c.loop-k.k lt) ∙ w.if-not-marks-k.true))
      | else-not-marks-k w ↦
          subst (KeepsUnmarked size cubes (c.loop-k.k + 1)) (sym (ap (λ x. x.items) w.kept-is))
          (KeepsUnmarked-skip size cubes c.loop-k.k (cube_at cubes c.loop-k.k) lt (cube_at-self cubes c.loop-k.k lt) c.loop-k.kept.items c.loop-k.invariant
          (sym (c.requires.marks c.loop-k.k lt) ∙ w.if-not-marks-k.false))
    ]
