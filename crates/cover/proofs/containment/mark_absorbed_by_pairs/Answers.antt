use Rattle.std.proofs.Common.{◌∙◌, ◌+◌, ◌<◌, get_or, take, sym, subst}
use Rattle.std.proofs.lemmas.List.{take_all}
use Rattle.rows.specs.Marks.{Marks}
use Rattle.rows.proofs.ContainmentLemmas.{Marks-left, Marks-marked}
use Rattle.cover.proofs.containment.mark_absorbed_by_pairs.Goals as goal
use Rattle.cover.proofs.containment.mark_absorbed_by_pairs.Goals.{then-is_absorbed_by_some, else-is_absorbed_by_some}

pub loop-k-preserved : goal.loop-k-preserved
loop-k-preserved c =
    let size = c.args.list.now.size in
    let cubes = c.args.list.now.cubes in
    let inner = c.args.inner.now in
    let outer = c.args.outer.now in
    let i = c.loop-k.k-index in
    let old = c.args.marks.now in
    let marks = c.loop-k.marks in
    let says = c.is_absorbed_by_some.ensures in
    elim c.if-is_absorbed_by_some.branch [
      | then-is_absorbed_by_some w ↦
          subst (Marks size cubes (take (i + 1) inner) outer old) (sym w.marks-is)
          (Marks-marked size cubes inner outer i c.loop-k-test.true old marks _ says c.loop-k.invariant w.if-is_absorbed_by_some.true
          (subst (λ n. get_or inner i 0 < n) (sym (c.loop-k.invariant.len ∙ c.requires.marks)) (c.requires.inner i 0 c.loop-k-test.true)))
      | else-is_absorbed_by_some w ↦
          subst (Marks size cubes (take (i + 1) inner) outer old) (sym w.marks-is)
          (Marks-left size cubes inner outer i c.loop-k-test.true old marks _ says c.loop-k.invariant w.if-is_absorbed_by_some.false)
    ]

pub returns : goal.returns
returns c =
    subst (λ l. Marks c.args.list.now.size c.args.list.now.cubes l c.args.outer.now c.args.marks.now c.loop-k.marks)
    (take_all c.loop-k.k-index c.args.inner.now c.loop-k-test.false) c.loop-k.invariant
