use Rattle.std.proofs.Common.{◌≡◌, ◌+◌, ◌<◌, ◌≤◌, ◌∙◌, false, get_or, ap, sym, subst, arith, length}
use Rattle.std.specs.Prelude.{Some, slice_get}
use Rattle.std.proofs.lemmas.Option.{get_or_from_slice_get, slice_get-get_or}
use Rattle.growth.proofs.Reaching.{AreReaching, reaching_lacks, reaching_more, reaching_all, reaching_sizes}
use Rattle.growth.proofs.rows_by_output.RowsByOutput.rows_reaching.Goals as goal
use Rattle.growth.proofs.rows_by_output.RowsByOutput.rows_reaching.Goals.{then-output+in-Some-Some+else-len+in_ok-extend_from_slice, else-output}

pub loop-j-preserved : goal.loop-j-preserved
loop-j-preserved c =
    let region = c.args.region.now in
    let all = c.self.inside.all.items in
    let j = c.loop-j.j in
    elim c.if-output.branch [
      | then-output+in-Some-Some+else-len+in_ok-extend_from_slice w ↦
          let few = w.deref-then-output.result.now in
          let slots = w.deref.result.now in
          let slot = w.in-Some-Some.field-0 in
          let own : slot.now ≡ get_or slots j slot.now = rw w.in-Some-Some.is at w.get.ensures.lookup.1 in
          let within : j < length slots = (rw w.in-Some-Some.is at w.get.ensures.lookup.3).0 in
          let at : slice_get c.self.inside.by_output.items j ≡ Some (Some w.in-Some-Some.few) =
          ap (λ l. slice_get l j) (sym w.deref.ensures.value) ∙ slice_get-get_or slots j slot.now within ∙ ap Some (sym own ∙ w.in-Some-Some.field-0-is) in
          subst (λ v. AreReaching region all v.items (j + 1)) (sym w.found-is)
          (reaching_more region all c.loop-j.found.items j c.loop-j.invariant few _ (w.deref-then-output.ensures.value ∙ c.self.invariant.few j w.in-Some-Some.few at) w.in_ok-extend_from_slice.ensures.items)
      | else-output w ↦
          subst (λ v. AreReaching region all v.items (j + 1)) (sym w.found-is)
          (reaching_lacks region all c.loop-j.found.items j c.loop-j.invariant (get_or_from_slice_get region.outputs j c.output.result false c.output.ensures ∙ w.if-output.false))
    ]

pub returns-clause-sizes : goal.returns-clause-sizes
returns-clause-sizes c =
    let list = c.self.inside.list.now in
    let size = ap (λ l. l.size) c.self.view_is in
    reaching_sizes c.args.region.now c.self.inside.all.items c.loop-j.found.items c.loop-j.j c.loop-j.invariant c.shape.result list.cubes c.shape.ensures.cubes c.self.invariant.behind_all
    (c.requires.0 ∙ sym (ap (λ z. z.inputs) (c.shape.ensures.size ∙ size)), c.requires.1 ∙ sym (ap (λ z. z.outputs) (c.shape.ensures.size ∙ size)))

pub returns-clause-same : goal.returns-clause-same
returns-clause-same c =
    let size = ap (λ z. z.outputs) (c.shape.ensures.size ∙ ap (λ l. l.size) c.self.view_is) in
    let past : length c.args.region.now.outputs ≤ c.loop-j.j = omega (arith, c.requires.1, size, c.outputs-j-end.ensures.value, c.loop-j-test.false) in
    reaching_all c.args.region.now c.self.inside.all.items c.loop-j.found.items c.loop-j.j c.loop-j.invariant past c.args.self.now.cubes (c.self.invariant.behind_all ∙ ap (λ l. l.cubes) c.self.view_is)
