use Rattle.std.proofs.Common.{◌≡◌, ◌+◌, ◌∙◌, ◌∷◌, [], ap, subst, refl, arith, length}
use Rattle.std.specs.Prelude.{Some, IfSome, slice_get}
use Rattle.std.proofs.lemmas.List.{length-append}
use Rattle.rows.specs.Places.{behind}
use Rattle.rows.proofs.Lists.{HasSize-references_to}
use Rattle.growth.specs.RowsByOutput.{with_output, AreByOutput}
use Rattle.growth.proofs.Reaching.{few_more}
use Rattle.growth.proofs.rows_by_output.RowsByOutput.new.Goals as goal

pub rows_with_output-requires : goal.rows_with_output-requires
rows_with_output-requires c k d lt =
    let size = HasSize-references_to c.args.list.now.size c.as_slice.result.now c.as_slice.ensures.cubes c.deref.result.now (ap behind c.deref.ensures.value ∙ c.in_ok-all.ensures) k d lt in
    omega (arith, size.1, c.loop-j-test.true, c.outputs-j-end.ensures.value, ap (λ z. z.outputs) c.shape.ensures.size)

pub loop-j-preserved : goal.loop-j-preserved
loop-j-preserved c =
    let all = c.in_ok-all.all.items in
    let old = c.loop-j.by_output.items in
    let more = c.in_ok-rows_with_output.field-0 in
    let own = subst (λ l. IfSome more (λ found. found.items ≡ with_output c.loop-j.j l)) c.deref.ensures.value c.in_ok-rows_with_output.ensures in
    record {
      long = ap length c.in_ok-push.ensures.items ∙ length-append old (more ∷ []) ∙ ap (λ n. n + 1) c.loop-j.invariant.long;
      rows = record {
        behind_all = refl;
        few = λ j found at. few_more all old more c.loop-j.j c.loop-j.invariant.long c.loop-j.invariant.rows.few own j found
            (subst (λ l. slice_get l j ≡ Some (Some found)) c.in_ok-push.ensures.items at);
      };
    }

pub invariant_of-result : goal.invariant_of-result
invariant_of-result c =
    subst (λ l. AreByOutput l c.in_ok-all.all.items c.loop-j.by_output.items) (c.in_ok-all.ensures ∙ c.as_slice.ensures.value) c.loop-j.invariant.rows
