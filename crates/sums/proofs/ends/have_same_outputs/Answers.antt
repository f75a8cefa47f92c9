use Rattle.std.proofs.Common.{◌≡◌, ◌∙◌, get_or, All, ap, sym, subst, arith}
use Rattle.std.proofs.lemmas.List.{take_all, get_or_default}
use Rattle.std.proofs.lemmas.List.Elements.{All-more}
use Rattle.cube.specs.Cube.{Cube}
use Rattle.rows.proofs.Lists.{all_members}
use Rattle.sums.proofs.ends.have_same_outputs.Goals as goal

pub loop-row-preserved : goal.loop-row-preserved
loop-row-preserved c = λ first.
    let rows = c.args.rows.now in
    let P : Cube → Type 0 = λ d. (get_or rows 0 first).outputs ≡ d.outputs in
    let start = c.index-rows-0.is ∙ get_or_default rows 0 c.index-rows-0.result first (omega (arith, c.loop-row-test.true)) in
    All-more P rows c.loop-row.row-index c.row-item.result c.loop-row-test.true (c.loop-row.invariant first)
    (subst P c.row-item.is (sym (ap (λ d. d.outputs) start) ∙ c.has_same_outputs.ensures c.if-not-has_same_outputs.false))

pub returns : goal.returns
returns c = λ _ one other here there.
    let rows = c.args.rows.now in
    let P : Cube → Type 0 = λ d. (get_or rows 0 one).outputs ≡ d.outputs in
    let all = subst (All P) (take_all c.loop-row.row-index rows (omega arith)) (c.loop-row.invariant one) in
    sym (all_members P rows all one here) ∙ all_members P rows all other there
