use Rattle.std.proofs.Common.{◌∙◌, ◌<◌, ap, subst, arith, true, false, set, replicate}
use Rattle.std.proofs.lemmas.Option.{MatchOption-at_some}
use Rattle.cube.specs.Size.{Size}
use Rattle.cube.specs.declared.symbol.Symbol.TheVariants.{Dash}
use Rattle.cube.specs.Cube.{Cube, holds}
use Rattle.sums.specs.Outside.{IsRest}
use Rattle.sums.proofs.OffSets.{outside-more}
use Rattle.rows.proofs.OneOutput.{output_cube}
use Rattle.cover.proofs.outside_within_budget.outside.Goals as goal

pub loop-j-preserved : goal.loop-j-preserved
loop-j-preserved c =
    let size = c.args.list.now.size in
    let rows = c.args.list.now.cubes in
    let j = c.loop-j.j in
    let region = c.in_ok-region.region in
    let more = c.in-Some.more in
    let same = c.shape-shape.ensures.size in
    let made : Size → Cube = λ z. record { symbols = replicate z.inputs Dash; outputs = set (replicate z.outputs false) j true } in
    let lt : j < size.outputs = (let t = c.loop-j-test.true in let v = c.outputs-j-end.ensures.value in let s = ap (λ (z : Size). z.outputs) same in omega arith) in
    outside-more size rows j region c.loop-j.off.items more.items c.in_ok-off.off.items lt (c.in_ok-region.ensures ∙ ap made same) c.in_ok-off.ensures c.loop-j.invariant
    (subst (λ z. IsRest z (holds region) rows more.items) same
    (subst (λ l. IsRest c.shape-shape.result (holds region) l more.items) c.as_slice-rows.ensures.value (MatchOption-at_some _ _ more c.in-Some.is c.in_ok-more.ensures)))

pub outside_rows-requires-clause-region : goal.outside_rows-requires-clause-region
outside_rows-requires-clause-region c =
    let lt = subst (λ n. c.loop-j.j < n) c.outputs-j-end.ensures.value c.loop-j-test.true in
    output_cube c.shape-shape.result c.loop-j.j c.in_ok-region.region lt c.in_ok-region.ensures
