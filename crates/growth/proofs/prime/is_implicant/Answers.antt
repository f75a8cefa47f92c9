use Rattle.std.proofs.Common.{refl, sym, subst}
use Rattle.std.proofs.lemmas.Result.{IfOk-weaker}
use Rattle.cube.specs.Cube.{size_of}
use Rattle.rows.specs.Places.{behind}
use Rattle.growth.specs.RowsByOutput.{HoldSame}
use Rattle.growth.specs.Growth.{near_or}
use Rattle.growth.proofs.GrowthSteps.{inside_answer}
use Rattle.growth.proofs.Reaching.{same_answer, outside_answer}
use Rattle.growth.proofs.prime.is_implicant.Goals as goal

pub returns-in-Inside : goal.returns-in-Inside
returns-in-Inside c =
    let cube = c.args.cube.now in
    let rows = near_or c.args.rows.now c.args.near.now in
    let few = behind c.deref.result.now in
    let same = subst (λ l. HoldSame cube (behind l) rows.cubes) (sym c.deref.ensures.value) c.in_ok-asked.ensures.same in
    IfOk-weaker c.hold_cube.result _ _
    (λ b e. same_answer c.args.side cube few rows.cubes same b (inside_answer c.args.side (size_of cube) few cube b (refl, refl) c.in-Inside.is e))
    c.hold_cube.ensures

pub returns : goal.returns
returns c =
    let cube = c.args.cube.now in
    let rows = near_or c.args.rows.now c.args.near.now in
    let few = behind c.deref-in-Outside.result.now in
    let same = subst (λ l. HoldSame cube (behind l) rows.cubes) (sym c.deref-in-Outside.ensures.value) c.in_ok-asked.ensures.same in
    same_answer c.args.side cube few rows.cubes same c.is_disjoint_from_all.result (outside_answer c.args.side cube few c.is_disjoint_from_all.result c.in-Outside.is c.is_disjoint_from_all.ensures)
