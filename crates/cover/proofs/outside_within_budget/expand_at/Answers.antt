use Rattle.std.proofs.Common.{sym, subst}
use Rattle.std.proofs.lemmas.Result.{IfOk-weaker}
use Rattle.cube.specs.declared.symbol.Symbol.TheVariants.{Dash}
use Rattle.cube.specs.Cube.{Cube, holds, difference, IsCube, IsSubset}
use Rattle.rows.specs.Places.{places}
use Rattle.sums.specs.Outside.{Extends}
use Rattle.rows.proofs.SumSplit.{IsCube-with_symbol}
use Rattle.sums.proofs.OffSets.{Extends-self, holds-expand_at}
use Rattle.cover.proofs.outside_within_budget.expand_at.Goals as goal

pub returns-then-is_in_region_outside_rows-clause-extends : goal.returns-then-is_in_region_outside_rows-clause-extends
returns-then-is_in_region_outside_rows-clause-extends c =
    record {
      over = subst (λ (d : Cube). IsSubset (holds c.args.cube.now) (holds d)) (sym c.in_ok-free.ensures.value) (holds-expand_at c.args.cube.now c.args.i c.requires.input);
      within = λ h. c.is_in_region_outside_rows.ensures c.if-is_in_region_outside_rows.true;
    }

pub returns-clause-extends : goal.returns-clause-extends
returns-clause-extends c =
    let s = difference (holds c.args.region.now) (places c.args.rows.now) in
    IfOk-weaker c.try_clone.result _ _ (λ d e. subst (λ (x : Cube). Extends s (holds c.args.cube.now) (holds x)) (sym e) (Extends-self s (holds c.args.cube.now))) c.try_clone.ensures.value

pub returns-then-is_in_region_outside_rows-clause-cube : goal.returns-then-is_in_region_outside_rows-clause-cube
returns-then-is_in_region_outside_rows-clause-cube c = λ size cube.
    subst (IsCube size) (sym c.in_ok-free.ensures.value) (IsCube-with_symbol size c.args.cube.now c.args.i Dash cube)

pub returns-clause-cube : goal.returns-clause-cube
returns-clause-cube c = IfOk-weaker c.try_clone.result _ _ (λ d e size cube. subst (IsCube size) (sym e) cube) c.try_clone.ensures.value
