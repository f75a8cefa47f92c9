use Rattle.std.proofs.Common.{◌∙◌, sym, arith, inl, inr}
use Rattle.std.proofs.lemmas.Bool.{cases_lt, true≢false}
use Rattle.std.proofs.lemmas.List.{get_or_past}
use Rattle.cube.specs.declared.symbol.Symbol.TheVariants.{Dash}
use Rattle.minimum.proofs.RegionCandidates.{none_inside_next}
use Rattle.minimum.proofs.numbered_cubes.literal_inside.Goals as goal

pub loop-from-preserved : goal.loop-from-preserved
loop-from-preserved c = none_inside_next c.args.cube.now c.args.region.now c.loop-from.from c.in-Some.i c.loop-from.invariant.1 c.in-Some.ensures.found c.symbol.result c.symbol.ensures (λ e. true≢false (sym (rw e at c.eq.ensures) ∙ c.if-eq.false))

pub returns : goal.returns
returns c = λ k dash.
    elim (cases_lt k c.loop-from.from) [
      | inl before ↦ c.loop-from.invariant.1 k before dash
      | inr past ↦ get_or_past c.args.cube.now.symbols k Dash (omega (arith, past, c.loop-from-test.false, c.inputs-inputs.ensures.value, c.shape.ensures.size.0, c.requires.0))
    ]
