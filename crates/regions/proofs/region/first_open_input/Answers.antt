use Rattle.std.proofs.Common.{◌≡◌, get_or, sym, ◌∙◌, ap, arith, rules, inl, inr}
use Rattle.std.proofs.lemmas.Bool.{cases_lt}
use Rattle.std.proofs.lemmas.Option.{get_or_from_slice_get}
use Rattle.cube.specs.declared.symbol.Symbol.TheVariants.{Dash}
use Rattle.regions.proofs.region.first_open_input.Goals as goal

pub loop-at-preserved : goal.loop-at-preserved
loop-at-preserved c = record {
  within = (let found = c.in-Some.ensures.found.within in omega (arith, found));
  none = λ k low dash.
      elim (cases_lt k c.loop-at.at) [
        | inl before ↦ c.loop-at.invariant.none k before dash
        | inr on ↦ elim (cases_lt k c.in-Some.i) [
          | inl below ↦ c.in-Some.ensures.found.dashes k on below
          | inr above ↦
              let here : k ≡ c.in-Some.i = omega arith in
              let own : c.symbol.result ≡ Dash =
              sym (get_or_from_slice_get c.args.region.now.symbols c.in-Some.i c.symbol.result Dash c.symbol.ensures)
              ∙ ap (λ j. get_or c.args.region.now.symbols j Dash) (sym here) ∙ dash in
              search (rules, own)
        ]
      ];
}

pub returns-clause-none : goal.returns-clause-none
returns-clause-none c = λ k lt dash.
    c.loop-at.invariant.none k (omega (arith, lt, c.loop-at-test.false, c.inputs-inputs.ensures.value, c.shape.ensures.size.0)) dash
