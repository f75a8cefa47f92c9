use Rattle.std.proofs.Common.{◌∙◌, Some, slice_get, ◌≡◌, ap, sym}
use Rattle.std.proofs.lemmas.Bool.{false≢true, not-true}
use Rattle.std.proofs.lemmas.Option.{get_or_from_slice_get}
use Rattle.cube.specs.declared.symbol.Symbol.TheVariants.{Dash}
use Rattle.cube.specs.Cube.{with_symbol}
use Rattle.cube.specs.Sharp.{opposite}
use Rattle.growth.proofs.FirstPrimes.{member_at, input_refused}
use Rattle.growth.proofs.columns.best_cube.settle_input.Goals as goal

pub returns-clause-settled : goal.returns-clause-settled
returns-clause-settled c e =
    let off = c.args.off.now in
    let cube = c.args.cube.now in
    let row = c.in-Some-get.row.now in
    let at : slice_get off.cubes c.in-Some.r ≡ Some row = sym c.in-Some-get.ensures.value in
    input_refused off cube row c.in_ok-rest.rest c.args.i c.requires.cube c.requires.input (member_at off.cubes c.in-Some.r row at)
    (c.in_ok-rest.ensures.value ∙ ap (with_symbol cube c.args.i) (c.opposite.ensures ∙ ap opposite (sym (get_or_from_slice_get cube.symbols c.args.i c.symbol-literal.result Dash c.symbol-literal.ensures))))
    (λ apart. false≢true (sym (not-true c.disjoint.result e) ∙ c.disjoint.ensures.1 apart))
