use Rattle.std.proofs.Common.{◌<◌, ◌∙◌, ap, sym, arith}
use Rattle.std.proofs.lemmas.Option.{get_or_from_slice_get}
use Rattle.std.proofs.lemmas.Result.{IfOk-weaker}
use Rattle.cube.specs.declared.symbol.Symbol.TheVariants.{Dash}
use Rattle.cube.specs.Cube.{with_symbol}
use Rattle.growth.proofs.FewestLiterals.{no_better}
use Rattle.growth.proofs.columns.fewest_literals.+is_best_between.Goals as goal

pub returns : goal.returns
returns t c =
    let off = c.args.off.now in
    let narrow = c.args.narrow.now in
    let wide = c.args.wide.now in
    let i = c.in-Split.i in
    let lt : i < off.size.inputs = omega (arith, c.if-i-inputs.false, c.inputs.ensures.value, ap (λ z. z.inputs) c.shape.ensures.size) in
    let literal = get_or_from_slice_get narrow.symbols i c.symbol.result Dash c.symbol.ensures in
    IfOk-weaker c.is_best_between-2.result _ _ (λ b served e. no_better off narrow wide c.args.best.now c.in_ok-kept.kept c.in_ok-freed.freed i c.requires.narrow c.requires.wide lt
    (c.in_ok-kept.ensures.value ∙ ap (with_symbol wide i) (sym literal)) c.in_ok-freed.ensures.value (c.in_ok-is_best_between.ensures c.if-not-branch.false) (served e)) c.is_best_between-2.ensures
