use Rattle.std.proofs.Common.{◌∙◌, sym, ap, get_or}
use Rattle.std.proofs.lemmas.List.Folds.{list_any_at}
use Rattle.cube.specs.Cube.{Cube}
use Rattle.cube.specs.declared.symbol.Symbol.TheVariants.{Dash}
use Rattle.rows.specs.Marks.{is_symbol}
use Rattle.sums.proofs.SumEnds.{none_up_to}
use Rattle.sums.proofs.by_symbol.has_symbol.Goals as goal

pub returns-then-has_symbol_at-2 : goal.returns-then-has_symbol_at-2
returns-then-has_symbol_at-2 c =
    let q = λ (d : Cube). is_symbol c.args.symbol (get_or d.symbols c.args.i Dash) in
    sym (list_any_at q c.args.rows.now c.loop-row.row-index c.row-item.result c.loop-row-test.true
    (ap q (sym c.row-item.is) ∙ sym c.has_symbol_at-in-loop-row.ensures ∙ c.if-has_symbol_at-2.true))

pub loop-row-preserved : goal.loop-row-preserved
loop-row-preserved c =
    let q = λ (d : Cube). is_symbol c.args.symbol (get_or d.symbols c.args.i Dash) in
    none_up_to q c.args.rows.now c.loop-row.row-index c.row-item.result c.loop-row-test.true c.row-item.is c.loop-row.invariant
    (sym c.has_symbol_at-in-loop-row.ensures ∙ c.if-has_symbol_at-2.false)
