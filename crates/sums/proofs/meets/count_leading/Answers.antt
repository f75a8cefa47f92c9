use Rattle.std.proofs.Common.{◌≡◌, ◌∙◌, get_or, sym, subst}
use Rattle.cube.specs.declared.symbol.Symbol.TheVariants.{Dash}
use Rattle.cube.specs.Cube.{Cube}
use Rattle.std.proofs.lemmas.List.Elements.{All-more}
use Rattle.rows.proofs.ContainmentLemmas.{is_symbol-same}
use Rattle.sums.proofs.meets.count_leading.Goals as goal

pub loop-at-preserved : goal.loop-at-preserved
loop-at-preserved c =
    let P : Cube → Type 0 = λ d. get_or d.symbols c.args.i Dash ≡ c.args.symbol in
    All-more P c.args.rows.now c.loop-at.at c.index-rows-at.result c.loop-at-test.true c.loop-at.invariant
    (subst P c.index-rows-at.is
    (sym (is_symbol-same c.args.symbol (get_or c.index-rows-at.result.symbols c.args.i Dash) (sym c.has_symbol_at.ensures ∙ c.if-not-has_symbol_at.false))))
