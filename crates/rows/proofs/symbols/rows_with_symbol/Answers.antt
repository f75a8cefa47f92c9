use Rattle.std.proofs.Common.{◌∙◌, ◌<◌, ap, sym, subst, length}
use Rattle.rows.proofs.Chosen.{kept_or_not, all_kept}
use Rattle.rows.proofs.symbols.rows_with_symbol.Goals as goal
use Rattle.rows.proofs.symbols.rows_with_symbol.Goals.{then-has_symbol_at+in_ok-push, else-has_symbol_at}

pub has_symbol_at-requires : goal.has_symbol_at-requires
has_symbol_at-requires c =
    subst (λ d. c.args.i < length d.now.symbols) (sym c.row-item.is) (c.requires c.loop-row.row-index c.row-item.result c.loop-row-test.true)

pub loop-row-preserved : goal.loop-row-preserved
loop-row-preserved c =
    let row = c.row-item.result in
    let step = kept_or_not _ c.args.rows.now c.loop-row.row-index row row c.loop-row-test.true c.row-item.is _ c.loop-row.invariant _ c.has_symbol_at.ensures in
    elim c.if-has_symbol_at.branch [
      | then-has_symbol_at+in_ok-push w ↦ ap (λ v. v.items) w.kept-is ∙ step.0 _ w.if-has_symbol_at.true w.in_ok-push.ensures.items
      | else-has_symbol_at w ↦ ap (λ v. v.items) w.kept-is ∙ step.1 w.if-has_symbol_at.false
    ]

pub returns : goal.returns
returns c = all_kept _ _ _ _ c.loop-row-test.false c.loop-row.invariant
