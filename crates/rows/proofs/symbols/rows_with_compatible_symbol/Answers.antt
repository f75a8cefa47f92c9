use Rattle.std.proofs.Common.{◌∙◌, ◌<◌, ap, sym, subst, length}
use Rattle.rows.proofs.Chosen.{kept_or_not, all_kept}
use Rattle.rows.proofs.symbols.rows_with_compatible_symbol.Goals as goal
use Rattle.rows.proofs.symbols.rows_with_compatible_symbol.Goals.{then-is_compatible_at+in_ok-push, else-is_compatible_at}

pub is_compatible_at-requires : goal.is_compatible_at-requires
is_compatible_at-requires c =
    subst (λ d. c.args.i < length d.now.symbols) (sym c.row-item.is) (c.requires c.loop-row.row-index c.row-item.result c.loop-row-test.true)

pub loop-row-preserved : goal.loop-row-preserved
loop-row-preserved c =
    let row = c.row-item.result in
    let step = kept_or_not _ c.args.rows.now c.loop-row.row-index row row c.loop-row-test.true c.row-item.is _ c.loop-row.invariant _ c.is_compatible_at.ensures in
    elim c.if-is_compatible_at.branch [
      | then-is_compatible_at+in_ok-push w ↦ ap (λ v. v.items) w.kept-is ∙ step.0 _ w.if-is_compatible_at.true w.in_ok-push.ensures.items
      | else-is_compatible_at w ↦ ap (λ v. v.items) w.kept-is ∙ step.1 w.if-is_compatible_at.false
    ]

pub returns : goal.returns
returns c = all_kept _ _ _ _ c.loop-row-test.false c.loop-row.invariant
