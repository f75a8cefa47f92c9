use Rattle.std.proofs.Common.{◌∙◌, refl, ap, get_or}
use Rattle.rows.specs.Marks.{is_over}
use Rattle.rows.proofs.Chosen.{kept_or_not, all_kept}
use Rattle.cover.proofs.containment.indices_with_containing_symbol.Goals as goal
use Rattle.cover.proofs.containment.indices_with_containing_symbol.Goals.{then-symbol_contains+in_ok-push, else-symbol_contains}

pub symbol_of_cube-requires-clause-k : goal.symbol_of_cube-requires-clause-k
symbol_of_cube-requires-clause-k c = c.requires.indices c.loop-k.k-index 0 c.loop-k-test.true

pub loop-k-preserved : goal.loop-k-preserved
loop-k-preserved c =
    let k = get_or c.args.indices.now c.loop-k.k-index 0 in
    let says = c.symbol_contains.ensures ∙ ap (λ s. is_over s c.args.symbol) c.symbol_of_cube.ensures in
    let step = kept_or_not _ c.args.indices.now c.loop-k.k-index 0 k c.loop-k-test.true refl _ c.loop-k.invariant _ says in
    elim c.if-symbol_contains.branch [
      | then-symbol_contains+in_ok-push w ↦ ap (λ v. v.items) w.kept-is ∙ step.0 _ w.if-symbol_contains.true w.in_ok-push.ensures.items
      | else-symbol_contains w ↦ ap (λ v. v.items) w.kept-is ∙ step.1 w.if-symbol_contains.false
    ]

pub returns : goal.returns
returns c = all_kept _ _ _ _ c.loop-k-test.false c.loop-k.invariant
