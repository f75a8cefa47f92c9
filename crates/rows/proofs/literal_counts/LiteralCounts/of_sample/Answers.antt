use Rattle.std.proofs.Common.{◌≡◌, ◌∙◌, length, sym, subst}
use Rattle.std.proofs.lemmas.Bool.{ltb-true}
use Rattle.rows.proofs.literal_counts.LiteralCounts.of_sample.Goals as goal

pub add-requires-clause-zeros : goal.add-requires-clause-zeros
add-requires-clause-zeros c =
    let found = c.in-Some.ensures.lookup in
    let at = c.saturating_mul.result in
    let row = c.in-Some.row.now in
    c.loop-k.invariant.0 ∙ sym (subst (λ d. length d.now.symbols ≡ c.args.shape.inputs) (sym found.1)
    (c.requires at row (ltb-true at (length c.args.rows.now) (sym found.0))).0)

pub add-requires-clause-ones : goal.add-requires-clause-ones
add-requires-clause-ones c =
    let found = c.in-Some.ensures.lookup in
    let at = c.saturating_mul.result in
    let row = c.in-Some.row.now in
    c.loop-k.invariant.1 ∙ sym (subst (λ d. length d.now.symbols ≡ c.args.shape.inputs) (sym found.1)
    (c.requires at row (ltb-true at (length c.args.rows.now) (sym found.0))).0)
