use Rattle.std.proofs.Common.{◌∙◌, ap, sym, arith}
use Rattle.rows.specs.Marks.{is_symbol}
use Rattle.cover.proofs.MergedRows.{merged_union}
use Rattle.cover.proofs.merging.merge_at.Goals as goal

pub returns-then-is_equal-clause-places : goal.returns-then-is_equal-clause-places
returns-then-is_equal-clause-places c =
    merged_union c.args.row.now c.args.other.now c.in_ok-freed.freed c.in_ok-other_freed.other_freed c.args.i c.symbol-2.result c.symbol.result
    c.requires.input (omega (arith, c.requires.size.0)) c.symbol-2.ensures c.symbol.ensures
    (ap (λ u. is_symbol c.symbol.result u) (sym c.opposite.ensures) ∙ sym c.is_same_symbol.ensures ∙ c.if-not-is_same_symbol.false)
    c.in_ok-freed.ensures.value c.in_ok-other_freed.ensures.value (c.is_equal.ensures.0 c.if-is_equal.true)
