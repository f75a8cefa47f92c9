use Rattle.std.proofs.Common.{◌≡◌, length, subst, sym}
use Rattle.std.proofs.lemmas.List.{take_all}
use Rattle.rows.specs.Places.{behind}
use Rattle.rows.specs.Splits.{CountsLiterals}
use Rattle.rows.proofs.LiteralCounting.{CountsLiterals-more}
use Rattle.rows.proofs.literal_counts.LiteralCounts.of.Goals as goal

pub loop-row-preserved : goal.loop-row-preserved
loop-row-preserved c =
    CountsLiterals-more c.args.rows.now c.loop-row.row-index c.row-item.result c.loop-row-test.true c.row-item.is c.args.inputs _ _ _ _
    (subst (λ x. length x.now.symbols ≡ c.args.inputs) (sym c.row-item.is) (c.requires c.loop-row.row-index c.row-item.result c.loop-row-test.true))
    c.loop-row.invariant c.add.ensures.zeros c.add.ensures.ones

pub returns : goal.returns
returns c = subst (λ l. CountsLiterals c.args.inputs c.loop-row.counts.zeros.items c.loop-row.counts.ones.items (behind l)) (take_all c.loop-row.row-index c.args.rows.now c.loop-row-test.false) c.loop-row.invariant
