use Rattle.std.proofs.Common.{◌≡◌, ◌∙◌, ◌+◌, [], length, sym, ap, subst, take, arith}
use Rattle.std.proofs.lemmas.List.{take_all, length-take}
use Rattle.covering.specs.Table.{items_of, RisesFrom}
use Rattle.covering.specs.Reduce.{Enters, TransposeSoFar, IsTranspose}
use Rattle.covering.proofs.TransposeSteps.{transpose_none, transpose_more, rising_at, row_at_items, length_items}
use Rattle.covering.proofs.Rows.{take_items}
use Rattle.covering.proofs.transpose.transpose.Goals as goal

pub loop-i-init : goal.loop-i-init
loop-i-init c = subst (TransposeSoFar c.args.columns 0 []) (sym c.in_ok-transpose.ensures) (transpose_none c.args.columns)

pub enter-requires : goal.enter-requires
enter-requires c =
    subst (RisesFrom 0) (row_at_items c.args.rows.now c.loop-i.i c.index-rows-i.result c.loop-i-test.true ∙ ap (λ v. v.items) (sym c.index-rows-i.is) ∙ sym c.deref.ensures.value) (rising_at (items_of c.args.rows.now) c.loop-i.i c.requires)

pub loop-i-preserved : goal.loop-i-preserved
loop-i-preserved c =
    let rows = take_items c.args.rows.now c.loop-i.i c.index-rows-i.result c.loop-i-test.true c.index-rows-i.is in
    let long : length (items_of (take c.loop-i.i c.args.rows.now)) ≡ c.loop-i.i = length_items (take c.loop-i.i c.args.rows.now) ∙ simp length-take (omega arith) in
    let entered = subst (λ row. Enters (items_of c.loop-i.transpose.items) row c.loop-i.i (items_of c.enter.new.columns.items)) c.deref.ensures.value c.in_ok-enter.ensures in
    subst (λ rs. TransposeSoFar c.args.columns (c.loop-i.i + 1) rs (items_of c.enter.new.columns.items)) (sym rows)
    (transpose_more c.args.columns c.loop-i.i (items_of (take c.loop-i.i c.args.rows.now)) (items_of c.loop-i.transpose.items) (items_of c.enter.new.columns.items) c.index-rows-i.result.items long c.loop-i.invariant entered)

pub returns-clause-transpose : goal.returns-clause-transpose
returns-clause-transpose c = subst (λ rs. IsTranspose c.args.columns (items_of rs) (items_of c.loop-i.transpose.items)) (take_all c.loop-i.i c.args.rows.now c.loop-i-test.false) c.loop-i.invariant.is

pub returns-clause-long : goal.returns-clause-long
returns-clause-long c = sym (length_items c.loop-i.transpose.items) ∙ c.loop-i.invariant.wide
