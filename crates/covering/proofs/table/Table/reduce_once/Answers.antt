use Rattle.std.proofs.Common.{◌∙◌, length, sym, ap, subst}
use Rattle.std.proofs.lemmas.Result.{IfOk-weaker}
use Rattle.covering.specs.Table.{Table, items_of}
use Rattle.covering.specs.Reduce.{IsTranspose, Shrinks, HasNoDominatingRow}
use Rattle.covering.proofs.Reduced.{reduced_once_from}
use Rattle.covering.proofs.table.Table.reduce_once.Goals as goal

pub returns-then-branch : goal.returns-then-branch
returns-then-branch c = rw c.if-branch.true at c.in_ok-take_essential_columns.ensures.taken c.args.choice

pub returns-then-branch-2 : goal.returns-then-branch-2
returns-then-branch-2 c =
    let none = rw c.if-branch.false at c.in_ok-take_essential_columns.ensures.taken c.args.choice in
    subst (λ t. Shrinks c.args.choice t c.drop_dominating_rows.new.self) none.0 (rw c.if-branch-2.true at c.in_ok-drop_dominating_rows.ensures c.args.choice)

pub drop_dominated_columns-requires-clause-transpose : goal.drop_dominated_columns-requires-clause-transpose
drop_dominated_columns-requires-clause-transpose c =
    let same = rw c.if-branch-2.false at c.in_ok-drop_dominating_rows.ensures c.args.choice in
    subst (λ (t : Table). IsTranspose t.columns t.rows (items_of c.deref-2.result.now)) (sym same.0)
    (subst (λ ts. IsTranspose c.take_essential_columns.new.self.columns c.take_essential_columns.new.self.rows (items_of ts)) (sym c.deref-2.ensures.value) c.in_ok-transpose.ensures.transpose)

pub drop_dominated_columns-requires-clause-long : goal.drop_dominated_columns-requires-clause-long
drop_dominated_columns-requires-clause-long c =
    let same = rw c.if-branch-2.false at c.in_ok-drop_dominating_rows.ensures c.args.choice in
    ap length c.deref-2.ensures.value ∙ c.in_ok-transpose.ensures.long ∙ ap (λ (t : Table). t.columns) (sym same.0)

pub returns : goal.returns
returns c =
    let none = rw c.if-branch.false at c.in_ok-take_essential_columns.ensures.taken c.args.choice in
    let same = rw c.if-branch-2.false at c.in_ok-drop_dominating_rows.ensures c.args.choice in
    let rows = subst (λ (t : Table). HasNoDominatingRow t.rows) none.0 same.1 in
    IfOk-weaker c.drop_dominated_columns.result _ _ (λ b h. reduced_once_from c.args.choice c.args.self.now c.drop_dominating_rows.new.self c.drop_dominated_columns.new.self c.args.is_complete b (same.0 ∙ none.0) none.1 rows h) c.drop_dominated_columns.ensures
