use Rattle.std.proofs.Common.{◌≡◌, ◌∙◌, length, sym, ap, subst}
use Rattle.std.specs.Prelude.{MatchBool}
use Rattle.covering.specs.Table.{Table, IsTable, items_of}
use Rattle.covering.specs.Search.{IsWeakStep}
use Rattle.covering.specs.Reduce.{IsTranspose}
use Rattle.covering.proofs.WeakDominance.{shrinks_lighter}
use Rattle.covering.proofs.table.Table.reduce_weakly_once.Goals as goal
use Rattle.covering.proofs.table.Table.reduce_weakly_once.Goals.{then-not-is_changed+in_ok-is_changed-2, else-not-is_changed}

pub returns-then-branch : goal.returns-then-branch
returns-then-branch c = shrinks_lighter c.args.choice c.args.self.now c.take_essential_columns.new.self c.in_ok-take_essential_columns.ensures.table (rw c.if-branch.true at c.in_ok-take_essential_columns.ensures.taken c.args.choice)

pub drop_columns_if_due-requires-clause-transpose : goal.drop_columns_if_due-requires-clause-transpose
drop_columns_if_due-requires-clause-transpose c =
    let same = rw c.if-not-is_changed.true at c.in_ok-is_changed.ensures c.args.choice in
    subst (λ (t : Table). IsTranspose t.columns t.rows (items_of c.deref-then-not-is_changed.result.now)) (sym same)
    (subst (λ ts. IsTranspose c.take_essential_columns.new.self.columns c.take_essential_columns.new.self.rows (items_of ts)) (sym c.deref-then-not-is_changed.ensures.value) c.in_ok-transpose.ensures.transpose)

pub drop_columns_if_due-requires-clause-long : goal.drop_columns_if_due-requires-clause-long
drop_columns_if_due-requires-clause-long c =
    let same = rw c.if-not-is_changed.true at c.in_ok-is_changed.ensures c.args.choice in
    ap length c.deref-then-not-is_changed.ensures.value ∙ c.in_ok-transpose.ensures.long ∙ ap (λ (t : Table). t.columns) (sym same)

pub returns : goal.returns
returns c =
    let t = c.args.self.now in
    let none = rw c.if-branch.false at c.in_ok-take_essential_columns.ensures.taken c.args.choice in
    elim c.if-not-is_changed.branch [
      | then-not-is_changed+in_ok-is_changed-2 w ↦
          let same = rw w.if-not-is_changed.true at c.in_ok-is_changed.ensures c.args.choice in
          let last = w.drop_columns_if_due.new.self in
          let is_changed = w.in_ok-is_changed-2.is_changed in
          subst (λ b. MatchBool b (IsWeakStep c.args.choice t c.if-not-is_changed.self) (c.if-not-is_changed.self ≡ t)) (sym w.is_changed-is)
          (subst (λ u. MatchBool is_changed (IsWeakStep c.args.choice t u) (u ≡ t)) (sym w.self-is)
          (subst (λ s. MatchBool is_changed (IsWeakStep c.args.choice s last) (last ≡ s)) (same ∙ none.0) w.in_ok-is_changed-2.ensures))
      | else-not-is_changed w ↦
          let left = c.drop_rows_if_due.new.self in
          let steps = rw w.if-not-is_changed.false at c.in_ok-is_changed.ensures c.args.choice in
          let step : IsWeakStep c.args.choice t left = subst (λ s. IsWeakStep c.args.choice s left) none.0 (shrinks_lighter c.args.choice c.take_essential_columns.new.self left (subst IsTable (sym none.0) c.in_ok-take_essential_columns.ensures.table) steps) in
          subst (λ b. MatchBool b (IsWeakStep c.args.choice t c.if-not-is_changed.self) (c.if-not-is_changed.self ≡ t)) (sym (w.is_changed-is ∙ w.if-not-is_changed.false))
          (subst (IsWeakStep c.args.choice t) (sym w.self-is) step)
    ]
