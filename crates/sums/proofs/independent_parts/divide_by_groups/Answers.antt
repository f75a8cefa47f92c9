use Rattle.std.proofs.Common.{◌+◌, sym, subst, take}
use Rattle.std.proofs.lemmas.List.{take_all}
use Rattle.sums.specs.Apart.{IsDivided}
use Rattle.sums.proofs.Dividing.{IsDivided-one, IsDivided-other}
use Rattle.sums.proofs.independent_parts.divide_by_groups.Goals as goal
use Rattle.sums.proofs.independent_parts.divide_by_groups.Goals.{then-is_in_group+in_ok-push_copy, else-is_in_group+then-is_in_group-2+in_ok-push_copy-2}

pub loop-row-preserved : goal.loop-row-preserved
loop-row-preserved c =
    let rows = c.args.rows.now in
    let i = c.loop-row.row-index in
    let one = c.loop-row.one.items in
    let other = c.loop-row.other.items in
    elim c.if-is_in_group.branch [
      | then-is_in_group+in_ok-push_copy w ↦
          subst (λ v. IsDivided c.args.groups.now (take (i + 1) rows) v.items c.if-is_in_group.other.items) (sym w.one-is)
          (subst (λ v. IsDivided c.args.groups.now (take (i + 1) rows) w.push_copy.new.rows.items v.items) (sym w.other-is)
          (IsDivided-one c.args.groups.now rows i c.row-item.result one other c.loop-row-test.true c.row-item.is c.loop-row.invariant
          w.push_copy.new.rows.items w.in_ok-push_copy.ensures (c.is_in_group.ensures w.if-is_in_group.true)))
      | else-is_in_group+then-is_in_group-2+in_ok-push_copy-2 w ↦
          subst (λ v. IsDivided c.args.groups.now (take (i + 1) rows) v.items c.if-is_in_group.other.items) (sym w.one-is)
          (subst (λ v. IsDivided c.args.groups.now (take (i + 1) rows) one v.items) (sym w.other-is)
          (IsDivided-other c.args.groups.now rows i c.row-item.result one other c.loop-row-test.true c.row-item.is c.loop-row.invariant
          w.push_copy-then-is_in_group-2.new.rows.items w.in_ok-push_copy-2.ensures
          (w.is_in_group-else-is_in_group.ensures w.if-is_in_group-2.true)))
    ]

pub returns : goal.returns
returns c =
    subst (λ l. IsDivided c.args.groups.now l c.loop-row.one.items c.loop-row.other.items) (take_all c.loop-row.row-index c.args.rows.now c.loop-row-test.false) c.loop-row.invariant
