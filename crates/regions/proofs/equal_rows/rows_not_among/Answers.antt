use Rattle.std.proofs.Common.{◌+◌, ◌++◌, ◌∷◌, [], take, sym, subst, arith}
use Rattle.std.proofs.lemmas.List.{take_all}
use Rattle.regions.specs.Reason.{AreAmong}
use Rattle.regions.proofs.EqualRows.{among_rest, among_taken, behind-second, rest_last}
use Rattle.rows.proofs.Lists.{behind_member}
use Rattle.regions.proofs.Reasons.{among_added, among_none}
use Rattle.regions.proofs.equal_rows.rows_not_among.Goals as goal
use Rattle.regions.proofs.equal_rows.rows_not_among.Goals.{then-not-has+in_ok-push, else-not-has}

pub loop-row-init : goal.loop-row-init
loop-row-init c = record {
  some = subst (λ l. AreAmong l c.args.rows.now) (sym c.new-rest.ensures.items) (among_none c.args.rows.now);
  all = among_none (c.new-rest.result.items ++ c.args.others.now);
}

pub loop-row-preserved : goal.loop-row-preserved
loop-row-preserved c =
    let rows = c.args.rows.now in
    let others = c.args.others.now in
    let before = c.loop-row.rest.items in
    let i = c.loop-row.row-index in
    let row = c.row-item.result in
    elim c.if-not-has.branch [
      | then-not-has+in_ok-push w ↦ record {
        some = subst (λ v. AreAmong v.items rows) (sym w.rest-is)
            (subst (λ l. AreAmong l rows) (sym w.in_ok-push.ensures.items)
            (among_added before rows row c.loop-row.invariant.some (behind_member rows i row c.loop-row-test.true c.row-item.is)));
        all = subst (λ v. AreAmong (take (i + 1) rows) (v.items ++ others)) (sym w.rest-is)
            (subst (λ l. AreAmong (take (i + 1) rows) (l ++ others)) (sym w.in_ok-push.ensures.items)
            (among_taken rows ((before ++ row ∷ []) ++ others) i row c.loop-row-test.true c.row-item.is
            (among_rest (take i rows) before others row c.loop-row.invariant.all) (rest_last before others row)));
      }
      | else-not-has w ↦ record {
        some = subst (λ v. AreAmong v.items rows) (sym w.rest-is) c.loop-row.invariant.some;
        all = subst (λ v. AreAmong (take (i + 1) rows) (v.items ++ others)) (sym w.rest-is)
            (among_taken rows (before ++ others) i row c.loop-row-test.true c.row-item.is c.loop-row.invariant.all
            (behind-second before others row.now (c.has.ensures w.if-not-has.false)));
      }
    ]

pub returns-clause-some : goal.returns-clause-some
returns-clause-some c = c.loop-row.invariant.some

pub returns-clause-all : goal.returns-clause-all
returns-clause-all c =
    subst (λ l. AreAmong l (c.loop-row.rest.items ++ c.args.others.now))
    (take_all c.loop-row.row-index c.args.rows.now (omega arith)) c.loop-row.invariant.all
