use Rattle.std.proofs.Common.{length, sym, subst}
use Rattle.std.proofs.lemmas.Bool.{ltb-true}
use Rattle.regions.specs.Reason.{AreAmong}
use Rattle.rows.proofs.Lists.{behind_member}
use Rattle.regions.proofs.Reasons.{among_added}
use Rattle.regions.proofs.region.nearest_rows.push_rows_at_bits.Goals as goal
use Rattle.regions.proofs.region.nearest_rows.push_rows_at_bits.Goals.{in-Some+in_ok-push, in_default}

pub loop-preserved : goal.loop-preserved
loop-preserved c =
    let rows = c.args.rows.now in
    elim c.match-get.branch [
      | in-Some+in_ok-push w ↦
          let row = w.in-Some.row.now in
          let found = w.in-Some.ensures.lookup in
          let k = c.saturating_add-k.result in
          subst (λ v. AreAmong v.items rows) (sym w.some-is)
          (subst (λ l. AreAmong l rows) (sym w.in_ok-push.ensures.items)
          (among_added c.loop.some.items rows row c.loop.invariant
          (behind_member rows k row (ltb-true k (length rows) (sym found.0)) found.1)))
      | in_default w ↦ subst (λ v. AreAmong v.items rows) (sym w.some-is) c.loop.invariant
    ]
