use Rattle.std.proofs.Common.{◌≡◌, subst}
use Rattle.covering.specs.Search.{marked, keep_columns}
use Rattle.covering.proofs.Branches.{within_kept}
use Rattle.covering.proofs.table.Table.find_in_support.Goals as goal

pub returns-in-Ok : goal.returns-in-Ok
returns-in-Ok c =
    let kept = subst (λ g. c.in-Some-keep_marked.table ≡ keep_columns (marked c.deref.result.now) g) c.in_ok-copy.ensures.copy c.in-Some-keep_marked.ensures in
    within_kept c.args.choice (marked c.deref.result.now) c.args.self.now c.in-Some-keep_marked.table c.args.cutoff c.in-Ok.cover kept c.in-Ok.ensures
