use Rattle.std.proofs.Common.{Some, subst}
use Rattle.covering.specs.Search.{IsAnswer}
use Rattle.covering.proofs.table.Table.find_or_refute.Goals as goal

pub returns-in-Some-found : goal.returns-in-Some-found
returns-in-Some-found c =
    let n = rw c.in-Some-2.is at c.in_ok-table.ensures in
    let found = rw c.in-Some-found.is at c.in_ok-found-2.ensures in
    subst (λ t. IsAnswer c.args.choice t c.args.cutoff.columns c.args.cutoff.cost c.in-Some-found.cover.items) c.in_ok-copy.ensures.copy (n.leads (Some c.in-Some-found.cover.items) found)

pub returns-in-Some-found-2 : goal.returns-in-Some-found-2
returns-in-Some-found-2 c =
    let n = rw c.in-Some-2.is at c.in_ok-table.ensures in
    let found = rw c.in-Some-found-2.is at c.in_ok-found-3.ensures in
    subst (λ t. IsAnswer c.args.choice t c.args.cutoff.columns c.args.cutoff.cost c.in-Some-found-2.cover.items) c.in_ok-copy.ensures.copy (n.leads (Some c.in-Some-found-2.cover.items) found)
