use Rattle.std.proofs.Common.{◌≡◌, true, subst, map}
use Rattle.std.specs.Prelude.{MatchOption, filter}
use Rattle.std.specs.List.{list_any}
use Rattle.covering.specs.Search.{is_blank, marked, keep_columns}
use Rattle.covering.proofs.Branches.{pruned_from}
use Rattle.covering.proofs.Reduced.{weakly_reduced_pruned}
use Rattle.covering.proofs.WeakDominance.{weakly_reduced_same}
use Rattle.covering.proofs.table.Table.drop_by_bound.Goals as goal

pub returns : goal.returns
returns c =
    let out = rw c.in-Some.is at c.in_ok-keep.ensures.marks in
    pruned_from c.args.choice (marked c.in-Some.keep.items) c.args.self c.args.cutoff.columns c.args.cutoff.cost c.in_ok-keep.ensures.table out c.keep_marked.result
    (subst (λ ks. MatchOption c.keep_marked.result (list_any is_blank (map (filter (marked ks)) c.args.self.rows) ≡ true) (λ u. u ≡ keep_columns (marked ks) c.args.self)) c.deref-2.ensures.value c.keep_marked.ensures)

pub returns-then-all_kept : goal.returns-then-all_kept
returns-then-all_kept c =
    weakly_reduced_pruned c.args.choice c.args.cutoff.columns c.args.cutoff.cost c.args.self c.args.self (weakly_reduced_same c.args.choice c.args.self)
