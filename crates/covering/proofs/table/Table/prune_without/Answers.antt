use Rattle.std.proofs.Common.{◌≡◌, subst}
use Rattle.std.specs.Prelude.{MatchOption}
use Rattle.covering.specs.Steps.{drop_column}
use Rattle.covering.specs.Search.{IsForced}
use Rattle.covering.proofs.Branches.{none_forced, dropped_pruned, dropped_fewer}
use Rattle.covering.proofs.table.Table.prune_without.Goals as goal

pub returns-in-None-clause-pruned : goal.returns-in-None-clause-pruned
returns-in-None-clause-pruned c =
    let forced = subst (λ o. MatchOption o (IsForced c.args.self.now c.args.column) (λ u. u ≡ drop_column c.args.column c.args.self.now)) c.in-None.is c.in_ok-drop_live.ensures in
    none_forced c.args.choice c.args.self.now c.args.column c.args.cutoff.columns c.args.cutoff.cost forced c.requires.none

pub returns-in_ok-prune-in-Some-2-clause-pruned : goal.returns-in_ok-prune-in-Some-2-clause-pruned
returns-in_ok-prune-in-Some-2-clause-pruned c =
    let is = subst (λ o. MatchOption o (IsForced c.args.self.now c.args.column) (λ u. u ≡ drop_column c.args.column c.args.self.now)) c.in-Some-2.is c.in_ok-drop_live.ensures in
    dropped_pruned c.args.choice c.args.self.now _ c.args.column c.args.cutoff.columns c.args.cutoff.cost c.in_ok-prune-in-Some-2.field-0 c.requires.table c.requires.live c.requires.none is c.in_ok-prune-in-Some-2.ensures

pub returns-in_ok-prune-in-Some-2-clause-fewer : goal.returns-in_ok-prune-in-Some-2-clause-fewer
returns-in_ok-prune-in-Some-2-clause-fewer c =
    let is = subst (λ o. MatchOption o (IsForced c.args.self.now c.args.column) (λ u. u ≡ drop_column c.args.column c.args.self.now)) c.in-Some-2.is c.in_ok-drop_live.ensures in
    dropped_fewer c.args.choice c.args.self.now _ c.args.column c.args.cutoff.columns c.args.cutoff.cost c.in_ok-prune-in-Some-2.field-0 c.requires.table c.requires.live is c.in_ok-prune-in-Some-2.ensures
