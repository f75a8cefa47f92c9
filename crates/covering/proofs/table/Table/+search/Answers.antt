use Rattle.std.proofs.Common.{◌∙◌, ℕ, Option, Some, None, length, refl, true≢false, sym, ap, subst, arith, Vec, Global}
use Rattle.std.specs.Prelude.{option_map}
use Rattle.std.proofs.lemmas.Bool.{MatchBool-at_true, MatchBool-at_false}
use Rattle.covering.specs.Table.{Table}
use Rattle.covering.specs.Search.{IsAnswer, Answers}
use Rattle.covering.proofs.Branches.{answer_leaf, answer_taken, no_live, live_falls}
use Rattle.covering.proofs.table.Table.+search.Goals as goal

pub branch-returns-then-is_over_cutoff : goal.branch-returns-then-is_over_cutoff
branch-returns-then-is_over_cutoff t c = c.loop-alloc.invariant.leads None (MatchBool-at_true _ _ c.if-is_over_cutoff.true c.is_over_cutoff.ensures)

pub branch-returns-then-is_solved : goal.branch-returns-then-is_solved
branch-returns-then-is_solved t c =
    let fits = MatchBool-at_false _ _ c.if-is_over_cutoff.false c.is_over_cutoff.ensures in
    c.loop-alloc.invariant.leads (Some c.in_ok-copy_of.field-0.items)
    (answer_leaf c.args.choice c.loop-alloc.table c.args.cutoff.columns c.args.cutoff.cost _ c.if-is_solved.ensures.table (c.if-is_solved.ensures.solved.0 refl) (c.in_ok-copy_of.ensures ∙ c.taken_columns.ensures.value) fits.0 fits.1)

pub branch-returns-in_default : goal.branch-returns-in_default
branch-returns-in_default t c = absurd (true≢false (sym (c.if-is_solved.ensures.solved.1 (no_live c.loop-alloc.table c.in_ok-column.ensures.table (rw c.in_default.is at c.in_ok-column.ensures.live)))))

pub take_or_drop-search-requires : goal.take_or_drop-search-requires
take_or_drop-search-requires t c =
    let falls = live_falls c.args.self.now c.args.column c.requires.table c.requires.live in
    let same = ap (λ (g : Table). length g.live) c.in_ok-with.ensures.taken in
    (omega (arith, falls, same, c.decreases), tt)

pub take_or_drop-returns-in-Some : goal.take_or_drop-returns-in-Some
take_or_drop-returns-in-Some t c =
    let found = subst (λ (o : Option (Vec ℕ Global)). Answers c.args.choice c.in_ok-with.with c.args.cutoff.columns c.args.cutoff.cost (option_map (λ v. v.items) o)) c.in-Some.is c.in_ok-found.ensures in
    answer_taken c.args.choice c.args.self.now c.args.column c.args.cutoff.columns c.args.cutoff.cost _ c.requires.live
    (subst (λ g. IsAnswer c.args.choice g c.args.cutoff.columns c.args.cutoff.cost c.in-Some.cover.items) c.in_ok-with.ensures.taken found)
