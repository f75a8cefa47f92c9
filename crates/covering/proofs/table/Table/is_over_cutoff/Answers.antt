use Rattle.std.proofs.Common.{◌∙◌, ◌≤◌, ◌<◌, ℕ, List, length, inl, ap, subst}
use Rattle.covering.specs.Cover.{counted, sum_over}
use Rattle.covering.proofs.Branches.{over_taken, over_sum}
use Rattle.covering.proofs.table.Table.is_over_cutoff.Goals as goal

pub returns : goal.returns
returns c =
    let fits : length c.args.self.now.taken ≤ c.args.cutoff.columns = subst (λ (ts : List ℕ). length ts ≤ c.args.cutoff.columns) c.taken_columns.ensures.value c.if-taken_columns-cutoff.false in
    let same = c.total_cost.ensures ∙ ap (λ ws. sum_over (counted c.args.choice ws) c.taken_columns-2.result.now) c.literals.ensures.value ∙ ap (sum_over (counted c.args.choice c.args.self.now.weights)) c.taken_columns-2.ensures.value in
    over_sum c.args.choice c.args.self.now c.args.cutoff.columns c.args.cutoff.cost c.total_cost.result c.taken_columns.ensures.table fits same

pub returns-then-taken_columns-cutoff : goal.returns-then-taken_columns-cutoff
returns-then-taken_columns-cutoff c =
    let over : c.args.cutoff.columns < length c.args.self.now.taken = subst (λ (ts : List ℕ). c.args.cutoff.columns < length ts) c.taken_columns.ensures.value c.if-taken_columns-cutoff.true in
    over_taken c.args.choice c.args.self.now c.args.cutoff.columns c.args.cutoff.cost c.taken_columns.ensures.table (inl over)
