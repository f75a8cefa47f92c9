use Rattle.std.proofs.Common.{◌≡◌, ◌∙◌, ◌<◌, ◌+◌, ◌*◌, ◌-◌, ℕ, length, map, sym, ap, subst, arith, leb}
use Rattle.std.specs.List.{range_with_len}
use Rattle.std.proofs.lemmas.Bool.{both_ways, leb-false}
use Rattle.std.proofs.lemmas.List.FromFn.{length-map-range_with_len}
use Rattle.covering.specs.Table.{items_of}
use Rattle.covering.specs.Cover.{counted, sum_over}
use Rattle.covering.specs.Weights.{at}
use Rattle.covering.specs.Lagrange.{BoundsCovers}
use Rattle.covering.specs.Search.{marked}
use Rattle.covering.proofs.Lagrange.{none_within, outside, scaled_costs_at, marks_at}
use Rattle.covering.proofs.table.Table.columns_by_bound.Goals as goal
use Rattle.covering.proofs.table.Table.columns_by_bound.Goals.{In-Some}

pub returns-then-len-rows : goal.returns-then-len-rows
returns-then-len-rows c d l e = absurd (both_ways _ e (c.in_ok-all_columns_marked.ensures d l))

pub returns-in_default : goal.returns-in_default
returns-in_default c d l e = absurd (both_ways _ e (c.in_ok-all_columns_marked-2.ensures d l))

-- the share of a column
abbrev fair : In-Some → ℕ → ℕ
fair c d = c.args.multipliers.now.column + c.args.multipliers.now.cost * counted c.args.choice c.args.self.now.weights d

made : (c : In-Some) → c.in_ok-scaled_costs.scaled_costs.items ≡ map (fair c) (range_with_len 0 (length c.args.self.now.weights))
made c = c.in_ok-scaled_costs.ensures ∙ ap (λ ws. map (λ d. c.args.multipliers.now.column + c.args.multipliers.now.cost * counted c.args.choice ws d) (range_with_len 0 (length ws))) c.literals.ensures.value

long : (c : In-Some) → length c.in_ok-scaled_costs.scaled_costs.items ≡ c.args.self.now.columns
long c = ap length (made c) ∙ length-map-range_with_len (fair c) 0 (length c.args.self.now.weights) ∙ c.literals.ensures.table.weighed

each : (c : In-Some) (d : ℕ) → d < c.args.self.now.columns → at c.in_ok-scaled_costs.scaled_costs.items d ≡ fair c d
each c d l = ap (λ xs. at xs d) (made c) ∙ scaled_costs_at (fair c) (length c.args.self.now.weights) d (let e = c.literals.ensures.table.weighed in omega arith)

covers : (c : In-Some) → BoundsCovers c.args.self.now.rows c.in_ok-scaled_costs.scaled_costs.items c.in_ok-loads.loads.loads.items c.in_ok-loads.loads.total c.in_ok-loads.loads.over
covers c = subst (λ rows. BoundsCovers rows c.in_ok-scaled_costs.scaled_costs.items c.in_ok-loads.loads.loads.items c.in_ok-loads.loads.total c.in_ok-loads.loads.over) c.row_lists-rows.ensures.value
    (subst (λ scaled_costs. BoundsCovers (items_of c.row_lists-rows.result.now) scaled_costs c.in_ok-loads.loads.loads.items c.in_ok-loads.loads.total c.in_ok-loads.loads.over) c.deref.ensures.value c.in_ok-loads.ensures)

limit : (c : In-Some) → c.in-Some.limit ≡ c.args.multipliers.now.column * (c.args.cutoff.columns - length c.args.self.now.taken) + c.args.multipliers.now.cost * (c.args.cutoff.cost - sum_over (counted c.args.choice c.args.self.now.weights) c.args.self.now.taken) + c.in_ok-loads.loads.over
limit c =
    let k = c.args.cutoff.columns in
    let one = c.args.multipliers.now.column in
    let per = c.args.multipliers.now.cost in
    c.in-Some.ensures ∙ ap (λ n. one * n + per * c.remaining_cutoff-rest.result.cost + c.in_ok-loads.loads.over) c.remaining_cutoff-rest.ensures.columns ∙ ap (λ n. one * (k - length c.args.self.now.taken) + per * n + c.in_ok-loads.loads.over) c.remaining_cutoff-rest.ensures.cost

pub returns-then-loads-limit : goal.returns-then-loads-limit
returns-then-loads-limit c =
    let p = (goal.at.returns-then-loads-limit c).In-Some in
    none_within c.args.choice c.args.self.now c.args.cutoff.columns c.args.cutoff.cost c.args.multipliers.now.column c.args.multipliers.now.cost c.in_ok-scaled_costs.scaled_costs.items c.in_ok-loads.loads.loads.items c.in_ok-loads.loads.total c.in_ok-loads.loads.over
    c.literals.ensures.table (covers p) (long p) (each p) c.in-Some.limit (limit p) (let over = c.if-loads-limit.true in omega arith)

pub returns : goal.returns
returns c d l e =
    let p = (goal.at.returns c).In-Some in
    let scaled_costs = c.in_ok-scaled_costs.scaled_costs.items in
    let loads = c.in_ok-loads.loads.loads.items in
    let gap = c.in-Some.limit - c.in_ok-loads.loads.total in
    let within = c.literals.ensures.table.within d l in
    let same = long p in
    let marks = c.in_ok-columns_within_gap.ensures ∙ ap (λ xs. map (λ n. leb (at xs n - at c.deref-3.result.now n) gap) (range_with_len 0 (length xs))) c.deref-2.ensures.value ∙ ap (λ xs. map (λ n. leb (at scaled_costs n - at xs n) gap) (range_with_len 0 (length scaled_costs))) c.deref-3.ensures.value in
    let mark = ap (λ xs. marked xs d) marks ∙ marks_at (λ n. leb (at scaled_costs n - at loads n) gap) (length scaled_costs) d (omega arith) in
    let over : gap < at scaled_costs d - at loads d = leb-false (at scaled_costs d - at loads d) gap (sym mark ∙ e) in
    let under = c.if-loads-limit.false in
    outside c.args.choice c.args.self.now c.args.cutoff.columns c.args.cutoff.cost c.args.multipliers.now.column c.args.multipliers.now.cost scaled_costs loads c.in_ok-loads.loads.total c.in_ok-loads.loads.over
    c.literals.ensures.table (covers p) (long p) (each p) c.in-Some.limit (limit p) d l (omega arith)
