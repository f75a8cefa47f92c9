use Rattle.std.proofs.Common.{◌≡◌, ◌∙◌, true, eqb, sym, ap}
use Rattle.std.specs.List.{list_all}
use Rattle.covering.specs.Cover.{counted}
use Rattle.covering.proofs.Even.{even_least}
use Rattle.covering.proofs.table.Table.deciding_choice.Goals as goal

pub returns-then-all_cost : goal.returns-then-all_cost
returns-then-all_cost c s h =
    let t = c.args.self.now in
    let even : list_all (λ d. eqb (counted c.args.choice t.weights d) c.cost-same.result) t.live ≡ true =
    ap (list_all (λ d. eqb (counted c.args.choice t.weights d) c.cost-same.result)) (sym c.live_columns-2.ensures.value)
    ∙ ap (λ ws. list_all (λ d. eqb (counted c.args.choice ws d) c.cost-same.result) c.live_columns-2.result.now) (sym c.literals-2.ensures.value)
    ∙ sym c.all_cost.ensures ∙ c.if-all_cost.true in
    even_least c.args.choice t c.cost-same.result c.live_columns-2.ensures.table even s h
