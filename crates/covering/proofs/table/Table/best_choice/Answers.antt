use Rattle.std.proofs.Common.{◌∙◌, ◌<◌, ◌^◌, None, length, ap, subst, arith}
use Rattle.std.specs.List.{list_all}
use Rattle.std.proofs.lemmas.Result.{IfOk-weaker}
use Rattle.covering.specs.Table.{Table, IsTable}
use Rattle.covering.specs.Cover.{meets, counted}
use Rattle.covering.specs.Choices.{choices, best_of, best_choice}
use Rattle.covering.proofs.BestChoice.{best_items}
use Rattle.covering.proofs.table.Table.best_choice.Goals as goal

pub returns-clause-found : goal.returns-clause-found
returns-clause-found c =
    let rows = c.self.inside.rows.items in
    let literals = c.self.inside.literals.items in
    let live = c.self.inside.live.items in
    let same =
    ap (λ ws. best_of (counted c.args.choice ws) (λ s. list_all (λ row. meets s row.items) c.deref-3.result.now) None (choices c.args.size c.deref-2.result.now)) c.deref.ensures.value
    ∙ ap (λ ls. best_of (counted c.args.choice literals) (λ s. list_all (λ row. meets s row.items) c.deref-3.result.now) None (choices c.args.size ls)) c.deref-2.ensures.value
    ∙ ap (λ rs. best_of (counted c.args.choice literals) (λ s. list_all (λ row. meets s row.items) rs) None (choices c.args.size live)) c.deref-3.ensures.value
    ∙ best_items (counted c.args.choice literals) rows None (choices c.args.size live)
    ∙ ap (λ (t : Table). best_choice c.args.choice t c.args.size) c.self.view_is in
    IfOk-weaker c.best_choice.result _ _ (λ o h. h ∙ same) c.best_choice.ensures

pub returns-clause-table : goal.returns-clause-table
returns-clause-table c = subst IsTable c.self.view_is c.self.invariant

pub returns-clause-long : goal.returns-clause-long
returns-clause-long c =
    let below : length c.self.inside.live.items < 2 ^ 64 = omega (arith, c.self.inside.live.ok) in
    subst (λ (t : Table). length t.live < 2 ^ 64) c.self.view_is below
