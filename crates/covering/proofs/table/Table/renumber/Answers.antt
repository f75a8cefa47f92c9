use Rattle.std.proofs.Common.{◌≡◌, ◌∙◌, map, slice_index_or, sym, ap}
use Rattle.std.proofs.lemmas.Result.{IfOk-weaker}
use Rattle.covering.specs.Table.{items_of}
use Rattle.covering.specs.Parts.{pick}
use Rattle.covering.proofs.Renumbered.{renumbered}
use Rattle.covering.proofs.table.Table.renumber.Goals as goal

pub returns : goal.returns
returns c =
    let t = c.args.self.now in
    let live = c.live_columns-live.ensures.value in
    let rows : map (map (pick t.live)) (items_of c.in-Some.rows.items) ≡ t.rows =
    ap (λ ls. map (map (pick ls)) (items_of c.in-Some.rows.items)) (sym live) ∙ rw c.in-Some.is at c.in_ok-rows.ensures ∙ c.row_lists.ensures.value in
    let literals : c.in_ok-literals.literals.items ≡ map (λ d. slice_index_or t.weights d 0) t.live =
    c.in_ok-literals.ensures ∙ ap (λ ws. map (λ d. slice_index_or ws d 0) c.live_columns-live.result.now) c.literals.ensures.value ∙ ap (map (λ d. slice_index_or t.weights d 0)) live in
    IfOk-weaker c.new.result _ _ (λ o h. renumbered t c.live_columns-live.ensures.table (items_of c.in-Some.rows.items) c.in_ok-literals.literals.items rows literals o h) c.new.ensures
