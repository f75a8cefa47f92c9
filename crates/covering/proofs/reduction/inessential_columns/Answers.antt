use Rattle.std.proofs.Common.{◌≡◌, ◌∙◌, ◌∷◌, [], Bool, true, false, not, ◌&&◌, ◌||◌, take, refl, sym, ap, subst}
use Rattle.std.specs.List.{list_any}
use Rattle.std.proofs.lemmas.List.{take_all}
use Rattle.std.proofs.lemmas.List.Folds.{list_any-append}
use Rattle.covering.specs.Table.{items_of}
use Rattle.covering.specs.Search.{marked}
use Rattle.covering.specs.Reduce.{MarksInessentialColumns, is_essential_column}
use Rattle.covering.proofs.Rows.{take_items}
use Rattle.covering.proofs.reduction.inessential_columns.Goals as goal

neither : (a b : Bool) → (not a && not b) ≡ not (a || (b || false))
neither true b = refl
neither false true = refl
neither false false = refl

pub loop-row-preserved : goal.loop-row-preserved
loop-row-preserved c =
    let i = c.loop-row.row-index in
    let rows = items_of (take i c.args.rows.now) in
    let row = c.row-item.result.items in
    let more = take_items c.args.rows.now i c.row-item.result c.loop-row-test.true c.row-item.is in
    record {
      at = λ n h. c.unmark_essential_column.ensures.at n ∙ ap (λ xs. marked c.loop-row.keep.items n && not (is_essential_column n xs)) c.deref.ensures.value
          ∙ ap (λ b. b && not (is_essential_column n row)) (c.loop-row.invariant.at n h) ∙ neither (list_any (is_essential_column n) rows) (is_essential_column n row)
          ∙ ap not (sym (ap (list_any (is_essential_column n)) more ∙ list_any-append (is_essential_column n) rows (row ∷ [])));
      as_long = c.unmark_essential_column.ensures.as_long ∙ c.loop-row.invariant.as_long;
    }

pub returns : goal.returns
returns c = subst (λ rs. MarksInessentialColumns c.args.columns (items_of rs) c.loop-row.keep.items) (take_all c.loop-row.row-index c.args.rows.now c.loop-row-test.false) c.loop-row.invariant
