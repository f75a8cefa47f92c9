use Rattle.std.proofs.Common.{◌∙◌, map, sym, ap, subst, arith}
use Rattle.std.proofs.lemmas.Result.{IfOk-weaker}
use Rattle.std.proofs.lemmas.Option.{IfSome_then}
use Rattle.covering.specs.Cover.{IsLeast}
use Rattle.covering.specs.Choices.{union_of}
use Rattle.covering.specs.Parts.{pick}
use Rattle.covering.proofs.Cutoffs.{least_best}
use Rattle.covering.proofs.table.Table.+parts.Goals as goal

pub least_renumbered-returns-in_ok-numbers-in-Some : goal.least_renumbered-returns-in_ok-numbers-in-Some
least_renumbered-returns-in_ok-numbers-in-Some t c =
    let g = c.args.self.now in
    let is = rw c.in-Some.is at c.in_ok-renumber.ensures in
    let least = is.least c.args.choice c.in_ok-numbers-in-Some.numbers.items c.in_ok-numbers-in-Some.ensures in
    IfOk-weaker c.cover_of_numbers.result _ _ (λ v h. subst (IsLeast c.args.choice g) (sym (h ∙ ap (λ ns. union_of g.taken (map (pick g.live) ns)) c.deref.ensures.value)) least) c.cover_of_numbers.ensures

pub least_of_parts-returns : goal.least_of_parts-returns
least_of_parts-returns t c =
    let g = c.args.self.now in
    let is = rw c.in-Some.is at c.in_ok-one.ensures in
    let least = is.least c.args.choice c.in_ok-first.first.items c.in_ok-second.second.items c.in_ok-first.ensures c.in_ok-second.ensures in
    subst (IsLeast c.args.choice g) (sym (c.in_ok-union_of.ensures ∙ ap (λ xs. union_of xs c.deref-2.result.now) c.deref.ensures.value ∙ ap (union_of c.in_ok-first.first.items) c.deref-2.ensures.value)) least

pub least_of_whole-least_of_parts-requires : goal.least_of_whole-least_of_parts-requires
least_of_whole-least_of_parts-requires t c = (omega (arith, c.in_ok-partial.ensures.rows, c.decreases), tt)

pub least_of_whole-returns-in-Some : goal.least_of_whole-returns-in-Some
least_of_whole-returns-in-Some t c =
    c.deciding_choice-deciding.ensures c.in-Some.least.items (c.in_ok-partial.ensures.next.least c.in-Some.least.items (rw c.in-Some.is at c.in_ok-least.ensures))

pub least_of_whole-returns : goal.least_of_whole-returns
least_of_whole-returns t c = c.deciding_choice-deciding.ensures c.in_ok-first.first.items (c.in_ok-partial.ensures.next.least c.in_ok-first.first.items c.in_ok-first.ensures)

pub shortest_by_parts-least_of_parts-requires : goal.shortest_by_parts-least_of_parts-requires
shortest_by_parts-least_of_parts-requires t c = (omega (arith, c.row_count-rows.ensures, c.row_count.ensures, c.if-rows-row_count.false, c.decreases), tt)

pub shortest_by_parts-returns : goal.shortest_by_parts-returns
shortest_by_parts-returns t c =
    IfOk-weaker c.least_of_parts.result _ _ (λ o h. IfSome_then o h (λ v least. least_best c.args.self.now c.in_ok-table.table v.items (rw c.in_ok-copy.ensures.copy at c.in_ok-table.ensures) least)) c.least_of_parts.ensures
