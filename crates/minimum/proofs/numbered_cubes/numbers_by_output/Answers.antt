use Rattle.std.proofs.Common.{◌∙◌, ◌++◌, ◌∷◌, [], ap, sym, arith, length, map, filter}
use Rattle.std.specs.List.{range_with_len}
use Rattle.std.proofs.lemmas.List.{map-append}
use Rattle.std.proofs.lemmas.List.FromFn.{map-range_with_len_more}
use Rattle.cover.proofs.ContainmentLemmas.{All-range}
use Rattle.covering.specs.Table.{items_of}
use Rattle.minimum.specs.PrimeRows.{has_output, with_output}
use Rattle.minimum.proofs.numbered_cubes.numbers_by_output.Goals as goal

pub numbers_with_output-requires-clause-below : goal.numbers_with_output-requires-clause-below
numbers_with_output-requires-clause-below c =
    All-range (length c.args.list.now.cubes) c.deref.result.now (c.deref.ensures.value ∙ c.in_ok-all.ensures ∙ ap (range_with_len 0) c.len.ensures)

pub loop-j-preserved : goal.loop-j-preserved
loop-j-preserved c =
    let cubes = c.args.list.now.cubes in
    let j = c.loop-j.j in
    let new = c.in_ok-numbers_with_output.field-0 in
    let all = c.deref.ensures.value ∙ c.in_ok-all.ensures ∙ ap (range_with_len 0) c.len.ensures in
    ap (λ rows. items_of rows) c.in_ok-push.ensures.items
    ∙ map-append (λ row. row.items) c.loop-j.lists.items (new ∷ [])
    ∙ ap (λ l. l ++ new.items ∷ []) c.loop-j.invariant
    ∙ ap (λ l. map (with_output cubes) (range_with_len 0 j) ++ l ∷ []) (c.in_ok-numbers_with_output.ensures ∙ ap (filter (has_output cubes j)) all)
    ∙ sym (map-range_with_len_more (with_output cubes) 0 j j (omega arith))
