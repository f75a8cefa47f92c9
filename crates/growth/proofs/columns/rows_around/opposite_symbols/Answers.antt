use Rattle.std.proofs.Common.{◌≤◌, ◌++◌, ◌∷◌, ◌∙◌, [], ap, sym, map, take, length, arith}
use Rattle.std.proofs.lemmas.List.{take_more, take_all, map-append}
use Rattle.std.proofs.lemmas.Option.{get_or_from_slice_get, slice_get_within}
use Rattle.cube.specs.Sharp.{opposite}
use Rattle.growth.proofs.columns.rows_around.opposite_symbols.Goals as goal

pub loop-i-preserved : goal.loop-i-preserved
loop-i-preserved c =
    let all = c.args.cube.now.symbols in
    let i = c.loop-i.i in
    let own = c.symbol.result in
    c.in_ok-push.ensures.items ∙ ap (λ l. l ++ c.opposite.result ∷ []) c.loop-i.invariant ∙ ap (λ s. map opposite (take i all) ++ s ∷ []) c.opposite.ensures
    ∙ sym (map-append opposite (take i all) (own ∷ []))
    ∙ ap (map opposite) (ap (λ s. take i all ++ s ∷ []) (sym (get_or_from_slice_get all i own own c.symbol.ensures)) ∙ sym (take_more all i own (slice_get_within all i own c.symbol.ensures)))

pub returns : goal.returns
returns c =
    let all = c.args.cube.now.symbols in
    let end : length all ≤ c.loop-i.i = (let size = c.shape.ensures.size.0 in let last = c.inputs-i-end.ensures.value in let done = c.loop-i-test.false in omega (arith, size, last, done)) in
    c.loop-i.invariant ∙ ap (map opposite) (take_all c.loop-i.i all end)
