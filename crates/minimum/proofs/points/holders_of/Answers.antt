use Rattle.std.proofs.Common.{◌≡◌, ◌∙◌, ℕ, ◌<◌, true, false, List, [], get_or, All, ap, sym, subst, length, map, filter, arith, Vec, Global}
use Rattle.std.specs.List.{range_with_len}
use Rattle.std.proofs.lemmas.List.{length-map, get_or-map}
use Rattle.std.proofs.lemmas.List.FromFn.{length-map-range_with_len}
use Rattle.std.proofs.lemmas.Option.{get_or_from_slice_get}
use Rattle.std.proofs.lemmas.Result.{IfOk-weaker}
use Rattle.cube.specs.Cube.{Cube}
use Rattle.cover.proofs.ContainmentLemmas.{All-range}
use Rattle.covering.specs.Table.{items_of}
use Rattle.minimum.specs.PrimeRows.{contains_region, with_output}
use Rattle.minimum.proofs.PickedPoints.{with_output_at, with_output_below, holders_with_output}
use Rattle.minimum.proofs.points.holders_of.Goals as goal

-- as many lists as outputs, and the list of an output
lists_long : (columns : List Cube) (n : ℕ) (lists : List (Vec ℕ Global)) → items_of lists ≡ map (with_output columns) (range_with_len 0 n) → length lists ≡ n
lists_long columns n lists e = sym (length-map lists (λ row. row.items)) ∙ ap length e ∙ length-map-range_with_len (with_output columns) 0 n

list_of : (columns : List Cube) (j n : ℕ) (lists : List (Vec ℕ Global)) (row : Vec ℕ Global) (lent : List ℕ) → j < length lists → items_of lists ≡ map (with_output columns) (range_with_len 0 n)
    → row ≡ get_or lists j row → lent ≡ row.items → lent ≡ with_output columns j
list_of columns j n lists row lent below e at value =
    value ∙ ap (λ r. r.items) at ∙ sym (get_or-map (λ r. r.items) lists j row [] below)
    ∙ with_output_at columns j n (items_of lists) (omega (arith, below, lists_long columns n lists e)) e

pub bounds-by_output-j : goal.bounds-by_output-j
bounds-by_output-j c =
    let columns = c.args.columns.now in
    let long = lists_long columns.cubes columns.size.outputs c.args.by_output.now c.requires.by_output in
    let lt = c.loop-j-test.true in
    let end = ap (λ z. z.outputs) c.shape.ensures.size in
    let value = c.outputs-j-end.ensures.value in
    omega (arith, long, lt, end, value)

pub numbers_containing-requires-clause-below : goal.numbers_containing-requires-clause-below
numbers_containing-requires-clause-below c =
    let columns = c.args.columns.now in
    let long = lists_long columns.cubes columns.size.outputs c.args.by_output.now c.requires.by_output in
    let lt = c.loop-j-test.true in
    let end = ap (λ z. z.outputs) c.shape.ensures.size in
    let value = c.outputs-j-end.ensures.value in
    let list = list_of columns.cubes c.loop-j.j columns.size.outputs c.args.by_output.now c.index-by_output-j.result c.deref.result.now (omega (arith, long, lt, end, value)) c.requires.by_output c.index-by_output-j.is c.deref.ensures.value in
    subst (λ l. All (λ k. k < length l) c.deref.result.now) (sym c.as_slice.ensures.value)
    (subst (All (λ k. k < length columns.cubes)) (sym list) (with_output_below columns.cubes c.loop-j.j))

pub returns-then-output : goal.returns-then-output
returns-then-output c =
    let columns = c.args.columns.now in
    let point = c.args.point.now in
    let long = lists_long columns.cubes columns.size.outputs c.args.by_output.now c.requires.by_output in
    let lt = c.loop-j-test.true in
    let end = ap (λ z. z.outputs) c.shape.ensures.size in
    let value = c.outputs-j-end.ensures.value in
    let list = list_of columns.cubes c.loop-j.j columns.size.outputs c.args.by_output.now c.index-by_output-j.result c.deref.result.now (omega (arith, long, lt, end, value)) c.requires.by_output c.index-by_output-j.is c.deref.ensures.value in
    IfOk-weaker c.numbers_containing.result _ _
    (λ v h. h ∙ ap (λ l. filter (contains_region l point) c.deref.result.now) c.as_slice.ensures.value ∙ ap (filter (contains_region columns.cubes point)) list
    ∙ holders_with_output columns.cubes point c.loop-j.j (get_or_from_slice_get point.outputs c.loop-j.j true false c.if-output.ensures))
    c.numbers_containing.ensures

pub numbers_containing-requires-2-clause-below : goal.numbers_containing-requires-2-clause-below
numbers_containing-requires-2-clause-below c =
    All-range (length c.as_slice-2.result.now) c.deref-2.result.now
    (c.deref-2.ensures.value ∙ c.in_ok-all.ensures ∙ ap (range_with_len 0) c.len.ensures ∙ ap (λ l. range_with_len 0 (length l)) (sym c.as_slice-2.ensures.value))
