use Rattle.std.proofs.Common.{◌∙◌, ◌++◌, ◌∷◌, [], ap, arith}
use Rattle.std.proofs.lemmas.Option.{slice_get_within}
use Rattle.std.proofs.lemmas.Result.{IfOk-weaker}
use Rattle.std.proofs.lemmas.List.{map-append}
use Rattle.cube.specs.declared.symbol.Symbol.TheVariants.{Dash, Zero, One}
use Rattle.cover.proofs.Regions.{fewer_dashes, zero_literal, one_literal}
use Rattle.cube.specs.Cube.{holds}
use Rattle.covering.specs.Table.{items_of}
use Rattle.minimum.specs.PrimeRows.{HasRowsFor}
use Rattle.minimum.proofs.PrimeRows.{adds_nothing, adds_row, adds_halves, split_half, match_true, match_false}
use Rattle.minimum.proofs.prime_table.split_rows.Lists.+add_rows.Goals as goal

pub candidates-requires : goal.candidates-requires
candidates-requires t c = c.requires

pub needs_no_row-requires : goal.needs_no_row-requires
needs_no_row-requires t c = c.in_ok-candidates.ensures

pub returns-then-branch : goal.returns-then-branch
returns-then-branch t c =
    let lists = c.args.self.now in
    adds_nothing lists.primes.now lists.on.now lists.dc.now (holds c.args.region.now) (items_of c.args.known.now.rows.items)
    (match_true (HasRowsFor lists.primes.now lists.on.now lists.dc.now (holds c.args.region.now) (items_of c.args.known.now.rows.items)) _ c.in_ok-needs_no_row.field-0 c.if-branch.true c.in_ok-needs_no_row.ensures)

pub split-requires-clause-touched : goal.split-requires-clause-touched
split-requires-clause-touched t c = c.in_ok-candidates.ensures

pub split-requires-clause-open : goal.split-requires-clause-open
split-requires-clause-open t c = match_false _ _ c.in_ok-needs_no_row.field-0 c.if-branch.false c.in_ok-needs_no_row.ensures

pub returns-in_default : goal.returns-in_default
returns-in_default t c =
    let lists = c.args.self.now in
    let candidates = c.in_ok-candidates.candidates in
    let open' = match_false _ _ c.in_ok-needs_no_row.field-0 c.if-branch.false c.in_ok-needs_no_row.ensures in
    adds_row lists.primes.now lists.on.now lists.dc.now c.args.region.now candidates.primes.items candidates.on.items candidates.dc.items (items_of c.args.known.now.rows.items) (items_of c.push.new.self.rows.items)
    c.in_ok-candidates.ensures open'.some_on c.in_default.ensures (ap items_of c.in_ok-push.ensures ∙ map-append (λ row. row.items) c.args.known.now.rows.items (c.replace.result ∷ [])
    ∙ ap (λ row. items_of c.args.known.now.rows.items ++ row.items ∷ []) c.replace.ensures.value)

pub with_symbol-requires : goal.with_symbol-requires
with_symbol-requires t c = slice_get_within c.args.region.now.symbols c.in-Some.i Dash c.in-Some.ensures

pub add_rows-requires : goal.add_rows-requires
add_rows-requires t c =
    let lists = c.args.self.now in
    let candidates = c.in_ok-candidates.candidates in
    let less = fewer_dashes c.args.region.now c.in-Some.i Zero c.in_ok-low.low c.in-Some.ensures zero_literal c.in_ok-low.ensures.value in
    (omega arith, split_half lists.primes.now lists.on.now lists.dc.now c.args.region.now c.in_ok-low.low candidates.primes.items candidates.on.items candidates.dc.items c.in-Some.i Zero c.in_ok-candidates.ensures c.in-Some.ensures c.in_ok-low.ensures.value)

pub with_symbol-requires-2 : goal.with_symbol-requires-2
with_symbol-requires-2 t c = slice_get_within c.args.region.now.symbols c.in-Some.i Dash c.in-Some.ensures

pub add_rows-requires-2 : goal.add_rows-requires-2
add_rows-requires-2 t c =
    let lists = c.args.self.now in
    let candidates = c.in_ok-candidates.candidates in
    let less = fewer_dashes c.args.region.now c.in-Some.i One c.in_ok-high.high c.in-Some.ensures one_literal c.in_ok-high.ensures.value in
    (omega arith, split_half lists.primes.now lists.on.now lists.dc.now c.args.region.now c.in_ok-high.high candidates.primes.items candidates.on.items candidates.dc.items c.in-Some.i One c.in_ok-candidates.ensures c.in-Some.ensures c.in_ok-high.ensures.value)

pub returns : goal.returns
returns t c =
    let lists = c.args.self.now in
    IfOk-weaker c.add_rows-2.result _ _
    (λ _ two. adds_halves lists.primes.now lists.on.now lists.dc.now c.args.region.now c.in_ok-low.low c.in_ok-high.high c.in-Some.i (items_of c.args.known.now.rows.items) (items_of c.add_rows.new.known.rows.items)
    (items_of c.add_rows-2.new.known.rows.items) c.in-Some.ensures c.in_ok-low.ensures.value c.in_ok-high.ensures.value c.in_ok-add_rows.ensures two)
    c.add_rows-2.ensures
