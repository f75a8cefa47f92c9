use Rattle.std.proofs.Common.{arith}
use Rattle.std.proofs.lemmas.Option.{slice_get_within}
use Rattle.std.proofs.lemmas.Result.{IfOk-weaker}
use Rattle.cube.specs.declared.symbol.Symbol.TheVariants.{Dash, Zero, One}
use Rattle.cover.proofs.Regions.{fewer_dashes, zero_literal, one_literal}
use Rattle.covering.specs.Table.{items_of}
use Rattle.minimum.proofs.PrimeRows.{adds_halves, split_half}
use Rattle.minimum.proofs.prime_table.split_rows.Lists.+add_rows_by_halves.Goals as goal

pub candidates-requires : goal.candidates-requires
candidates-requires t c = c.requires

pub add_rows_by_cubes-requires : goal.add_rows_by_cubes-requires
add_rows_by_cubes-requires t c = c.in_ok-candidates.ensures.split

pub returns-in_default : goal.returns-in_default
returns-in_default t c = c.add_rows_by_cubes.ensures

pub with_symbol-requires : goal.with_symbol-requires
with_symbol-requires t c = slice_get_within c.args.region.now.symbols c.in-Some.i Dash c.in-Some.ensures

pub add_rows_by_halves-requires : goal.add_rows_by_halves-requires
add_rows_by_halves-requires t c =
    let lists = c.args.self.now in
    let candidates = c.in_ok-candidates.candidates in
    let less = fewer_dashes c.args.region.now c.in-Some.i Zero c.in_ok-low.low c.in-Some.ensures zero_literal c.in_ok-low.ensures.value in
    (omega arith, split_half lists.primes.now lists.on.now lists.dc.now c.args.region.now c.in_ok-low.low candidates.primes.items candidates.on.items candidates.dc.items c.in-Some.i Zero c.in_ok-candidates.ensures c.in-Some.ensures c.in_ok-low.ensures.value)

pub with_symbol-requires-2 : goal.with_symbol-requires-2
with_symbol-requires-2 t c = slice_get_within c.args.region.now.symbols c.in-Some.i Dash c.in-Some.ensures

pub add_rows_by_halves-requires-2 : goal.add_rows_by_halves-requires-2
add_rows_by_halves-requires-2 t c =
    let lists = c.args.self.now in
    let candidates = c.in_ok-candidates.candidates in
    let less = fewer_dashes c.args.region.now c.in-Some.i One c.in_ok-high.high c.in-Some.ensures one_literal c.in_ok-high.ensures.value in
    (omega arith, split_half lists.primes.now lists.on.now lists.dc.now c.args.region.now c.in_ok-high.high candidates.primes.items candidates.on.items candidates.dc.items c.in-Some.i One c.in_ok-candidates.ensures c.in-Some.ensures c.in_ok-high.ensures.value)

pub returns : goal.returns
returns t c =
    let lists = c.args.self.now in
    IfOk-weaker c.add_rows_by_halves-2.result _ _
    (λ _ two. adds_halves lists.primes.now lists.on.now lists.dc.now c.args.region.now c.in_ok-low.low c.in_ok-high.high c.in-Some.i (items_of c.args.known.now.rows.items) (items_of c.add_rows_by_halves.new.known.rows.items)
    (items_of c.add_rows_by_halves-2.new.known.rows.items) c.in-Some.ensures c.in_ok-low.ensures.value c.in_ok-high.ensures.value c.in_ok-add_rows_by_halves.ensures two)
    c.add_rows_by_halves-2.ensures
