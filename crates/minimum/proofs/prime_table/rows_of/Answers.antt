use Rattle.std.proofs.Common.{arith, sym, subst}
use Rattle.covering.specs.Table.{items_of}
use Rattle.minimum.specs.PrimeRows.{AreRowsOf, RowsSoFar}
use Rattle.minimum.proofs.PrimeTables.{region_split, rows_none, rows_more, rows_all}
use Rattle.minimum.proofs.prime_table.rows_of.Goals as goal

pub loop-j-init : goal.loop-j-init
loop-j-init c =
    let lists = c.args.lists.now in
    subst (λ rows. RowsSoFar lists.primes.now lists.on.now lists.dc.now 0 (items_of rows)) (sym c.in_ok-known.ensures) (rows_none lists.primes.now lists.on.now lists.dc.now)

pub returns-clause-rows : goal.returns-clause-rows
returns-clause-rows c =
    let lists = c.args.lists.now in
    subst (λ rows. AreRowsOf lists.primes.now lists.on.now lists.dc.now (items_of rows.items)) (sym c.replace.ensures.value)
    (rows_all c.args.shape lists.primes.now lists.on.now lists.dc.now c.requires.primes c.requires.on c.requires.dc c.requires.enough c.loop-j.j (items_of c.loop-j.known.rows.items)
    (let l = c.loop-j-test.false in let n = c.outputs-j-end.ensures.value in omega arith) c.loop-j.invariant)

pub add_rows_by_halves-requires : goal.add_rows_by_halves-requires
add_rows_by_halves-requires c =
    let lists = c.args.lists.now in
    region_split c.args.shape lists.primes.now lists.on.now lists.dc.now c.requires.primes c.requires.on c.requires.dc c.requires.enough c.loop-j.j c.in_ok-region.region
    c.in_ok-numbers.field-0.items c.in_ok-numbers-2.field-0.items c.in_ok-numbers-3.field-0.items c.in_ok-region.ensures c.in_ok-numbers.ensures c.in_ok-numbers-2.ensures c.in_ok-numbers-3.ensures

pub loop-j-preserved : goal.loop-j-preserved
loop-j-preserved c =
    let lists = c.args.lists.now in
    rows_more c.args.shape lists.primes.now lists.on.now lists.dc.now c.requires.primes c.requires.on c.requires.dc c.requires.enough c.loop-j.j c.in_ok-region.region
    (items_of c.loop-j.known.rows.items) (items_of c.add_rows_by_halves.new.known.rows.items) (let l = c.loop-j-test.true in let n = c.outputs-j-end.ensures.value in omega arith) c.in_ok-region.ensures c.loop-j.invariant c.in_ok-add_rows_by_halves.ensures

pub cube_of_output-requires : goal.cube_of_output-requires
cube_of_output-requires c = let l = c.loop-j-test.true in let n = c.outputs-j-end.ensures.value in omega arith
