use Rattle.std.proofs.Common.{◌≡◌, ◌∙◌, ap, sym, subst, length, map}
use Rattle.std.specs.List.{range_with_len}
use Rattle.std.proofs.lemmas.List.{length-map}
use Rattle.cube.specs.Cube.{literals}
use Rattle.cover.specs.Cubes.{AreCubes}
use Rattle.covering.specs.Table.{fresh, items_of}
use Rattle.minimum.specs.Primes.{primes_of}
use Rattle.minimum.specs.PrimeRows.{AreRowsOf}
use Rattle.minimum.specs.Points.{lists_of}
use Rattle.minimum.specs.PrimeTable.{HasPrimeCovers}
use Rattle.minimum.proofs.PrimeSources.{enough_stand, on_stands, rows_stand}
use Rattle.minimum.proofs.PrimeTables.{are_rows, same_covers}
use Rattle.minimum.proofs.prime_table.table_of_primes.Goals as goal
use Rattle.minimum.proofs.prime_table.table_of_primes.Goals.{In_ok-table}

pub rows_of-requires-clause-enough : goal.rows_of-requires-clause-enough
rows_of-requires-clause-enough g c =
    let given = lists_of c.args.on.now c.args.dc.now in
    let given_on = subst (AreCubes given.size) c.as_slice-2.ensures.value c.as_slice-2.ensures.cubes in
    enough_stand g.sets given c.args.primes.now given_on c.requires.1.1 c.as_slice.result.now c.as_slice-2.result.now c.as_slice-3.result.now c.as_slice.ensures.value c.as_slice-2.ensures.value c.as_slice-3.ensures.value

-- rows of the primes of the sets, and a weight for each
made : (g : _) (c : In_ok-table g) → AreCubes g.sets.size g.sets.on × AreRowsOf (primes_of g.sets) g.sets.on g.sets.dc (items_of c.in_ok-rows.rows.items)
    × (length c.in_ok-weights.weights.items ≡ length (primes_of g.sets))
made g c =
    let given = lists_of c.args.on.now c.args.dc.now in
    let same = c.requires.1.1 in
    let primes = c.args.primes.now in
    let given_on = subst (AreCubes given.size) c.as_slice-2.ensures.value c.as_slice-2.ensures.cubes in (
      on_stands g.sets given primes given_on same,
      rows_stand g.sets given primes given_on same c.as_slice.result.now c.as_slice-2.result.now c.as_slice-3.result.now (items_of c.in_ok-rows.rows.items) c.as_slice.ensures.value c.as_slice-2.ensures.value c.as_slice-3.ensures.value c.in_ok-rows.ensures.rows,
      ap length c.in_ok-weights.ensures ∙ length-map primes.cubes literals ∙ ap length same.primes,
    )

pub unreachable-requires : goal.unreachable-requires
unreachable-requires g c =
    let m = made g ((goal.at.unreachable-requires g c).In_ok-table) in
    let none' = rw c.in-None.is at c.in_ok-table.ensures in
    none' (are_rows g.sets m.0 (items_of c.in_ok-rows.rows.items) (length c.in_ok-weights.weights.items) m.2 m.1.demands)

pub returns-clause-covers : goal.returns-clause-covers
returns-clause-covers g c =
    let m = made g ((goal.at.returns-clause-covers g c).In_ok-table) in
    let some = rw c.in-Some.is at c.in_ok-table.ensures in
    subst (HasPrimeCovers g.sets) (sym some.1) (same_covers g.sets m.0 (items_of c.in_ok-rows.rows.items) c.in_ok-weights.weights.items m.2 m.1)

pub returns-clause-columns : goal.returns-clause-columns
returns-clause-columns g c =
    let same = c.requires.1.1 in
    let some = rw c.in-Some.is at c.in_ok-table.ensures in
    let is = some.1 ∙ ap (fresh (items_of c.in_ok-rows.rows.items)) (c.in_ok-weights.ensures ∙ ap (map literals) same.primes) in
    let long = ap length (sym c.in_ok-weights.ensures) in
    let all = length-map c.args.primes.now.cubes literals ∙ ap length same.primes in
    let count = ap length (ap (map literals) (sym same.primes)) ∙ all in
    record {
      columns = ap (λ t. t.columns) is ∙ count;
      taken = ap (λ t. t.taken) is;
      live = ap (λ t. t.live) is ∙ ap (range_with_len 0) count;
      weights = ap (λ t. t.weights) is;
    }
