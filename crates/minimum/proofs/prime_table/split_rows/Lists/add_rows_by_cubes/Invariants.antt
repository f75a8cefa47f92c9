use Rattle.covering.specs.Table.{items_of}
use Rattle.minimum.specs.PrimeRows.{AddsRows}
use Rattle.minimum.proofs.RowsByCube.{among}
use Rattle.minimum.proofs.prime_table.split_rows.Lists.add_rows_by_cubes.Given as goal

abbrev pub invariant-loop-number : goal.invariant-loop-number
invariant-loop-number l = AddsRows l.self.primes.now l.self.on.now l.self.dc.now
    (among l.self.on.now l.region l.candidates.on.items l.number-index) (items_of l.initial.known.rows.items) (items_of l.known.rows.items)
