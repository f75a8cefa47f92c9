use Rattle.covering.specs.Table.{items_of}
use Rattle.minimum.specs.PrimeRows.{RowsSoFar}
use Rattle.minimum.proofs.prime_table.rows_of.Given as goal

abbrev pub invariant-loop-j : goal.invariant-loop-j
invariant-loop-j l = RowsSoFar l.lists.primes.now l.lists.on.now l.lists.dc.now l.j (items_of l.known.rows.items)
