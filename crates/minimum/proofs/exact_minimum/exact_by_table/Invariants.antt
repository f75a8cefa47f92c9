use Rattle.minimum.proofs.exact_minimum.exact_by_table.Given as goal

abbrev pub ghost-table_of_primes : goal.ghost-table_of_primes
ghost-table_of_primes g a = g.sets
