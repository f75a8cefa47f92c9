use Rattle.minimum.proofs.exact_minimum.exact_by_primes.Given as goal

abbrev pub ghost-exact_by_points : goal.ghost-exact_by_points
ghost-exact_by_points g a = g.sets

abbrev pub ghost-exact_by_table : goal.ghost-exact_by_table
ghost-exact_by_table g a = g.sets
