use Rattle.minimum.proofs.exact_minimum.exact_of_samples.Given as goal

abbrev pub ghost-exact_by_points : goal.ghost-exact_by_points
ghost-exact_by_points g a = g.sets

abbrev pub ghost-exact_by_primes : goal.ghost-exact_by_primes
ghost-exact_by_primes g a = g.sets
