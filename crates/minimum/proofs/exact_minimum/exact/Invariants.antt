use Rattle.minimum.specs.Points.{lists_of}
use Rattle.minimum.proofs.exact_minimum.exact.Given as goal

abbrev pub ghost-exact_outside : goal.ghost-exact_outside
ghost-exact_outside a = a.sets.now

abbrev pub ghost-exact_by_primes : goal.ghost-exact_by_primes
ghost-exact_by_primes a = lists_of a.on.now a.dc.now
