use Rattle.minimum.specs.Points.{lists_of}
use Rattle.minimum.proofs.prime_table.TableOfPrimes.build.Given as goal

abbrev pub ghost-table_of_primes : goal.ghost-table_of_primes
ghost-table_of_primes a = lists_of a.on.now a.dc.now
