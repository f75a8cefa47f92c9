use Rattle.std.proofs.Common.{◌≡◌, ◌<◌, ◌≤◌, ℕ, false}
use Rattle.minimum.specs.PrimeRows.{contains_region}
use Rattle.minimum.proofs.essential_primes.candidates.containing_prime.Given as goal

abbrev pub invariant-loop-number : goal.invariant-loop-number
invariant-loop-number l = (l.from ≤ l.number) × ((n : ℕ) → l.from ≤ n → n < l.number → contains_region l.primes l.cube n ≡ false)
