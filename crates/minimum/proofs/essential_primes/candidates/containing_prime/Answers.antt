use Rattle.std.proofs.Common.{◌∙◌, ap, sym, arith, inl, inr}
use Rattle.std.proofs.lemmas.Bool.{cases_lt}
use Rattle.minimum.specs.PrimeRows.{contains_region}
use Rattle.minimum.proofs.essential_primes.candidates.containing_prime.Goals as goal

pub loop-number-preserved : goal.loop-number-preserved
loop-number-preserved c = (
  (let low = c.loop-number.invariant.0 in omega arith),
  λ n above below. elim (cases_lt n c.loop-number.number) [
    | inl low ↦ c.loop-number.invariant.1 n above low
    | inr high ↦ ap (contains_region c.args.primes.now c.args.cube.now) (omega arith) ∙ sym c.contains_region.ensures ∙ c.if-contains_region.false
  ],
)
