use Rattle.std.proofs.Common.{ap, ◌∙◌}
use Rattle.std.proofs.lemmas.Result.{IfOk-weaker}
use Rattle.minimum.specs.Primes.{chosen, least_prime_cover}
use Rattle.minimum.proofs.BothLists.{cubes_of}
use Rattle.minimum.proofs.LeastPrimes.{least_is}
use Rattle.minimum.proofs.exact_minimum.exact_by_table.Goals as goal

pub returns : goal.returns
returns g c =
    let choice = c.args.choice in
    let primes = c.args.primes.now in
    let least = least_prime_cover choice g.sets in
    let is = least_is choice g.sets c.in_ok-table.table c.in_ok-least.least.items c.in_ok-table.ensures.columns c.in_ok-table.ensures.covers c.in_ok-least.ensures in
    IfOk-weaker c.cubes_at.result _ _
    (λ l h. h ∙ ap (λ s. cubes_of primes.size (chosen primes.cubes s)) (c.deref.ensures.value ∙ is)
    ∙ ap (λ z. cubes_of z (chosen primes.cubes least)) c.requires.1.0.sized
    ∙ ap (λ l. cubes_of c.args.on.now.size (chosen l least)) c.requires.1.1.primes)
    c.cubes_at.ensures
