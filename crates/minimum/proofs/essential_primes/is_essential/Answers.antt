use Rattle.std.proofs.Common.{◌++◌, ap, sym, subst, ◌∙◌, filter}
use Rattle.cube.specs.Cube.{holds}
use Rattle.cube.specs.Sum.{is_subset}
use Rattle.cover.specs.Cubes.{Cubes, AreCubes}
use Rattle.cover.specs.Places.{places}
use Rattle.minimum.specs.EssentialPrimes.{intersects_cube, is_rival}
use Rattle.minimum.proofs.EssentialPrimes.{rest_are, essential_test}
use Rattle.minimum.proofs.essential_primes.is_essential.Goals as goal

pub from_cubes-requires : goal.from_cubes-requires
from_cubes-requires c =
    let sets = c.args.sets.now in
    let primes = c.args.primes.now in
    let prime = c.args.prime.now in
    let dc = c.as_slice-2.ensures.value ∙ ap (λ k. k.cubes) c.dc.ensures in
    let dc_are = subst (AreCubes sets.size) dc (subst (λ n. AreCubes n c.as_slice-2.result.now) (ap (λ k. k.size) c.dc.ensures) c.as_slice-2.ensures.cubes) in
    let primes_are = subst (λ n. AreCubes n primes.cubes) c.requires.size (subst (AreCubes primes.size) c.as_slice.ensures.value c.as_slice.ensures.cubes) in
    let all = c.in_ok-append.ensures.items ∙ ap (λ l. l ++ c.in_ok-dc.dc.items) (c.in_ok-rest.ensures ∙ ap (filter (is_rival prime)) c.as_slice.ensures.value)
    ∙ ap (λ l. filter (is_rival prime) primes.cubes ++ l) (c.in_ok-dc.ensures ∙ ap (filter (intersects_cube prime)) dc) in
    subst (AreCubes c.shape.result) (sym all) (subst (λ n. AreCubes n (filter (is_rival prime) primes.cubes ++ filter (intersects_cube prime) sets.dc)) (sym (c.shape.ensures.size ∙ c.requires.size))
    (rest_are sets primes.cubes prime c.requires.is_cube primes_are dc_are c.requires.within))

pub returns : goal.returns
returns c =
    let sets = c.args.sets.now in
    let primes = c.args.primes.now in
    let prime = c.args.prime.now in
    let dc = c.as_slice-2.ensures.value ∙ ap (λ k. k.cubes) c.dc.ensures in
    let dc_are = subst (AreCubes sets.size) dc (subst (λ n. AreCubes n c.as_slice-2.result.now) (ap (λ k. k.size) c.dc.ensures) c.as_slice-2.ensures.cubes) in
    let primes_are = subst (λ n. AreCubes n primes.cubes) c.requires.size (subst (AreCubes primes.size) c.as_slice.ensures.value c.as_slice.ensures.cubes) in
    let all = c.in_ok-append.ensures.items ∙ ap (λ l. l ++ c.in_ok-dc.dc.items) (c.in_ok-rest.ensures ∙ ap (filter (is_rival prime)) c.as_slice.ensures.value)
    ∙ ap (λ l. filter (is_rival prime) primes.cubes ++ l) (c.in_ok-dc.ensures ∙ ap (filter (intersects_cube prime)) dc) in
    essential_test sets primes.cubes prime c.requires.is_cube primes_are dc_are c.requires.within c.append.new.self.items c.in_ok-held.held all
    (c.in_ok-held.ensures ∙ ap (λ (k : Cubes). is_subset k.size (holds prime) (places k.cubes)) c.from_cubes.ensures
    ∙ ap (λ n. is_subset n (holds prime) (places c.append.new.self.items)) (c.shape.ensures.size ∙ c.requires.size))
