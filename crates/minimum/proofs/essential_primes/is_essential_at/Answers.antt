use Rattle.std.proofs.Common.{◌||◌, ap, sym, subst, ◌∙◌}
use Rattle.std.specs.List.{Contains}
use Rattle.cube.specs.Sum.{IsMaximal}
use Rattle.cube.proofs.SumLemmas.{Contains-complete_sum}
use Rattle.cover.specs.Places.{places}
use Rattle.minimum.specs.Primes.{primes_of, is_essential}
use Rattle.minimum.proofs.Numbers.{cube_at-member}
use Rattle.minimum.proofs.NonCandidates.{not_essential}
use Rattle.minimum.proofs.essential_primes.is_essential_at.Goals as goal
use Rattle.minimum.proofs.essential_primes.is_essential_at.Goals.{Else-is_marked}

pub returns-then-is_marked : goal.returns-then-is_marked
returns-then-is_marked c =
    let sets = c.args.sets.now in
    sym (ap (is_essential sets (primes_of sets)) c.requires.at
    ∙ not_essential sets c.requires.on c.args.number c.requires.below c.args.non_candidates.now c.requires.non_candidates (sym c.if-is_marked.ensures))

-- the prime is one of the largest cubes
maximal : (c : Else-is_marked) → IsMaximal c.args.sets.now.size (λ p. places c.args.sets.now.on p || places c.args.sets.now.dc p) c.args.prime.now
maximal c =
    let sets = c.args.sets.now in
    let member = subst (Contains (primes_of sets)) (sym c.requires.at) (cube_at-member (primes_of sets) c.args.number c.requires.below) in
    (Contains-complete_sum sets.size (λ p. places sets.on p || places sets.dc p) c.args.prime.now).0 member

pub is_essential-requires-clause-is_cube : goal.is_essential-requires-clause-is_cube
is_essential-requires-clause-is_cube c = (maximal c).is_cube

pub is_essential-requires-clause-within : goal.is_essential-requires-clause-within
is_essential-requires-clause-within c = (maximal c).within
