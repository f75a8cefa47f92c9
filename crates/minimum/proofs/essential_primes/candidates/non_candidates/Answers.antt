use Rattle.std.proofs.Common.{sym, subst, arith, All}
use Rattle.cube.specs.Cube.{SameSize}
use Rattle.cover.proofs.ContainmentLemmas.{cube_at-is}
use Rattle.minimum.specs.EssentialPrimes.{UnmarksCandidate}
use Rattle.minimum.proofs.NonCandidates.{non_candidates_next}
use Rattle.minimum.proofs.essential_primes.candidates.non_candidates.Goals as goal

pub unmark_candidate-requires : goal.unmark_candidate-requires
unmark_candidate-requires c = subst (λ x. All (λ d. SameSize d x) c.args.primes.now) (sym c.cube-item.is) (c.requires c.loop-cube.cube-index c.cube-item.result c.loop-cube-test.true)

pub loop-cube-preserved : goal.loop-cube-preserved
loop-cube-preserved c =
    non_candidates_next c.args.primes.now c.args.on.now c.loop-cube.cube-index c.loop-cube.non_candidates.items c.unmark_candidate.new.non_candidates.items c.loop-cube.invariant
    (subst (λ d. UnmarksCandidate c.args.primes.now d c.loop-cube.non_candidates.items c.unmark_candidate.new.non_candidates.items)
    (cube_at-is c.args.on.now c.loop-cube.cube-index c.cube-item.result c.loop-cube-test.true c.cube-item.is) c.unmark_candidate.ensures)

pub loop-cube-init : goal.loop-cube-init
loop-cube-init c k lt = absurd (omega (arith, lt))

pub returns : goal.returns
returns c k lt = let past = c.loop-cube-test.false in c.loop-cube.invariant k (omega (arith, lt, past))
