use Rattle.cube.proofs.SumLemmas.{Contains-complete_sum, sorted-complete_sum, complete_sum-from_members}
use Rattle.cube.proofs.laws.complete_sum_is_maximal_cubes.Goals as goal

pub returns-clause-it_is : goal.returns-clause-it_is
returns-clause-it_is c size s = record { rising = sorted-complete_sum size s; members = Contains-complete_sum size s }

pub returns-clause-no_other : goal.returns-clause-no_other
returns-clause-no_other c size s cs h =
    complete_sum-from_members size s cs h.rising (λ d member. (h.members d).0 member) (λ d maximal. (h.members d).1 maximal)
