use Rattle.std.proofs.Common.{◌∙◌, ap, sym, subst}
use Rattle.std.proofs.lemmas.Result.{IfOk-weaker}
use Rattle.cube.specs.Cube.{IsCube}
use Rattle.cube.specs.Sum.{IsMaximal, complete_sum}
use Rattle.cover.specs.Places.{places}
use Rattle.minimum.specs.Primes.{care_on}
use Rattle.growth.specs.Growth.{AreNear}
use Rattle.minimum.specs.Neighbours.{has_own}
use Rattle.growth.proofs.GrowthSteps.{settled_maximal}
use Rattle.minimum.proofs.EssentialByNeighbours.{in_rows, adds_none_found, adds_prime}
use Rattle.minimum.proofs.essential_by_neighbours.add_essential.Goals as goal
use Rattle.minimum.proofs.essential_by_neighbours.add_essential.Goals.{In_ok-prime}

maximal : (c : In_ok-prime) → IsMaximal c.args.sets.now.size (places c.args.rows.now.cubes) c.in_ok-prime.field-0.cube
maximal c =
    let rows = c.args.rows.now in
    subst (λ n. IsMaximal n (places rows.cubes) c.in_ok-prime.field-0.cube) (ap (λ k. k.size) c.requires.rows)
    (settled_maximal rows.size (places rows.cubes) c.args.cube.now c.in_ok-prime.field-0.cube c.in_ok-prime.ensures.grown.settled
    (c.in_ok-prime.ensures.grown.within (in_rows c.args.sets.now rows.cubes (ap (λ k. k.cubes) c.requires.rows) c.args.cube.now c.requires.cube)))

pub returns-then-contain : goal.returns-then-contain
returns-then-contain c =
    let sets = c.args.sets.now in
    adds_none_found sets.size (places c.args.rows.now.cubes) (care_on sets) c.args.cube.now c.args.found.now (c.contain.ensures c.if-contain.true)

pub grow-requires : goal.grow-requires
grow-requires c = subst (λ n. IsCube n c.args.cube.now) (sym (ap (λ k. k.size) c.requires.rows)) c.requires.is_cube

pub is_essential-requires-clause-prime : goal.is_essential-requires-clause-prime
is_essential-requires-clause-prime c =
    subst (λ k. IsMaximal c.args.sets.now.size (places k.cubes) c.in_ok-prime.field-0.cube) c.requires.rows (maximal ((goal.at.is_essential-requires-clause-prime c).In_ok-prime))

pub is_essential-requires-clause-near : goal.is_essential-requires-clause-near
is_essential-requires-clause-near c =
    let m = c.in_ok-prime.field-0.cube in
    subst (λ k. AreNear m k c.rows_to_ask.result.now) c.requires.rows (subst (AreNear m c.args.rows.now) (sym c.rows_to_ask.ensures) c.in_ok-prime.ensures.near)

pub returns : goal.returns
returns c =
    let sets = c.args.sets.now in
    let prime = c.in_ok-prime.field-0.cube in
    let own = c.in_ok-is_essential.ensures ∙ ap (λ k. has_own sets.size (care_on sets) (complete_sum sets.size (places k.cubes)) prime) (sym c.requires.rows) in
    IfOk-weaker c.add.result _ _
    (λ _ adds. adds_prime sets.size (places c.args.rows.now.cubes) (care_on sets) c.args.cube.now c.args.found.now prime (maximal ((goal.at.returns c).In_ok-prime))
    c.in_ok-prime.ensures.grown.settled.over c.add.new.self c.in_ok-is_essential.is_essential own adds)
    c.add.ensures
