use Rattle.std.proofs.Common.{ap, sym, subst, ◌∙◌}
use Rattle.std.proofs.lemmas.Result.{IfOk-weaker}
use Rattle.cube.specs.Cube.{IsCube, IsSubset, holds}
use Rattle.cube.specs.Sum.{IsMaximal}
use Rattle.cover.specs.Places.{places}
use Rattle.growth.specs.declared.prime.Side.TheVariants.{Outside}
use Rattle.growth.specs.Growth.{on_side, AreNear}
use Rattle.growth.proofs.GrowthSteps.{settled_maximal}
use Rattle.minimum.proofs.EssentialByNeighbours.{adds_none_found, adds_prime, sized_next}
use Rattle.minimum.proofs.Blocking.{own_answer}
use Rattle.minimum.proofs.Neighbours.{alone_to_all, alone_to_near}
use Rattle.minimum.proofs.essential_by_neighbours.sampled.add_essential.Goals as goal
use Rattle.minimum.proofs.essential_by_neighbours.sampled.add_essential.Goals.{In_ok-prime}

maximal : (c : In_ok-prime) → IsSubset (holds c.args.cube.now) (on_side Outside c.args.off.now.cubes) → IsMaximal c.args.on.now.size (on_side Outside c.args.off.now.cubes) c.in_ok-prime.field-0.cube
maximal c sub =
    let off = c.args.off.now in
    let s = on_side Outside off.cubes in
    subst (λ n. IsMaximal n s c.in_ok-prime.field-0.cube) c.requires.size (settled_maximal off.size s c.args.cube.now c.in_ok-prime.field-0.cube c.in_ok-prime.ensures.grown.settled (c.in_ok-prime.ensures.grown.within sub))

prime_cube : (c : In_ok-prime) → IsCube c.args.on.now.size c.in_ok-prime.field-0.cube
prime_cube c = subst (λ n. IsCube n c.in_ok-prime.field-0.cube) c.requires.size c.in_ok-prime.ensures.grown.settled.is_cube

pub returns-then-contain-clause-adds : goal.returns-then-contain-clause-adds
returns-then-contain-clause-adds c _ =
    let on = c.args.on.now in
    adds_none_found on.size (on_side Outside c.args.off.now.cubes) (places on.cubes) c.args.cube.now c.args.found.now (c.contain.ensures c.if-contain.true)

pub has_own_place-requires-clause-size : goal.has_own_place-requires-clause-size
has_own_place-requires-clause-size c = ap (λ k. k.size) c.rows_to_ask.ensures ∙ c.in_ok-prime.ensures.near.size ∙ c.requires.size

pub has_own_place-requires-clause-prime : goal.has_own_place-requires-clause-prime
has_own_place-requires-clause-prime c = prime_cube ((goal.at.has_own_place-requires-clause-prime c).In_ok-prime)

pub returns-clause-cubes : goal.returns-clause-cubes
returns-clause-cubes c =
    IfOk-weaker c.add.result _ _
    (λ _ adds. sized_next c.args.on.now.size c.args.found.now c.add.new.self c.in_ok-prime.field-0.cube c.in_ok-is_essential.is_essential c.requires.found
    (prime_cube ((goal.at.returns-clause-cubes c).In_ok-prime)) adds)
    c.add.ensures

pub returns-clause-adds : goal.returns-clause-adds
returns-clause-adds c =
    let on = c.args.on.now in
    let off = c.args.off.now in
    let s = on_side Outside off.cubes in
    let m = c.in_ok-prime.field-0.cube in
    let near = c.rows_to_ask.result.now in
    let are = subst (AreNear m off) (sym c.rows_to_ask.ensures) c.in_ok-prime.ensures.near in
    IfOk-weaker c.add.result _ _
    (λ _ adds sub.
    let prime = maximal ((goal.at.returns-clause-adds c).In_ok-prime) sub in
    adds_prime on.size s (places on.cubes) c.args.cube.now c.args.found.now m prime c.in_ok-prime.ensures.grown.settled.over c.add.new.self c.in_ok-is_essential.is_essential
    (own_answer on.size s (places on.cubes) m prime c.in_ok-is_essential.is_essential
    (λ e. let w = c.in_ok-is_essential.ensures.some e in (w.0, w.1, w.2, alone_to_all m off near are Outside w.0 w.1 w.3))
    (λ e p in_m want alone. c.in_ok-is_essential.ensures.none e p in_m want (alone_to_near m off near are Outside p in_m alone)))
    adds)
    c.add.ensures
