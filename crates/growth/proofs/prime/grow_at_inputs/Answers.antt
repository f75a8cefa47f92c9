use Rattle.std.proofs.Common.{◌≡◌, ◌<◌, ap, subst, arith}
use Rattle.growth.specs.Growth.{IsGrown, on_side}
use Rattle.growth.proofs.GrowthSteps.{grown_input}
use Rattle.growth.proofs.FirstPrimes.{freed_more}
use Rattle.growth.proofs.prime.grow_at_inputs.Goals as goal

pub loop-i-preserved : goal.loop-i-preserved
loop-i-preserved c =
    let rows = c.args.rows.now in
    record {
      grown = grown_input rows.size (on_side c.args.side rows.cubes) c.args.cube.now c.loop-i.growth.cube c.without_literal.new.growth.cube c.loop-i.i 0 c.loop-i.invariant.grown
          c.in_ok-without_literal.ensures.grows c.in_ok-without_literal.ensures.settled;
      freed = (
          let lt : c.loop-i.i < rows.size.inputs = omega (arith, c.loop-i-test.true, c.inputs-i-end.ensures.value, ap (λ z. z.inputs) c.shape.ensures.size) in
          freed_more rows.size (on_side c.args.side rows.cubes) c.args.cube.now c.loop-i.growth.cube c.without_literal.new.growth.cube c.loop-i.i c.requires c.loop-i.invariant.grown.settled.is_cube lt c.loop-i.invariant.freed
          c.in_ok-without_literal.ensures.freed c.in_ok-without_literal.ensures.settled);
      near = c.in_ok-without_literal.ensures.near;
    }

pub returns-clause-grown : goal.returns-clause-grown
returns-clause-grown c =
    let rows = c.args.rows.now in
    let all : c.loop-i.i ≡ rows.size.inputs = omega (arith, c.loop-i-test.false, c.loop-i.auto.i-end, c.inputs-i-end.ensures.value, ap (λ z. z.inputs) c.shape.ensures.size) in
    subst (λ n. IsGrown rows.size (on_side c.args.side rows.cubes) c.args.cube.now c.loop-i.growth.cube n 0) all c.loop-i.invariant.grown

pub returns-clause-first : goal.returns-clause-first
returns-clause-first c i lt =
    let rows = c.args.rows.now in
    let all : c.loop-i.i ≡ rows.size.inputs = omega (arith, c.loop-i-test.false, c.loop-i.auto.i-end, c.inputs-i-end.ensures.value, ap (λ z. z.inputs) c.shape.ensures.size) in
    c.loop-i.invariant.freed.first i (omega (arith, all, lt))
