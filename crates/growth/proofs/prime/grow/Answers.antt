use Rattle.std.proofs.Common.{◌≡◌, refl, ap, sym, subst, ◌∙◌, arith}
use Rattle.growth.specs.Growth.{AreNear, AreFirst, IsGrown, on_side}
use Rattle.growth.proofs.GrowthSteps.{grown_output, grows_none, grows_both}
use Rattle.growth.proofs.Reached.{reached_grown, reached_near}
use Rattle.growth.proofs.prime.grow.Goals as goal

pub outputs_at-requires : goal.outputs_at-requires
outputs_at-requires c =
    let size = c.in_ok-part.ensures.size in
    let long = c.in_ok-growth.ensures.grown.settled.is_cube.has_size in
    let same = ap (λ k. k.size) c.rows_to_ask.ensures ∙ c.in_ok-growth.ensures.near.size in
    (size.0 ∙ long.0 ∙ sym (ap (λ k. k.inputs) same), size.1 ∙ long.1 ∙ sym (ap (λ k. k.outputs) same))

pub loop-j-init : goal.loop-j-init
loop-j-init c =
    let rows = c.args.rows.now in
    record {
      grown = c.in_ok-growth.ensures.grown;
      near = c.in_ok-growth.ensures.near;
      symbols = refl;
      since = grows_none rows.size (on_side c.args.side rows.cubes) c.in_ok-growth.growth.cube c.in_ok-growth.ensures.grown.settled.is_cube;
    }

pub with_output-requires-clause-reached : goal.with_output-requires-clause-reached
with_output-requires-clause-reached c =
    let rows = c.args.rows.now in
    let first = c.in_ok-growth.growth.cube in
    let cube = c.in_ok-growth.ensures.grown.settled.is_cube in
    reached_grown rows.size (on_side c.args.side rows.cubes) first c.loop-j.growth.cube c.in_ok-reached.reached rows.cubes cube c.loop-j.invariant.since
    (reached_near rows.size first c.in_ok-part.part c.in_ok-reached.reached rows c.rows_to_ask.result.now cube (subst (AreNear first rows) (sym c.rows_to_ask.ensures) c.in_ok-growth.ensures.near) c.in_ok-part.ensures c.in_ok-reached.ensures)

pub loop-j-preserved : goal.loop-j-preserved
loop-j-preserved c =
    let rows = c.args.rows.now in
    let s = on_side c.args.side rows.cubes in
    record {
      grown = grown_output rows.size s c.args.cube.now c.loop-j.growth.cube c.with_output.new.growth.cube rows.size.inputs c.loop-j.j c.loop-j.invariant.grown
          c.in_ok-with_output.ensures.grows c.in_ok-with_output.ensures.settled;
      near = c.in_ok-with_output.ensures.near;
      symbols = c.in_ok-with_output.ensures.symbols ∙ c.loop-j.invariant.symbols;
      since = grows_both rows.size s c.in_ok-growth.growth.cube c.loop-j.growth.cube c.with_output.new.growth.cube c.loop-j.invariant.since c.in_ok-with_output.ensures.grows;
    }

pub with_output-requires-clause-is_cube : goal.with_output-requires-clause-is_cube
with_output-requires-clause-is_cube c = c.loop-j.invariant.grown.settled.is_cube

pub with_output-requires-clause-near : goal.with_output-requires-clause-near
with_output-requires-clause-near c = c.loop-j.invariant.near

pub returns-clause-grown : goal.returns-clause-grown
returns-clause-grown c =
    let rows = c.args.rows.now in
    let all : c.loop-j.j ≡ rows.size.outputs = omega (arith, c.loop-j-test.false, c.loop-j.auto.j-end, c.outputs-j-end.ensures.value, ap (λ z. z.outputs) c.shape.ensures.size) in
    subst (IsGrown rows.size (on_side c.args.side rows.cubes) c.args.cube.now c.loop-j.growth.cube rows.size.inputs) all c.loop-j.invariant.grown

pub returns-clause-first : goal.returns-clause-first
returns-clause-first c =
    let rows = c.args.rows.now in
    subst (λ z. AreFirst rows.size (on_side c.args.side rows.cubes) c.args.cube.now z) (sym c.loop-j.invariant.symbols) c.in_ok-growth.ensures.first
