use Rattle.std.proofs.Common.{subst}
use Rattle.std.proofs.lemmas.Result.{IfOk-weaker}
use Rattle.std.proofs.lemmas.List.Elements.{All-same}
use Rattle.cube.specs.Cube.{IsCube}
use Rattle.rows.specs.Reduced.{IsAbsorbed}
use Rattle.rows.proofs.SumSorted.{AreCubes-same}
use Rattle.sums.proofs.SumAbsorb.{IsAbsorbed-sorted}
use Rattle.sums.proofs.absorb.absorb.Goals as goal

pub absorb_sorted-requires-clause-cubes : goal.absorb_sorted-requires-clause-cubes
absorb_sorted-requires-clause-cubes c =
    record {
      size = c.requires.size;
      are_cubes = All-same (IsCube c.requires.size) c.deref.result.now c.in_ok-rows.rows.items c.deref.ensures.value
          (AreCubes-same c.requires.size c.args.rows.items c.in_ok-rows.rows.items c.in_ok-rows.ensures.cubes c.requires.are_cubes);
    }

pub returns : goal.returns
returns c =
    IfOk-weaker c.absorb_sorted.result _ _ (λ kept h. IsAbsorbed-sorted c.args.rows.items c.in_ok-rows.rows.items kept.items c.in_ok-rows.ensures.cubes
    (subst (λ l. IsAbsorbed l kept.items) c.deref.ensures.value h)) c.absorb_sorted.ensures
