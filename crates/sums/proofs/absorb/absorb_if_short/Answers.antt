use Rattle.std.proofs.Common.{subst}
use Rattle.std.proofs.lemmas.Result.{IfOk-weaker}
use Rattle.std.proofs.lemmas.List.Elements.{All-same}
use Rattle.cube.specs.Cube.{IsCube}
use Rattle.rows.specs.Reduced.{IsAbsorbed}
use Rattle.rows.proofs.SumSorted.{AreCubes-same}
use Rattle.sums.proofs.SumAbsorb.{IsAbsorbed-sorted}
use Rattle.sums.proofs.SumBranches.{IsPartlyAbsorbed-same, IsPartlyAbsorbed-absorbed}
use Rattle.sums.proofs.absorb.absorb_if_short.Goals as goal

pub returns-then-is_absorbed : goal.returns-then-is_absorbed
returns-then-is_absorbed c = IsPartlyAbsorbed-same c.args.rows.items c.args.rows.items (λ d. ((λ h. h), (λ h. h)))

pub returns-then-len-gt-MANY : goal.returns-then-len-gt-MANY
returns-then-len-gt-MANY c = IsPartlyAbsorbed-same c.args.rows.items c.in_ok-rows.rows.items c.in_ok-rows.ensures.cubes

pub returns-then-not-has_absorbed_by_earlier : goal.returns-then-not-has_absorbed_by_earlier
returns-then-not-has_absorbed_by_earlier c = IsPartlyAbsorbed-same c.args.rows.items c.in_ok-rows.rows.items c.in_ok-rows.ensures.cubes

pub has_absorbed_by_earlier-requires : goal.has_absorbed_by_earlier-requires
has_absorbed_by_earlier-requires c =
    record {
      size = c.args.shape;
      are_cubes = All-same (IsCube c.args.shape) c.deref-2.result.now c.in_ok-rows.rows.items c.deref-2.ensures.value
          (AreCubes-same c.args.shape c.args.rows.items c.in_ok-rows.rows.items c.in_ok-rows.ensures.cubes c.requires);
    }

pub absorb_sorted-requires-clause-cubes : goal.absorb_sorted-requires-clause-cubes
absorb_sorted-requires-clause-cubes c =
    record {
      size = c.args.shape;
      are_cubes = All-same (IsCube c.args.shape) c.deref-3.result.now c.in_ok-rows.rows.items c.deref-3.ensures.value
          (AreCubes-same c.args.shape c.args.rows.items c.in_ok-rows.rows.items c.in_ok-rows.ensures.cubes c.requires);
    }

pub returns : goal.returns
returns c =
    IfOk-weaker c.absorb_sorted.result _ _ (λ kept h. IsPartlyAbsorbed-absorbed c.args.rows.items kept.items (IsAbsorbed-sorted c.args.rows.items c.in_ok-rows.rows.items kept.items c.in_ok-rows.ensures.cubes
    (subst (λ l. IsAbsorbed l kept.items) c.deref-3.ensures.value h))) c.absorb_sorted.ensures
