use Rattle.std.proofs.lemmas.List.Elements.{All-same, All-take}
use Rattle.std.proofs.Common.{take, subst, sym}
use Rattle.cube.specs.Cube.{IsCube}
use Rattle.rows.proofs.SumRows.{sizes}
use Rattle.sums.proofs.absorb.has_absorbed_by_earlier.Goals as goal

pub lies_in_some-requires : goal.lies_in_some-requires
lies_in_some-requires c =
    let row = c.index-rows-at.result in
    sizes c.requires.size row c.split_at.result.0.now (subst (IsCube c.requires.size) (sym c.index-rows-at.is) (c.requires.are_cubes c.loop-at.at row c.loop-at-test.true))
    (All-same (IsCube c.requires.size) c.split_at.result.0.now (take c.loop-at.at c.args.rows.now) c.split_at.ensures.front
    (All-take (IsCube c.requires.size) c.loop-at.at c.args.rows.now c.requires.are_cubes))
