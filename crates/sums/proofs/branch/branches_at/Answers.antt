use Rattle.std.proofs.Common.{◌∙◌, false, true}
use Rattle.std.proofs.lemmas.List.Elements.{All-same}
use Rattle.cube.specs.declared.symbol.Symbol.TheVariants.{Zero, One}
use Rattle.cube.specs.Cube.{IsCube}
use Rattle.rows.specs.Places.{places}
use Rattle.rows.specs.Complete.{consensus_at}
use Rattle.rows.specs.Parts.{part}
use Rattle.rows.proofs.SumParts.{AreCubes-part}
use Rattle.sums.proofs.SumBranches.{IsBranch-both_list, IsBranch-side, IsBranch-absorbed}
use Rattle.sums.proofs.branch.branches_at.Goals as goal

pub meets-requires-clause-rows : goal.meets-requires-clause-rows
meets-requires-clause-rows c =
    All-same (IsCube c.args.shape) c.deref.result.now (part c.args.i Zero c.args.rows.now) (c.deref.ensures.value ∙ c.in_ok-dashes.ensures.zeros)
    (AreCubes-part c.args.shape c.args.i Zero c.args.rows.now c.requires.rows)

pub meets-requires-clause-others : goal.meets-requires-clause-others
meets-requires-clause-others c =
    All-same (IsCube c.args.shape) c.deref-2.result.now (part c.args.i One c.args.rows.now) (c.deref-2.ensures.value ∙ c.in_ok-dashes.ensures.ones)
    (AreCubes-part c.args.shape c.args.i One c.args.rows.now c.requires.rows)

pub absorb_if_short-requires : goal.absorb_if_short-requires
absorb_if_short-requires c =
    (IsBranch-both_list c.args.shape c.args.i c.requires.input c.args.rows.now c.requires.rows c.deref-3.result.now c.deref.result.now c.deref-2.result.now
    c.in_ok-common.common.items c.in_ok-all.all.items (c.deref-3.ensures.value ∙ c.in_ok-dashes.ensures.dashes)
    (c.deref.ensures.value ∙ c.in_ok-dashes.ensures.zeros) (c.deref-2.ensures.value ∙ c.in_ok-dashes.ensures.ones)
    c.in_ok-common.ensures c.in_ok-all.ensures).are_cubes

pub returns-clause-both : goal.returns-clause-both
returns-clause-both c =
    let branch = IsBranch-both_list c.args.shape c.args.i c.requires.input c.args.rows.now c.requires.rows c.deref-3.result.now c.deref.result.now c.deref-2.result.now
    c.in_ok-common.common.items c.in_ok-all.all.items (c.deref-3.ensures.value ∙ c.in_ok-dashes.ensures.dashes)
    (c.deref.ensures.value ∙ c.in_ok-dashes.ensures.zeros) (c.deref-2.ensures.value ∙ c.in_ok-dashes.ensures.ones)
    c.in_ok-common.ensures c.in_ok-all.ensures in
    IsBranch-absorbed c.args.shape c.args.i c.args.rows.now (consensus_at c.args.i (places c.args.rows.now)) c.in_ok-all.all.items c.in_ok-both.both.items branch c.in_ok-both.ensures

pub returns-clause-low : goal.returns-clause-low
returns-clause-low c =
    IsBranch-side c.args.shape c.args.i c.requires.input c.args.rows.now c.requires.rows false c.in_ok-dashes.field-0.zeros.items c.deref-4.result.now c.in_ok-low.low.items
    c.in_ok-dashes.ensures.zeros (c.deref-4.ensures.value ∙ c.in_ok-dashes.ensures.dashes) c.in_ok-low.ensures

pub returns-clause-high : goal.returns-clause-high
returns-clause-high c =
    IsBranch-side c.args.shape c.args.i c.requires.input c.args.rows.now c.requires.rows true c.in_ok-dashes.field-0.ones.items c.in_ok-dashes.field-0.dashes.items c.in_ok-high.high.items
    c.in_ok-dashes.ensures.ones c.in_ok-dashes.ensures.dashes c.in_ok-high.ensures
