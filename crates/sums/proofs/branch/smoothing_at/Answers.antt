use Rattle.std.proofs.Common.{true, refl}
use Rattle.std.proofs.lemmas.Result.{IfOk-weaker}
use Rattle.rows.specs.Places.{places}
use Rattle.rows.specs.Complete.{smoothing_at}
use Rattle.sums.proofs.SumBranches.{IsBranch-absorbed}
use Rattle.sums.proofs.SumFreed.{IsBranch-either, freed-kept, freed-done}
use Rattle.sums.proofs.branch.smoothing_at.Goals as goal

pub loop-row-preserved : goal.loop-row-preserved
loop-row-preserved c =
    freed-kept c.args.i (λ s. true) c.args.rows.now c.loop-row.all.items c.loop-row.row-index c.row-item.result c.loop-row-test.true c.row-item.is c.loop-row.invariant
    c.push_freed.new.rows.items refl c.in_ok-push_freed.ensures

pub absorb_if_short-requires : goal.absorb_if_short-requires
absorb_if_short-requires c =
    (IsBranch-either c.args.shape c.args.i c.requires.input c.args.rows.now c.loop-row.all.items c.requires.rows
    (freed-done c.args.i (λ s. true) c.args.rows.now c.loop-row.all.items c.loop-row.row-index c.loop-row-test.false c.loop-row.invariant)).are_cubes

pub returns : goal.returns
returns c =
    let branch = IsBranch-either c.args.shape c.args.i c.requires.input c.args.rows.now c.loop-row.all.items c.requires.rows
    (freed-done c.args.i (λ s. true) c.args.rows.now c.loop-row.all.items c.loop-row.row-index c.loop-row-test.false c.loop-row.invariant) in
    IfOk-weaker c.absorb_if_short.result _ _ (λ kept h. IsBranch-absorbed c.args.shape c.args.i c.args.rows.now (smoothing_at c.args.i (places c.args.rows.now)) c.loop-row.all.items kept.items branch h) c.absorb_if_short.ensures
