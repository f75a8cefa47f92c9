use Rattle.std.proofs.lemmas.Result.{IfOk-weaker}
use Rattle.rows.specs.Places.{places}
use Rattle.rows.specs.Complete.{cofactor_at}
use Rattle.sums.proofs.SumBranches.{IsBranch-absorbed}
use Rattle.sums.proofs.branch.absorbed_cofactor_at.Goals as goal

pub absorb_if_short-requires : goal.absorb_if_short-requires
absorb_if_short-requires c = (c.in_ok-branch.ensures c.args.shape c.requires.input c.requires.rows).are_cubes

pub returns : goal.returns
returns c =
    IfOk-weaker c.absorb_if_short.result _ _
    (λ kept h. IsBranch-absorbed c.args.shape c.args.i c.args.rows.now (cofactor_at c.args.i c.args.value (places c.args.rows.now)) c.in_ok-branch.branch.items kept.items
    (c.in_ok-branch.ensures c.args.shape c.requires.input c.requires.rows) h)
    c.absorb_if_short.ensures
