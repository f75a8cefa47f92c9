use Rattle.std.proofs.Common.{sym, ◌∙◌}
use Rattle.std.proofs.lemmas.Bool.{false≢true}
use Rattle.std.proofs.lemmas.Result.{IfOk-weaker}
use Rattle.minimum.proofs.Neighbours.{no_more_outputs, stacked_some}
use Rattle.minimum.proofs.essential_by_neighbours.neighbours.neighbour_by_outputs.Goals as goal

pub returns-then-not-has_outputs_beyond-clause-none : goal.returns-then-not-has_outputs_beyond-clause-none
returns-then-not-has_outputs_beyond-clause-none c p in_c _ =
    no_more_outputs c.args.prime.now c.args.row.now c.requires p in_c (λ more. false≢true (sym c.if-not-has_outputs_beyond.true ∙ c.has_outputs_beyond.ensures.1 more))

pub returns-clause-some : goal.returns-clause-some
returns-clause-some c =
    IfOk-weaker c.output_consensus.result _ _
    (λ found stacked p in_c. stacked_some c.args.prime.now c.args.row.now c.requires p in_c (c.has_outputs_beyond.ensures.0 c.if-not-has_outputs_beyond.false) found stacked)
    c.output_consensus.ensures.places
