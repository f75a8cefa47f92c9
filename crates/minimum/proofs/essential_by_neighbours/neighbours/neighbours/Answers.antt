use Rattle.std.proofs.Common.{◌∙◌, subst}
use Rattle.std.proofs.lemmas.List.{take_all}
use Rattle.minimum.specs.Neighbours.{AreNeighbours}
use Rattle.minimum.proofs.Neighbours.{neighbours_next}
use Rattle.minimum.proofs.essential_by_neighbours.neighbours.neighbours.Goals as goal

pub loop-row-preserved : goal.loop-row-preserved
loop-row-preserved c =
    neighbours_next c.args.prime.now c.as_slice-row-items.result.now c.loop-row.row-index c.row-item.result c.loop-row-test.true c.row-item.is c.loop-row.near.items c.add_neighbours.new.near.items c.loop-row.invariant c.in_ok-add_neighbours.ensures

pub returns : goal.returns
returns c =
    subst (λ l. AreNeighbours c.args.prime.now l c.loop-row.near.items)
    (take_all c.loop-row.row-index c.as_slice-row-items.result.now c.loop-row-test.false ∙ c.as_slice-row-items.ensures.value) c.loop-row.invariant
