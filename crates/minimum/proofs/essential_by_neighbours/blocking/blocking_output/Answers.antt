use Rattle.std.proofs.Common.{ap, sym, subst, ◌∙◌, false}
use Rattle.std.proofs.lemmas.Option.{get_or_from_slice_get}
use Rattle.cube.specs.Cube.{size_of}
use Rattle.cover.specs.Cubes.{AreCubes}
use Rattle.cover.specs.Places.{places}
use Rattle.minimum.specs.Neighbours.{under, held_by}
use Rattle.minimum.proofs.Blocking.{leads_none, leads_more, leads_on, leads_all, stacked_row, other_output}
use Rattle.minimum.proofs.essential_by_neighbours.blocking.blocking_output.Goals as goal
use Rattle.minimum.proofs.essential_by_neighbours.blocking.blocking_output.Goals.{then-output+in_ok-output_consensus+in_ok-add_meeting, else-output}

pub loop-row-init : goal.loop-row-init
loop-row-init c = leads_none c.args.prime.now (under c.args.j) c.new-list.result.items c.new-list.ensures.items

pub loop-row-preserved : goal.loop-row-preserved
loop-row-preserved c =
    let rows = c.as_slice-row-items.result.now in
    let k = c.loop-row.row-index in
    let lt = c.loop-row-test.true in
    let row = c.row-item.result in
    let at = c.row-item.is in
    let prime = c.args.prime.now in
    let j = c.args.j in
    let old = c.loop-row.list.items in
    let new = c.if-output.list.items in
    let has = get_or_from_slice_get row.outputs j c.output.result false c.output.ensures in
    elim c.if-output.branch [
      | then-output+in_ok-output_consensus+in_ok-add_meeting w ↦ (
          let is = ap (λ z. z.items) w.list-is in
          let found = w.in_ok-output_consensus.field-0 in
          leads_more prime (under j) rows k row lt at old c.loop-row.invariant new (held_by found)
          (subst (AreCubes (size_of prime)) (sym is) (w.in_ok-add_meeting.ensures.size c.loop-row.invariant.cubes))
          (λ p in_c. stacked_row prime row j p in_c (has ∙ w.if-output.true) found w.in_ok-output_consensus.ensures.none w.in_ok-output_consensus.ensures.places)
          (λ p in_c. ap (λ l. places l p) is ∙ w.in_ok-add_meeting.ensures.places p in_c))
      | else-output w ↦
          leads_on prime (under j) rows k row lt at old c.loop-row.invariant new (λ p _. other_output row j p (has ∙ w.if-output.false)) (ap (λ z. z.items) w.list-is)
    ]

pub returns : goal.returns
returns c =
    leads_all c.args.off.now.size c.args.prime.now c.requires.prime (under c.args.j) c.as_slice-row-items.result.now c.loop-row.row-index c.loop-row.list.items c.loop-row-test.false
    c.loop-row.invariant c.args.off.now.cubes c.as_slice-row-items.ensures.value c.shape-shape.result c.shape-shape.ensures.size c.from_cubes.result c.from_cubes.ensures
