use Rattle.std.proofs.Common.{◌∙◌, ap, filter}
use Rattle.std.proofs.lemmas.List.{take_all}
use Rattle.cube.specs.Cube.{size_of}
use Rattle.rows.specs.Contained.{is_within}
use Rattle.rows.proofs.Chosen.{chosen, left_out}
use Rattle.sums.proofs.containing.rows_containing.Goals as goal
use Rattle.sums.proofs.containing.rows_containing.Goals.{then-contains+in_ok-push_copy, else-contains}

pub loop-cube-preserved : goal.loop-cube-preserved
loop-cube-preserved c =
    let test = is_within (size_of c.args.region.now) c.args.region.now in
    let cubes = c.args.cubes.now in
    let at = c.loop-cube.cube-index in
    let cube = c.cube-item.result in
    elim c.if-contains.branch [
      | then-contains+in_ok-push_copy w ↦
          ap (λ v. v.items) w.kept-is
          ∙ chosen test cubes at cube cube c.loop-cube-test.true c.cube-item.is c.loop-cube.kept.items c.loop-cube.invariant c.contains.result c.contains.ensures w.push_copy.new.rows.items w.if-contains.true
          w.in_ok-push_copy.ensures
      | else-contains w ↦ ap (λ v. v.items) w.kept-is ∙ left_out test cubes at cube cube c.loop-cube-test.true c.cube-item.is c.loop-cube.kept.items c.loop-cube.invariant c.contains.result c.contains.ensures w.if-contains.false
    ]

pub returns : goal.returns
returns c =
    c.loop-cube.invariant ∙ ap (filter (is_within (size_of c.args.region.now) c.args.region.now)) (take_all c.loop-cube.cube-index c.args.cubes.now c.loop-cube-test.false)
