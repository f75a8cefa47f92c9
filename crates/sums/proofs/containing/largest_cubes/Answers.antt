use Rattle.std.proofs.Common.{◌≡◌, ◌∙◌, ap, sym, Bool, filter, not}
use Rattle.std.proofs.lemmas.List.{take_all}
use Rattle.cube.specs.Cube.{Cube, IsCube}
use Rattle.sums.specs.Containing.{lies_in_larger}
use Rattle.rows.proofs.Chosen.{chosen, left_out}
use Rattle.rows.proofs.Lists.{all_members}
use Rattle.sums.proofs.OverRegion.{size_of-is}
use Rattle.rows.proofs.SumRows.{sizes}
use Rattle.sums.proofs.containing.largest_cubes.Goals as goal
use Rattle.sums.proofs.containing.largest_cubes.Goals.{then-not-lies_in_larger+in_ok-push_copy, else-not-lies_in_larger}

pub lies_in_larger-requires : goal.lies_in_larger-requires
lies_in_larger-requires c =
    let size = c.requires.size in
    let cube = c.cube-item.result in
    sizes size cube c.args.cubes.now (all_members (IsCube size) c.args.cubes.now c.requires.are_cubes cube (c.loop-cube.cube-index, c.loop-cube-test.true, sym c.cube-item.is)) c.requires.are_cubes

pub loop-cube-preserved : goal.loop-cube-preserved
loop-cube-preserved c = λ size are.
    let cubes = c.args.cubes.now in
    let at = c.loop-cube.cube-index in
    let cube = c.cube-item.result in
    let is = all_members (IsCube size) cubes are cube (at, c.loop-cube-test.true, sym c.cube-item.is) in
    let test : Cube → Bool = λ d. not (lies_in_larger size cubes d) in
    let says : not c.lies_in_larger.result ≡ test cube = ap not c.lies_in_larger.ensures ∙ ap (λ z. not (lies_in_larger z cubes cube)) (size_of-is cube size is.has_size) in
    elim c.if-not-lies_in_larger.branch [
      | then-not-lies_in_larger+in_ok-push_copy w ↦
          ap (λ v. v.items) w.kept-is
          ∙ chosen test cubes at cube cube c.loop-cube-test.true c.cube-item.is c.loop-cube.kept.items (c.loop-cube.invariant size are) (not c.lies_in_larger.result) says w.push_copy.new.rows.items
          (ap not w.if-not-lies_in_larger.true)
          w.in_ok-push_copy.ensures
      | else-not-lies_in_larger w ↦
          ap (λ v. v.items) w.kept-is
          ∙ left_out test cubes at cube cube c.loop-cube-test.true c.cube-item.is c.loop-cube.kept.items (c.loop-cube.invariant size are) (not c.lies_in_larger.result) says
          (ap not w.if-not-lies_in_larger.false)
    ]

pub returns : goal.returns
returns c = λ size are.
    let test : Cube → Bool = λ d. not (lies_in_larger size c.args.cubes.now d) in
    c.loop-cube.invariant size are ∙ ap (filter test) (take_all c.loop-cube.cube-index c.args.cubes.now c.loop-cube-test.false)
