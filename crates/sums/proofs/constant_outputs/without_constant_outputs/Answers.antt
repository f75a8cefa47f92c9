use Rattle.std.proofs.Common.{◌∙◌, ◌+◌, ◌++◌, ◌∷◌, [], ap, sym, subst, take}
use Rattle.std.proofs.lemmas.List.{take_all}
use Rattle.cube.specs.Cube.{IsCube}
use Rattle.sums.specs.Free.{IsRest}
use Rattle.rows.proofs.Lists.{all_members}
use Rattle.sums.proofs.SumFree.{IsRest-more, IsRest-same}
use Rattle.sums.proofs.constant_outputs.without_constant_outputs.Goals as goal
use Rattle.sums.proofs.constant_outputs.without_constant_outputs.Goals.{then-has_outputs_beyond+in_ok-without_outputs+in_ok-push, else-has_outputs_beyond}

pub loop-row-preserved : goal.loop-row-preserved
loop-row-preserved c = λ size cubes cube_free.
    let rows = c.args.rows.now in
    let constant = c.args.constant.now in
    let i = c.loop-row.row-index in
    let row = c.row-item.result in
    let rest = c.loop-row.rest.items in
    let cube : IsCube size row = all_members (IsCube size) rows cubes row (i, c.loop-row-test.true, sym c.row-item.is) in
    elim c.if-has_outputs_beyond.branch [
      | then-has_outputs_beyond+in_ok-without_outputs+in_ok-push w ↦
          subst (λ v. IsRest size (take (i + 1) rows) constant v.items) (sym w.rest-is)
          (IsRest-more size rows i row constant rest c.loop-row-test.true c.row-item.is cube cube_free (c.loop-row.invariant size cubes cube_free)
          (c.has_outputs_beyond.ensures.0 w.if-has_outputs_beyond.true) w.push.new.self.items
          (w.in_ok-push.ensures.items ∙ ap (λ d. rest ++ d ∷ []) w.in_ok-without_outputs.ensures.value))
      | else-has_outputs_beyond w ↦
          subst (λ v. IsRest size (take (i + 1) rows) constant v.items) (sym w.rest-is)
          (IsRest-same size rows i row constant rest c.loop-row-test.true c.row-item.is cube cube_free (c.loop-row.invariant size cubes cube_free)
          c.has_outputs_beyond.result c.has_outputs_beyond.ensures w.if-has_outputs_beyond.false)
    ]

pub returns : goal.returns
returns c = λ size cubes cube_free.
    subst (λ l. IsRest size l c.args.constant.now c.loop-row.rest.items) (take_all c.loop-row.row-index c.args.rows.now c.loop-row-test.false) (c.loop-row.invariant size cubes cube_free)
