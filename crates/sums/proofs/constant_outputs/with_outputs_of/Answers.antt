use Rattle.std.proofs.Common.{◌≡◌, ◌+◌, ◌&&◌, ◌||◌, IfSome, IfNone, IsTrue, List, Bool, false, get_or, take, sym, subst}
use Rattle.std.proofs.lemmas.List.{take_all}
use Rattle.cube.specs.Pattern.{matches}
use Rattle.cube.specs.Cube.{Place, SameSize, IsCube, holds}
use Rattle.sums.specs.Free.{AreWider}
use Rattle.rows.proofs.Lists.{all_members}
use Rattle.sums.proofs.SumFree.{AreWider-more, stack_IsCube, shares_point}
use Rattle.sums.proofs.constant_outputs.with_outputs_of.Goals as goal
use Rattle.sums.proofs.constant_outputs.with_outputs_of.Goals.{in-Some+in_ok-push, in_default}

pub loop-row-preserved : goal.loop-row-preserved
loop-row-preserved c = λ size cubes cube_free.
    let rows = c.args.rows.now in
    let constant = c.args.constant.now in
    let i = c.loop-row.row-index in
    let row = c.row-item.result in
    let cube : IsCube size row = all_members (IsCube size) rows cubes row (i, c.loop-row-test.true, sym c.row-item.is) in
    elim c.match-branch-3.branch [
      | in-Some+in_ok-push w ↦
          let both = w.in-Some.both in
          let same : SameSize both row = subst (λ o. IfSome o (λ m. SameSize m row)) w.in-Some.is c.in_ok-both.ensures.size in
          let is = subst (λ o. IfSome o (λ m. (p : Place) → holds m p ≡ ((matches row.symbols p.point && matches constant.symbols p.point) && (get_or row.outputs p.output false || get_or constant.outputs p.output false)))) w.in-Some.is c.in_ok-both.ensures.places in
          subst (λ v. AreWider size constant (take (i + 1) rows) v.items) (sym w.wide-is)
          (AreWider-more size rows i row constant c.loop-row.wide.items c.loop-row-test.true c.row-item.is cube cube_free c.requires.no_literal (c.loop-row.invariant size cubes cube_free) both (stack_IsCube size row constant both cube cube_free c.requires.no_literal same is) is w.push.new.self.items w.in_ok-push.ensures.items)
      | in_default w ↦
          absurd (shares_point size rows i row constant c.loop-row.wide.items c.loop-row-test.true c.row-item.is cube cube_free c.requires.no_literal
          (subst (λ o. IfNone o ((point : List Bool) → IsTrue (matches row.symbols point) → IsTrue (matches constant.symbols point) → ⊥)) w.in_default.is c.in_ok-both.ensures.none))
    ]

pub returns : goal.returns
returns c = λ size cubes cube_free.
    subst (λ l. AreWider size c.args.constant.now l c.loop-row.wide.items) (take_all c.loop-row.row-index c.args.rows.now c.loop-row-test.false) (c.loop-row.invariant size cubes cube_free)
