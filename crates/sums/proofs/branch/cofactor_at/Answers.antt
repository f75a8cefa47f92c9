use Rattle.std.proofs.Common.{◌≡◌, ◌∙◌, ◌+◌, ◌++◌, drop, sym, subst}
use Rattle.cube.specs.declared.symbol.Symbol.{Symbol}
use Rattle.cube.specs.Pattern.{agrees}
use Rattle.rows.specs.Parts.{freed}
use Rattle.sums.proofs.SumFreed.{IsBranch-value, freed-kept, freed-left_out, freed-done}
use Rattle.sums.proofs.branch.cofactor_at.Goals as goal
use Rattle.sums.proofs.branch.cofactor_at.Goals.{then-agrees_at+in_ok-push_freed, else-agrees_at}

pub loop-row-preserved : goal.loop-row-preserved
loop-row-preserved c =
    let i = c.args.i in
    let rows = c.args.rows.now in
    let k = c.loop-row.row-index in
    let test = λ (s : Symbol). agrees s c.args.value in
    elim c.if-agrees_at.branch [
      | then-agrees_at+in_ok-push_freed w ↦
          subst (λ v. v.items ++ freed i test (drop (k + 1) rows) ≡ freed i test rows) (sym w.branch'-is)
          (freed-kept i test rows c.loop-row.branch.items k c.row-item.result c.loop-row-test.true c.row-item.is c.loop-row.invariant
          w.push_freed.new.rows.items (sym c.agrees_at.ensures ∙ w.if-agrees_at.true) w.in_ok-push_freed.ensures)
      | else-agrees_at w ↦
          subst (λ v. v.items ++ freed i test (drop (k + 1) rows) ≡ freed i test rows) (sym w.branch'-is)
          (freed-left_out i test rows c.loop-row.branch.items k c.row-item.result c.loop-row-test.true c.row-item.is c.loop-row.invariant
          (sym c.agrees_at.ensures ∙ w.if-agrees_at.false))
    ]

pub returns : goal.returns
returns c = λ size lt cubes.
    IsBranch-value size c.args.i lt c.args.value c.args.rows.now c.loop-row.branch.items cubes
    (freed-done c.args.i (λ s. agrees s c.args.value) c.args.rows.now c.loop-row.branch.items c.loop-row.row-index c.loop-row-test.false c.loop-row.invariant)
