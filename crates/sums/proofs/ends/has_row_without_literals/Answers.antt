use Rattle.std.proofs.Common.{◌∙◌, All, ap, not, subst, arith}
use Rattle.std.proofs.lemmas.List.{take_all}
use Rattle.std.proofs.lemmas.List.Elements.{All-more}
use Rattle.cube.specs.Cube.{Cube}
use Rattle.sums.specs.Apart.{IsFree}
use Rattle.sums.proofs.SumEnds.{not_free}
use Rattle.sums.proofs.ends.has_row_without_literals.Goals as goal

pub loop-row-preserved : goal.loop-row-preserved
loop-row-preserved c =
    let P : Cube → Type 0 = λ d. IsFree d → ⊥ in
    All-more P c.args.rows.now c.loop-row.row-index c.row-item.result c.loop-row-test.true c.loop-row.invariant
    (subst P c.row-item.is (not_free c.row-item.result c.next_literal.result (c.is_none.ensures ∙ ap not c.if-is_none.false) c.next_literal.ensures.found))

pub returns-clause-none : goal.returns-clause-none
returns-clause-none c = λ _.
    let P : Cube → Type 0 = λ d. IsFree d → ⊥ in
    subst (All P) (take_all c.loop-row.row-index c.args.rows.now (omega arith)) c.loop-row.invariant
