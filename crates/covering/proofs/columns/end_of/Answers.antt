use Rattle.std.proofs.Common.{◌∙◌, ◌<◌, inl, inr, eqb, take, slice_index_or, sym, ap, subst, arith}
use Rattle.std.proofs.lemmas.Bool.{or_cases, eqb-true}
use Rattle.std.proofs.lemmas.List.{take_more, take_all}
use Rattle.covering.specs.Table.{has}
use Rattle.covering.proofs.TransposeSteps.{has_append}
use Rattle.covering.proofs.columns.end_of.Goals as goal
use Rattle.covering.proofs.columns.end_of.Goals.{then-past-end, else-past-end}

pub loop-number-preserved : goal.loop-number-preserved
loop-number-preserved c = λ n h.
    let numbers = c.args.numbers.now in
    let i = c.loop-number.number-index in
    let x = slice_index_or numbers i 0 in
    let cases = or_cases (has n (take i numbers)) (eqb n x) (sym (ap (has n) (take_more numbers i 0 c.loop-number-test.true) ∙ has_append n (take i numbers) x) ∙ h) in
    elim c.if-past-end.branch [
      | then-past-end w ↦ subst (λ e. n < e) (sym w.end-is) (elim cases [
        | inl e ↦ (let b = c.loop-number.invariant n e in let m = w.if-past-end.true in omega arith)
        | inr e ↦ (let same = eqb-true n x e in let p = c.checked_add.ensures in omega arith)
      ])
      | else-past-end w ↦ subst (λ e. n < e) (sym w.end-is) (elim cases [
        | inl e ↦ c.loop-number.invariant n e
        | inr e ↦ (let same = eqb-true n x e in let p = c.checked_add.ensures in let m = w.if-past-end.false in omega arith)
      ])
    ]

pub returns : goal.returns
returns c = λ n h. c.loop-number.invariant n (ap (has n) (take_all c.loop-number.number-index c.args.numbers.now c.loop-number-test.false) ∙ h)
