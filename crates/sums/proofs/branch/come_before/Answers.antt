use Rattle.std.proofs.Common.{◌≡◌, ◌∙◌, ◌-◌, length, get_or, not, ap, sym, subst}
use Rattle.std.specs.declared.cmp.Ordering.TheVariants.{Less}
use Rattle.std.proofs.lemmas.Option.{get_or_from_slice_get}
use Rattle.cube.specs.Order.{row_cmp}
use Rattle.rows.proofs.SumOrder.{AreBefore-ends}
use Rattle.rows.proofs.SumSorted.{less_from}
use Rattle.sums.proofs.branch.come_before.Goals as goal

pub returns : goal.returns
returns c = λ less.
    let last = c.in-Some.last.now in
    let first = c.in-Some-first.first.now in
    AreBefore-ends c.args.rows.now c.args.others.now last first c.requires.rows c.requires.others
    (subst (λ x. row_cmp x (get_or c.args.others.now 0 first) ≡ Less) (sym (get_or_from_slice_get c.args.rows.now (length c.args.rows.now - 1) last last (sym c.in-Some.ensures.value)))
    (subst (λ y. row_cmp last y ≡ Less) (sym (get_or_from_slice_get c.args.others.now 0 first first (sym c.in-Some-first.ensures.value)))
    (sym c.row_cmp.ensures ∙ less_from c.row_cmp.result (ap not (sym less ∙ c.eq.ensures)))))
