use Rattle.std.proofs.Common.{◌∙◌, arith}
use Rattle.std.proofs.lemmas.Result.{on_ok_weaker}
use Rattle.rows.specs.Marks.{is_symbol, is_over, symbol_at}
use Rattle.rows.proofs.ContainmentLemmas.{All-having, MarksPart-from_Marks, length-behind_first, split_asks}
use Rattle.cover.proofs.containment.+mark_absorbed.Goals as goal

pub mark_absorbed_at-mark_absorbed-requires : goal.mark_absorbed_at-mark_absorbed-requires
mark_absorbed_at-mark_absorbed-requires t c =
    let cubes = c.args.list.now.cubes in (
      omega arith,
      (
        c.requires.cubes,
        (
          c.requires.order,
          (
            All-having (λ k. is_symbol (symbol_at cubes c.args.at.0 k) c.args.at.1) cubes c.args.inner.now c.deref.result.now
                (c.deref.ensures.value ∙ c.in_ok-having.ensures) c.requires.inner,
            (
              All-having (λ k. is_over (symbol_at cubes c.args.at.0 k) c.args.at.1) cubes c.args.outer.now c.deref-2.result.now
                  (c.deref-2.ensures.value ∙ c.in_ok-containing.ensures) c.requires.outer,
              c.requires.marks,
            ),
          ),
        ),
      ),
    )

pub mark_absorbed_at-returns : goal.mark_absorbed_at-returns
mark_absorbed_at-returns t c =
    on_ok_weaker c.mark_absorbed.result
    (MarksPart-from_Marks c.args.list.now.size c.args.list.now.cubes
    c.requires.cubes c.args.at.0 c.args.at.1 c.args.inner.now c.args.outer.now c.deref.result.now c.deref-2.result.now
    c.args.marks.now c.mark_absorbed.new.marks c.requires.marks c.requires.outer (c.deref.ensures.value ∙ c.in_ok-having.ensures)
    (c.deref-2.ensures.value ∙ c.in_ok-containing.ensures))
    c.mark_absorbed.ensures

pub mark_absorbed-mark_absorbed_at-requires : goal.mark_absorbed-mark_absorbed_at-requires
mark_absorbed-mark_absorbed_at-requires t c =
    let some = c.in-len1-up.len_at_least in
    let less = length-behind_first c.args.order.now some in
    (omega (arith, less), split_asks _ _ c.args.order.now _ _ _ some c.requires.cubes c.requires.order c.requires.inner c.requires.outer c.requires.marks)

pub mark_absorbed-mark_absorbed_at-requires-2 : goal.mark_absorbed-mark_absorbed_at-requires-2
mark_absorbed-mark_absorbed_at-requires-2 t c =
    let some = c.in-len1-up.len_at_least in
    let less = length-behind_first c.args.order.now some in
    (omega (arith, less), split_asks _ _ c.args.order.now _ _ _ some c.requires.cubes c.requires.order c.requires.inner c.requires.outer (c.in_ok-mark_absorbed_at.ensures.len ∙ c.requires.marks))

pub mark_absorbed-mark_absorbed_at-requires-3 : goal.mark_absorbed-mark_absorbed_at-requires-3
mark_absorbed-mark_absorbed_at-requires-3 t c =
    let some = c.in-len1-up.len_at_least in
    let less = length-behind_first c.args.order.now some in
    (omega (arith, less), split_asks _ _ c.args.order.now _ _ _ some c.requires.cubes c.requires.order c.requires.inner c.requires.outer (c.in_ok-mark_absorbed_at-2.ensures.len ∙ c.in_ok-mark_absorbed_at.ensures.len ∙ c.requires.marks))
