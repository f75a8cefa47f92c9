use Rattle.std.proofs.Common.{◌∙◌, ◌∷◌, ◌++◌, [], ap, sym, zero-add}
use Rattle.std.specs.List.{range_with_len}
use Rattle.rows.proofs.ContainmentLemmas.{range-more}
use Rattle.cover.proofs.containment.indices_below.Goals as goal

pub loop-k-preserved : goal.loop-k-preserved
loop-k-preserved c =
    c.in_ok-push.ensures.items ∙ ap (λ l. l ++ c.loop-k.k ∷ []) c.loop-k.invariant
    ∙ ap (λ n. range_with_len 0 c.loop-k.k ++ n ∷ []) (sym (zero-add c.loop-k.k)) ∙ sym (range-more 0 c.loop-k.k)
