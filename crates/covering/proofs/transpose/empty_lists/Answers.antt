use Rattle.std.proofs.Common.{◌∙◌, ◌++◌, ◌∷◌, [], replicate, ap}
use Rattle.std.proofs.lemmas.List.{map-append}
use Rattle.covering.specs.Table.{items_of}
use Rattle.covering.proofs.TransposeSteps.{replicate_more}
use Rattle.covering.proofs.transpose.empty_lists.Goals as goal

pub loop-column-preserved : goal.loop-column-preserved
loop-column-preserved c =
    ap items_of c.in_ok-push.ensures.items ∙ map-append (λ v. v.items) c.loop-column.lists.items (c.in_ok-with_capacity.field-0 ∷ []) ∙ ap (λ xs. xs ++ c.in_ok-with_capacity.field-0.items ∷ []) c.loop-column.invariant
    ∙ ap (λ ys. replicate c.loop-column.column [] ++ ys ∷ []) c.in_ok-with_capacity.ensures.items ∙ replicate_more c.loop-column.column
