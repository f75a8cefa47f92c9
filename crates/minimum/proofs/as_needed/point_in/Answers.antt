use Rattle.std.proofs.Common.{◌∙◌, ap, length}
use Rattle.minimum.proofs.as_needed.point_in.Goals as goal

pub point_with-requires-clause-length : goal.point_with-requires-clause-length
point_with-requires-clause-length c =
    ap (λ l. length l) c.deref.ensures.value ∙ c.in_ok-symbols.ensures.length ∙ c.in_ok-narrow.ensures.size.0 ∙ ap (λ d. length d.symbols) c.in_ok-try_clone.ensures.value ∙ c.shape-shape.ensures.size.0
