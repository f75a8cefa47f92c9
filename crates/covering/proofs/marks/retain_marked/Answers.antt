use Rattle.std.proofs.Common.{rules}
use Rattle.std.proofs.lemmas.Fn.{filter_same}
use Rattle.covering.specs.Search.{marked}
use Rattle.covering.proofs.marks.retain_marked.Goals as goal

pub returns : goal.returns
returns c = filter_same _ (marked c.args.keep.now) _ (λ x b f' k. search rules) _ _ c.retain.ensures.filtered
