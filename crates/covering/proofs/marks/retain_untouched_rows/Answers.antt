use Rattle.std.proofs.Common.{rules, ap, ◌∙◌}
use Rattle.std.specs.List.{list_all}
use Rattle.std.proofs.lemmas.Fn.{filter_same}
use Rattle.covering.specs.Table.{items_of}
use Rattle.covering.specs.Search.{marked}
use Rattle.covering.proofs.Rows.{filter_items}
use Rattle.covering.proofs.marks.retain_untouched_rows.Goals as goal

pub returns : goal.returns
returns c =
    ap items_of (filter_same _ (λ v. list_all (marked c.args.keep.now) v.items) _ (λ x b f' k. search rules) _ _ c.retain.ensures.filtered)
    ∙ filter_items (list_all (marked c.args.keep.now)) c.args.rows.now.items
