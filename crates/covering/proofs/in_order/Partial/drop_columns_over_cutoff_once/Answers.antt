use Rattle.std.proofs.Common.{◌∙◌, ap, length}
use Rattle.std.specs.Prelude.{filter}
use Rattle.std.proofs.lemmas.List.{length-map}
use Rattle.covering.specs.Table.{Table}
use Rattle.covering.specs.Search.{marked}
use Rattle.covering.proofs.Partials.{some_left, partial_left, next_left}
use Rattle.covering.proofs.in_order.Partial.drop_columns_over_cutoff_once.Goals as goal

pub keep_columns_marked-requires : goal.keep_columns_marked-requires
keep_columns_marked-requires c =
    let out = rw c.in-Some.is at c.in_ok-keep.ensures.marks in
    rw c.deref.ensures.value
    (some_left c.args.choice (marked c.in-Some.keep.items) c.args.self.table c.args.cutoff.columns c.args.cutoff.cost c.args.self.witness.items c.in_ok-keep.ensures.table c.requires out)

pub returns-clause-partial : goal.returns-clause-partial
returns-clause-partial c =
    let out = rw c.in-Some.is at c.in_ok-keep.ensures.marks in
    let left = rw c.deref.ensures.value at c.keep_columns_marked.ensures in
    rw left.witness (partial_left c.args.choice (marked c.in-Some.keep.items) c.args.self.table c.args.cutoff.columns c.args.cutoff.cost c.args.self.witness.items c.in_ok-keep.ensures.table c.requires out c.keep_columns_marked.result.table left.table)

pub returns-clause-next : goal.returns-clause-next
returns-clause-next c =
    let out = rw c.in-Some.is at c.in_ok-keep.ensures.marks in
    let left = rw c.deref.ensures.value at c.keep_columns_marked.ensures in
    next_left c.args.choice (marked c.in-Some.keep.items) c.args.self.table c.args.cutoff.columns c.args.cutoff.cost c.args.self.witness.items c.in_ok-keep.ensures.table c.requires out c.keep_columns_marked.result.table left.table

pub returns-clause-rows : goal.returns-clause-rows
returns-clause-rows c =
    let left = rw c.deref.ensures.value at c.keep_columns_marked.ensures in
    ap (λ (t : Table). length t.rows) left.table ∙ length-map c.args.self.table.rows (filter (marked c.in-Some.keep.items))
