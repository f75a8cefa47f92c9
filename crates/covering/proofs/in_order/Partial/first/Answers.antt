use Rattle.std.proofs.Common.{◌∙◌, refl, arith}
use Rattle.std.proofs.lemmas.Result.{IfOk-weaker}
use Rattle.covering.proofs.Partials.{next_self, next_join, partial_done, all_decided, first_next}
use Rattle.covering.proofs.in_order.Partial.first.Goals as goal

pub returns-then-is_solved : goal.returns-then-is_solved
returns-then-is_solved c = IfOk-weaker c.copy_of.result _ _
    (λ v h. partial_done c.args.choice c.args.self.table c.loop-column.partial.table v.items c.taken_columns.ensures.table c.loop-column.invariant.next (c.if-is_solved.ensures.solved.0 refl) (h ∙ c.taken_columns.ensures.value))
    c.copy_of.ensures

pub loop-column-preserved : goal.loop-column-preserved
loop-column-preserved c = record {
  partial = c.in_ok-partial-2.ensures.partial;
  next = next_join c.args.choice c.args.self.table c.in_ok-partial.partial.table c.in_ok-partial-2.partial.table
      (next_join c.args.choice c.args.self.table c.loop-column.partial.table c.in_ok-partial.partial.table c.loop-column.invariant.next c.in_ok-partial.ensures.next) c.in_ok-partial-2.ensures.next;
  first = λ d h. first_next c.loop-column.partial.table c.in_ok-partial.partial.table c.loop-column.column c.in_ok-partial.ensures.next.live c.loop-column.invariant.first c.in_ok-partial.ensures.gone d (c.in_ok-partial-2.ensures.next.live d h);
}

pub reduce-requires : goal.reduce-requires
reduce-requires c = c.in_ok-partial.ensures.partial

pub returns : goal.returns
returns c =
    let past = c.loop-column-test.false in
    let wide = c.columns-columns.ensures.count in
    let done = all_decided c.args.choice c.args.self.table c.loop-column.partial.table c.loop-column.column c.columns-columns.ensures.table c.taken_columns-2.ensures.table c.loop-column.invariant.next c.loop-column.invariant.first (omega arith) in
    IfOk-weaker c.copy_of-2.result _ _
    (λ v h. partial_done c.args.choice c.args.self.table c.loop-column.partial.table v.items c.taken_columns-2.ensures.table c.loop-column.invariant.next done (h ∙ c.taken_columns-2.ensures.value))
    c.copy_of-2.ensures

pub loop-column-init : goal.loop-column-init
loop-column-init c = record {
  partial = c.requires;
  next = next_self c.args.choice c.args.self.table;
  first = λ d h. omega arith;
}

pub decide_column-requires-clause-partial : goal.decide_column-requires-clause-partial
decide_column-requires-clause-partial c = c.loop-column.invariant.partial

pub decide_column-requires-clause-first : goal.decide_column-requires-clause-first
decide_column-requires-clause-first c = c.loop-column.invariant.first
