use Rattle.std.proofs.Common.{◌≡◌, ◌∙◌, true, false, sym, subst}
use Rattle.std.proofs.lemmas.Result.{IfOk-weaker}
use Rattle.covering.specs.Table.{has}
use Rattle.covering.proofs.Partials.{next_self, next_join, gone_next}
use Rattle.covering.proofs.in_order.Partial.decide_column.Goals as goal

pub returns-then-not-contains-clause-partial : goal.returns-then-not-contains-clause-partial
returns-then-not-contains-clause-partial c = c.requires.partial

pub returns-then-not-contains-clause-next : goal.returns-then-not-contains-clause-next
returns-then-not-contains-clause-next c = next_self c.args.choice c.args.self.table

pub returns-then-not-contains-clause-gone : goal.returns-then-not-contains-clause-gone
returns-then-not-contains-clause-gone c = subst (λ xs. has c.args.column xs ≡ false) c.live_columns.ensures.value (sym c.contains.ensures ∙ c.if-not-contains.true)

pub ask_for_many-requires : goal.ask_for_many-requires
ask_for_many-requires c = c.requires.partial

pub drop_columns_over_cutoff-requires : goal.drop_columns_over_cutoff-requires
drop_columns_over_cutoff-requires c = c.in_ok-partial.ensures.partial

pub returns-then-not-contains-2-clause-partial : goal.returns-then-not-contains-2-clause-partial
returns-then-not-contains-2-clause-partial c = c.drop_columns_over_cutoff.ensures.partial

pub returns-then-not-contains-2-clause-gone : goal.returns-then-not-contains-2-clause-gone
returns-then-not-contains-2-clause-gone c =
    let gone = subst (λ xs. has c.args.column xs ≡ false) c.live_columns-2.ensures.value (sym c.contains-2.ensures ∙ c.if-not-contains-2.true) in
    IfOk-weaker c.drop_columns_over_cutoff.result _ _ (λ s h. gone_next c.args.choice c.in_ok-partial.partial.table s.table c.args.column h gone) c.drop_columns_over_cutoff.ensures.next

pub ask_for_one-requires-clause-partial : goal.ask_for_one-requires-clause-partial
ask_for_one-requires-clause-partial c = c.in_ok-partial.ensures.partial

pub ask_for_one-requires-clause-live : goal.ask_for_one-requires-clause-live
ask_for_one-requires-clause-live c = subst (λ xs. has c.args.column xs ≡ true) c.live_columns-2.ensures.value (sym c.contains-2.ensures ∙ c.if-not-contains-2.false)

pub ask_for_one-requires-clause-first : goal.ask_for_one-requires-clause-first
ask_for_one-requires-clause-first c = λ d h. c.requires.first d (c.in_ok-partial.ensures.next.live d h)

pub ask_for_one-requires-2-clause-partial : goal.ask_for_one-requires-2-clause-partial
ask_for_one-requires-2-clause-partial c = c.in_ok-partial.ensures.partial

pub ask_for_one-requires-2-clause-live : goal.ask_for_one-requires-2-clause-live
ask_for_one-requires-2-clause-live c = subst (λ xs. has c.args.column xs ≡ true) c.live_columns-2.ensures.value (sym c.contains-2.ensures ∙ c.if-not-contains-2.false)

pub ask_for_one-requires-2-clause-first : goal.ask_for_one-requires-2-clause-first
ask_for_one-requires-2-clause-first c = λ d h. c.requires.first d (c.in_ok-partial.ensures.next.live d h)

pub returns-then-contains-clause-partial : goal.returns-then-contains-clause-partial
returns-then-contains-clause-partial c = c.ask_for_one.ensures.partial

pub returns-then-contains-clause-gone : goal.returns-then-contains-clause-gone
returns-then-contains-clause-gone c = c.ask_for_one.ensures.gone

pub drop_columns_over_cutoff-requires-2 : goal.drop_columns_over_cutoff-requires-2
drop_columns_over_cutoff-requires-2 c = c.in_ok-partial-2.ensures.partial

pub returns-clause-partial : goal.returns-clause-partial
returns-clause-partial c = c.drop_columns_over_cutoff-2.ensures.partial

pub returns-then-not-contains-2-clause-next : goal.returns-then-not-contains-2-clause-next
returns-then-not-contains-2-clause-next c = IfOk-weaker c.drop_columns_over_cutoff.result _ _ (λ s h. next_join c.args.choice c.args.self.table c.in_ok-partial.partial.table s.table c.in_ok-partial.ensures.next h) c.drop_columns_over_cutoff.ensures.next

pub returns-clause-next : goal.returns-clause-next
returns-clause-next c = IfOk-weaker c.drop_columns_over_cutoff-2.result _ _ (λ s h.
    next_join c.args.choice c.args.self.table c.in_ok-partial-2.partial.table s.table (next_join c.args.choice c.args.self.table c.in_ok-partial.partial.table c.in_ok-partial-2.partial.table c.in_ok-partial.ensures.next c.in_ok-partial-2.ensures.next) h) c.drop_columns_over_cutoff-2.ensures.next

pub returns-clause-gone : goal.returns-clause-gone
returns-clause-gone c = IfOk-weaker c.drop_columns_over_cutoff-2.result _ _ (λ s h. gone_next c.args.choice c.in_ok-partial-2.partial.table s.table c.args.column h c.in_ok-partial-2.ensures.gone) c.drop_columns_over_cutoff-2.ensures.next

pub returns-then-contains-clause-next : goal.returns-then-contains-clause-next
returns-then-contains-clause-next c = IfOk-weaker c.ask_for_one.result _ _ (λ s h. next_join c.args.choice c.args.self.table c.in_ok-partial.partial.table s.table c.in_ok-partial.ensures.next h) c.ask_for_one.ensures.next
