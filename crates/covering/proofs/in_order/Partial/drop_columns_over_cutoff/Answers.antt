use Rattle.std.proofs.Common.{◌∙◌, refl}
use Rattle.covering.proofs.Partials.{next_self, next_join}
use Rattle.covering.proofs.in_order.Partial.drop_columns_over_cutoff.Goals as goal

pub loop-partial-init : goal.loop-partial-init
loop-partial-init c = record { partial = c.requires; next = next_self c.args.choice c.args.self.table; rows = refl }

pub drop_columns_over_cutoff_once-requires : goal.drop_columns_over_cutoff_once-requires
drop_columns_over_cutoff_once-requires c = c.loop-partial.invariant.partial

pub returns-then-live-still_live-clause-partial : goal.returns-then-live-still_live-clause-partial
returns-then-live-still_live-clause-partial c = c.in_ok-partial.ensures.partial

pub returns-then-live-still_live-clause-next : goal.returns-then-live-still_live-clause-next
returns-then-live-still_live-clause-next c = next_join c.args.choice c.args.self.table c.loop-partial.partial.table c.in_ok-partial.partial.table c.loop-partial.invariant.next c.in_ok-partial.ensures.next

pub returns-then-live-still_live-clause-rows : goal.returns-then-live-still_live-clause-rows
returns-then-live-still_live-clause-rows c = c.in_ok-partial.ensures.rows ∙ c.loop-partial.invariant.rows

pub loop-partial-preserved : goal.loop-partial-preserved
loop-partial-preserved c = record {
  partial = c.in_ok-partial.ensures.partial;
  next = next_join c.args.choice c.args.self.table c.loop-partial.partial.table c.in_ok-partial.partial.table c.loop-partial.invariant.next c.in_ok-partial.ensures.next;
  rows = c.in_ok-partial.ensures.rows ∙ c.loop-partial.invariant.rows;
}
