use Rattle.covering.proofs.Partials.{next_self, partial_reduced, next_reduced}
use Rattle.covering.proofs.in_order.Partial.reduce.Goals as goal

pub returns-then-not-is_worth_a_reduction-clause-partial : goal.returns-then-not-is_worth_a_reduction-clause-partial
returns-then-not-is_worth_a_reduction-clause-partial c = c.requires

pub returns-then-not-is_worth_a_reduction-clause-next : goal.returns-then-not-is_worth_a_reduction-clause-next
returns-then-not-is_worth_a_reduction-clause-next c = next_self c.args.choice c.args.self.table

pub returns-in-Some-clause-partial : goal.returns-in-Some-clause-partial
returns-in-Some-clause-partial c = partial_reduced c.args.choice c.args.self.table c.in_ok-table.table c.in_ok-table.ensures.table c.in_ok-table.ensures.steps c.args.cutoff.columns c.args.cutoff.cost c.in-Some.witness.items c.requires.none (rw c.in-Some.is at c.in_ok-witness.ensures)

pub returns-in-Some-clause-next : goal.returns-in-Some-clause-next
returns-in-Some-clause-next c = next_reduced c.args.choice c.args.self.table c.in_ok-table.table c.in_ok-table.ensures.table c.in_ok-table.ensures.steps

pub returns-in-None-clause-partial : goal.returns-in-None-clause-partial
returns-in-None-clause-partial c = c.requires

pub returns-in-None-clause-next : goal.returns-in-None-clause-next
returns-in-None-clause-next c = next_self c.args.choice c.args.self.table
