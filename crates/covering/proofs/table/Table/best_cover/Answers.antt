use Rattle.std.proofs.Common.{ℕ, Vec, Global, sym, subst}
use Rattle.std.proofs.lemmas.Result.{IfOk-weaker}
use Rattle.covering.specs.declared.choice.Choice.{Choice}
use Rattle.covering.specs.declared.choice.Choice.TheVariants.{First}
use Rattle.covering.specs.Search.{IsBest}
use Rattle.covering.proofs.table.Table.best_cover.Goals as goal
use Rattle.covering.proofs.table.Table.best_cover.Goals.{in-Some, in-None+in_ok-shortest-in-None}

pub fewest_literals-requires : goal.fewest_literals-requires
fewest_literals-requires c = elim c.match-shortest.branch [
  | in-Some w ↦ subst (λ (v : Vec ℕ Global). IsBest First c.args.self.now v.items) (sym w.shortest-is) (rw w.in-Some.is at c.requires)
  | in-None+in_ok-shortest-in-None w ↦ subst (λ (v : Vec ℕ Global). IsBest First c.args.self.now v.items) (sym w.shortest-is) w.in_ok-shortest-in-None.ensures
]

pub returns-in-First : goal.returns-in-First
returns-in-First c = subst (λ (k : Choice). IsBest k c.args.self.now c.match-shortest.shortest.items) (sym c.in-First.is) (elim c.match-shortest.branch [
  | in-Some w ↦ subst (λ (v : Vec ℕ Global). IsBest First c.args.self.now v.items) (sym w.shortest-is) (rw w.in-Some.is at c.requires)
  | in-None+in_ok-shortest-in-None w ↦ subst (λ (v : Vec ℕ Global). IsBest First c.args.self.now v.items) (sym w.shortest-is) w.in_ok-shortest-in-None.ensures
])

pub returns-in-Literals : goal.returns-in-Literals
returns-in-Literals c = IfOk-weaker c.fewest_literals.result _ _ (λ v h. subst (λ (k : Choice). IsBest k c.args.self.now v.items) (sym c.in-Literals.is) h) c.fewest_literals.ensures
