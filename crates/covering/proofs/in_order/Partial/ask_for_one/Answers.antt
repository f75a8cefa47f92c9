use Rattle.std.proofs.Common.{◌≡◌, ◌∙◌, ℕ, true, false, Option, Vec, Global, sym, ap, subst}
use Rattle.std.specs.Prelude.{option_map}
use Rattle.covering.specs.Table.{Table, has}
use Rattle.covering.specs.Steps.{take_column}
use Rattle.covering.specs.Search.{Answers, IsAnswer, IsOutside, NoneWithin, IsPartial, Continues, marked}
use Rattle.covering.proofs.Sets.{without_lacks}
use Rattle.covering.proofs.Partials.{partial_taken, next_taken, witness_taken, outside_taken, lacks_marked, marked_but, same_column, some_left, partial_left, next_left}
use Rattle.covering.proofs.in_order.Partial.ask_for_one.Goals as goal
use Rattle.covering.proofs.in_order.Partial.ask_for_one.Goals.{Then-contains, In-Some, In_ok-keep-in-None}

own : (c : Then-contains) → IsAnswer c.args.choice (take_column c.args.column c.args.self.table) c.args.cutoff.columns c.args.cutoff.cost c.args.self.witness.items
own c = witness_taken c.args.choice c.args.self.table c.args.column c.args.cutoff.columns c.args.cutoff.cost c.args.self.witness.items (subst (λ xs. has c.args.column xs ≡ true) c.deref.ensures.value (sym c.contains.ensures ∙ c.if-contains.true)) c.requires.partial.witness

pub returns-then-contains-clause-partial : goal.returns-then-contains-clause-partial
returns-then-contains-clause-partial c =
    subst (λ g. IsPartial c.args.choice c.args.cutoff.columns c.args.cutoff.cost g c.args.self.witness.items) (sym c.in_ok-with.ensures.taken)
    (partial_taken c.args.choice c.args.self.table c.args.column c.args.cutoff.columns c.args.cutoff.cost c.args.self.witness.items c.requires.partial.none c.requires.live (own (goal.at.returns-then-contains-clause-partial c).Then-contains))

pub returns-then-contains-clause-next : goal.returns-then-contains-clause-next
returns-then-contains-clause-next c =
    subst (Continues c.args.choice c.args.self.table) (sym c.in_ok-with.ensures.taken)
    (next_taken c.args.choice c.args.self.table c.args.column c.args.cutoff.columns c.args.cutoff.cost c.args.self.witness.items c.requires.partial.none c.requires.live (own (goal.at.returns-then-contains-clause-next c).Then-contains) c.requires.first)

pub returns-then-contains-clause-gone : goal.returns-then-contains-clause-gone
returns-then-contains-clause-gone c = ap (λ (g : Table). has c.args.column g.live) c.in_ok-with.ensures.taken ∙ without_lacks c.args.column 0 c.args.self.table.live c.in_ok-with.ensures.table.live_rises

found : (c : In-Some) → IsAnswer c.args.choice (take_column c.args.column c.args.self.table) c.args.cutoff.columns c.args.cutoff.cost c.in-Some.witness.items
found c = subst (λ g. IsAnswer c.args.choice g c.args.cutoff.columns c.args.cutoff.cost c.in-Some.witness.items) c.in_ok-with.ensures.taken
    (subst (λ (o : Option (Vec ℕ Global)). Answers c.args.choice c.in_ok-with.with c.args.cutoff.columns c.args.cutoff.cost (option_map (λ v. v.items) o)) c.in-Some.is c.in_ok-witness.ensures)

pub returns-in-Some-clause-partial : goal.returns-in-Some-clause-partial
returns-in-Some-clause-partial c =
    subst (λ g. IsPartial c.args.choice c.args.cutoff.columns c.args.cutoff.cost g c.in-Some.witness.items) (sym c.in_ok-with.ensures.taken)
    (partial_taken c.args.choice c.args.self.table c.args.column c.args.cutoff.columns c.args.cutoff.cost c.in-Some.witness.items c.requires.partial.none c.requires.live (found (goal.at.returns-in-Some-clause-partial c).In-Some))

pub returns-in-Some-clause-next : goal.returns-in-Some-clause-next
returns-in-Some-clause-next c =
    subst (Continues c.args.choice c.args.self.table) (sym c.in_ok-with.ensures.taken)
    (next_taken c.args.choice c.args.self.table c.args.column c.args.cutoff.columns c.args.cutoff.cost c.in-Some.witness.items c.requires.partial.none c.requires.live (found (goal.at.returns-in-Some-clause-next c).In-Some) c.requires.first)

pub returns-in-Some-clause-gone : goal.returns-in-Some-clause-gone
returns-in-Some-clause-gone c = ap (λ (g : Table). has c.args.column g.live) c.in_ok-with.ensures.taken ∙ without_lacks c.args.column 0 c.args.self.table.live c.in_ok-with.ensures.table.live_rises

-- the column that leaves
out : (c : In_ok-keep-in-None) → (d : ℕ) → has d c.args.self.table.live ≡ true → marked c.in_ok-keep-in-None.keep.items d ≡ false → IsOutside c.args.choice c.args.self.table c.args.cutoff.columns c.args.cutoff.cost d
out c d l e =
    let same : d ≡ c.args.column = same_column d c.args.column (sym (marked_but c.args.self.table c.in_ok-keep-in-None.keep.items c.columns.result c.args.column d c.columns.ensures.table c.columns.ensures.count c.in_ok-keep-in-None.ensures l) ∙ e) in
    let none = subst (λ (o : Option (Vec ℕ Global)). Answers c.args.choice c.in_ok-with.with c.args.cutoff.columns c.args.cutoff.cost (option_map (λ v. v.items) o)) c.in-None.is c.in_ok-witness.ensures in
    let gone = outside_taken c.args.choice c.args.self.table c.args.column c.args.cutoff.columns c.args.cutoff.cost (subst (λ g. NoneWithin c.args.choice g c.args.cutoff.columns c.args.cutoff.cost) c.in_ok-with.ensures.taken none) in
    λ x g there. gone x g (subst (λ n. has n x ≡ true) same there)

pub keep_columns_marked-requires : goal.keep_columns_marked-requires
keep_columns_marked-requires c =
    rw c.deref-in-None.ensures.value
    (some_left c.args.choice (marked c.in_ok-keep-in-None.keep.items) c.args.self.table c.args.cutoff.columns c.args.cutoff.cost c.args.self.witness.items c.columns.ensures.table c.requires.partial (out (goal.at.keep_columns_marked-requires c).In_ok-keep-in-None))

pub returns-in_ok-keep-in-None-clause-partial : goal.returns-in_ok-keep-in-None-clause-partial
returns-in_ok-keep-in-None-clause-partial c =
    let left = rw c.deref-in-None.ensures.value at c.keep_columns_marked.ensures in
    rw left.witness (partial_left c.args.choice (marked c.in_ok-keep-in-None.keep.items) c.args.self.table c.args.cutoff.columns c.args.cutoff.cost c.args.self.witness.items c.columns.ensures.table c.requires.partial (out (goal.at.returns-in_ok-keep-in-None-clause-partial c).In_ok-keep-in-None) c.keep_columns_marked.result.table left.table)

pub returns-in_ok-keep-in-None-clause-next : goal.returns-in_ok-keep-in-None-clause-next
returns-in_ok-keep-in-None-clause-next c =
    let left = rw c.deref-in-None.ensures.value at c.keep_columns_marked.ensures in
    next_left c.args.choice (marked c.in_ok-keep-in-None.keep.items) c.args.self.table c.args.cutoff.columns c.args.cutoff.cost c.args.self.witness.items c.columns.ensures.table c.requires.partial (out (goal.at.returns-in_ok-keep-in-None-clause-next c).In_ok-keep-in-None) c.keep_columns_marked.result.table left.table

pub returns-in_ok-keep-in-None-clause-gone : goal.returns-in_ok-keep-in-None-clause-gone
returns-in_ok-keep-in-None-clause-gone c =
    let left = rw c.deref-in-None.ensures.value at c.keep_columns_marked.ensures in
    lacks_marked c.args.self.table.live c.keep_columns_marked.result.table.live c.in_ok-keep-in-None.keep.items c.args.column (ap (λ (t : Table). t.live) left.table)
    (λ l. marked_but c.args.self.table c.in_ok-keep-in-None.keep.items c.columns.result c.args.column c.args.column c.columns.ensures.table c.columns.ensures.count c.in_ok-keep-in-None.ensures l)
