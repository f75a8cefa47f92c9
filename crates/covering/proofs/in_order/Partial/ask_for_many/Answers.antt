use Rattle.std.proofs.Common.{◌≡◌, ◌∙◌, ◌∷◌, ◌++◌, [], ℕ, not, map, true, false, Option, Vec, Global, sym, ap, subst, arith}
use Rattle.std.specs.Prelude.{filter, option_map}
use Rattle.std.specs.List.{range_with_len}
use Rattle.covering.specs.Table.{has}
use Rattle.covering.specs.Steps.{with_rows}
use Rattle.covering.specs.Search.{Answers, IsOutside, marked}
use Rattle.covering.proofs.Sets.{filter_keeps}
use Rattle.covering.proofs.Lagrange.{marks_at}
use Rattle.covering.proofs.Partials.{answer_extended, outside_extended, not_false, some_left, partial_left, next_left}
use Rattle.covering.proofs.in_order.Partial.ask_for_many.Goals as goal
use Rattle.covering.proofs.in_order.Partial.ask_for_many.Goals.{In_ok-keep-in-None}

-- the columns that leave
out : (c : In_ok-keep-in-None) → (d : ℕ) → has d c.args.self.table.live ≡ true → marked c.in_ok-keep-in-None.keep.items d ≡ false → IsOutside c.args.choice c.args.self.table c.args.cutoff.columns c.args.cutoff.cost d
out c d l e =
    let t = c.args.self.table in
    let marks = c.in_ok-marks.marks.items in
    let below = c.columns-in-None.ensures.table.within d l in
    let wide = c.columns-in-None.ensures.count in
    let is : marked c.in_ok-keep-in-None.keep.items d ≡ not (marked marks d) = ap (λ ks. marked ks d) c.in_ok-keep-in-None.ensures ∙ ap (λ ks. marked ks d) (ap (λ ks. map (λ n. not (marked ks n)) (range_with_len 0 c.columns-in-None.result)) c.deref-in-None.ensures.value) ∙ marks_at (λ n. not (marked marks n)) c.columns-in-None.result d (omega arith) in
    let lacks : marked marks d ≡ true = not_false (marked marks d) (sym is ∙ e) in
    let there : has d (filter (marked c.deref-2.result.now) t.live) ≡ true = filter_keeps (marked c.deref-2.result.now) d t.live l (ap (λ ks. marked ks d) c.deref-2.ensures.value ∙ lacks) in
    let row = filter (marked c.deref-2.result.now) t.live in
    let none = subst (λ (o : Option (Vec ℕ Global)). Answers c.args.choice (with_rows t (t.rows ++ row ∷ [])) c.args.cutoff.columns c.args.cutoff.cost (option_map (λ v. v.items) o)) c.in-None.is (rw c.in-Some.is at c.in_ok-answer.ensures) in
    outside_extended c.args.choice t row c.args.cutoff.columns c.args.cutoff.cost d there none

pub keep_columns_marked-requires : goal.keep_columns_marked-requires
keep_columns_marked-requires c =
    rw c.deref-in-None-2.ensures.value
    (some_left c.args.choice (marked c.in_ok-keep-in-None.keep.items) c.args.self.table c.args.cutoff.columns c.args.cutoff.cost c.args.self.witness.items c.columns-in-None.ensures.table c.requires (out (goal.at.keep_columns_marked-requires c).In_ok-keep-in-None))

pub returns-clause-partial : goal.returns-clause-partial
returns-clause-partial c =
    let left = rw c.deref-in-None-2.ensures.value at c.keep_columns_marked.ensures in
    rw left.witness (partial_left c.args.choice (marked c.in_ok-keep-in-None.keep.items) c.args.self.table c.args.cutoff.columns c.args.cutoff.cost c.args.self.witness.items c.columns-in-None.ensures.table c.requires (out (goal.at.returns-clause-partial c).In_ok-keep-in-None) c.keep_columns_marked.result.table left.table)

pub returns-clause-next : goal.returns-clause-next
returns-clause-next c =
    let left = rw c.deref-in-None-2.ensures.value at c.keep_columns_marked.ensures in
    next_left c.args.choice (marked c.in_ok-keep-in-None.keep.items) c.args.self.table c.args.cutoff.columns c.args.cutoff.cost c.args.self.witness.items c.columns-in-None.ensures.table c.requires (out (goal.at.returns-clause-next c).In_ok-keep-in-None) c.keep_columns_marked.result.table left.table

pub returns-in-Some-answer-clause-partial : goal.returns-in-Some-answer-clause-partial
returns-in-Some-answer-clause-partial c =
    let t = c.args.self.table in
    let row = filter (marked c.deref-2.result.now) t.live in
    let found = subst (λ (o : Option (Vec ℕ Global)). Answers c.args.choice (with_rows t (t.rows ++ row ∷ [])) c.args.cutoff.columns c.args.cutoff.cost (option_map (λ v. v.items) o)) c.in-Some-answer.is (rw c.in-Some.is at c.in_ok-answer.ensures) in
    record { none = c.requires.none; witness = answer_extended c.args.choice t row c.args.cutoff.columns c.args.cutoff.cost c.in-Some-answer.witness.items found }
