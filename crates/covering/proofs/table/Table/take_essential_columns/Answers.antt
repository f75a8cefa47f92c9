use Rattle.std.proofs.Common.{◌≡◌, ◌∙◌, ◌||◌, not, refl, sym, ap, subst}
use Rattle.std.specs.Prelude.{filter}
use Rattle.std.specs.List.{list_all, range_with_len}
use Rattle.covering.specs.declared.choice.Choice.TheVariants.{First}
use Rattle.covering.specs.Table.{Table, IsTable, items_of, has, table_of}
use Rattle.covering.specs.Search.{marked}
use Rattle.covering.specs.Reduce.{MarksInessentialColumns, HasNoEssentialColumn, Shrinks, take_unmarked}
use Rattle.covering.proofs.Made.{table_same}
use Rattle.covering.proofs.Reduced.{filter_length_all, filter_not_full, none_essential, essentials_shrink, essentials_table}
use Rattle.covering.proofs.table.Table.take_essential_columns.Goals as goal
use Rattle.covering.proofs.table.Table.take_essential_columns.Goals.{In_ok-keep}

-- the table that the fields show
abbrev own : (c : In_ok-keep) → Table
own c = let t = c.self.inside in table_of t.columns t.taken.items t.live.items (items_of t.rows.items) t.literals.items

marks : (c : In_ok-keep) → MarksInessentialColumns (own c).columns (own c).rows c.in_ok-keep.keep.items
marks c = subst (λ rs. MarksInessentialColumns (own c).columns (items_of rs) c.in_ok-keep.keep.items) c.deref.ensures.value c.in_ok-keep.ensures

pub returns-then-all_kept-clause-taken : goal.returns-then-all_kept-clause-taken
returns-then-all_kept-clause-taken c = λ choice.
    let p = (goal.at.returns-then-all_kept-clause-taken c).In_ok-keep in
    let keep = c.in_ok-keep.keep.items in
    let all = sym (c.all_kept.ensures ∙ ap (λ ks. list_all (marked ks) c.deref-2.result.now) c.deref-3.ensures.value ∙ ap (list_all (marked keep)) c.deref-2.ensures.value) ∙ c.if-all_kept.true in
    (refl, subst HasNoEssentialColumn c.self.view_is (none_essential choice (own p) keep c.self.invariant (marks p) (filter_length_all (marked keep) (own p).live all)))

-- the fields at the end
made : (c : goal.After-drop-keep-2) → table_of c.self.inside.columns c.in_ok-self-inside.field-0.items c.retain_marked.new.columns.items (items_of c.retain_untouched_rows.new.rows.items) c.self.inside.literals.items
    ≡ take_unmarked c.in_ok-keep.keep.items (own (goal.at.invariant_of-self c).In_ok-keep)
made c =
    let p = (goal.at.invariant_of-self c).In_ok-keep in
    let keep = c.in_ok-keep.keep.items in
    let taken = c.in_ok-self-inside.ensures
    ∙ ap (λ ts. filter (λ n. has n ts || not (marked c.deref-5.result.now n)) (range_with_len 0 (own p).columns)) c.deref-4.ensures.value
    ∙ ap (λ ks. filter (λ n. has n (own p).taken || not (marked ks n)) (range_with_len 0 (own p).columns)) c.deref-5.ensures.value in
    let live = c.retain_marked.ensures ∙ ap (λ ks. filter (marked ks) (own p).live) c.deref-6.ensures.value in
    let kept = c.retain_untouched_rows.ensures ∙ ap (λ ks. filter (list_all (marked ks)) (own p).rows) c.deref-7.ensures.value in
    table_same (own p).columns _ _ _ _ _ _ _ _ taken live kept refl

pub invariant_of-self : goal.invariant_of-self
invariant_of-self c =
    let p = (goal.at.invariant_of-self c).In_ok-keep in
    let keep = c.in_ok-keep.keep.items in
    subst IsTable (sym (made c)) (essentials_table First (own p) keep c.self.invariant (marks p))

pub returns-clause-taken : goal.returns-clause-taken
returns-clause-taken c = λ choice.
    let p = (goal.at.returns-clause-taken c).In_ok-keep in
    let keep = c.in_ok-keep.keep.items in
    let some = sym (c.all_kept.ensures ∙ ap (λ ks. list_all (marked ks) c.deref-2.result.now) c.deref-3.ensures.value ∙ ap (list_all (marked keep)) c.deref-2.ensures.value) ∙ c.if-all_kept.false in
    let left = table_of (own p).columns c.in_ok-self-inside.field-0.items c.retain_marked.new.columns.items (items_of c.retain_untouched_rows.new.rows.items) (own p).weights in
    subst (λ t. Shrinks choice t left) c.self.view_is
    (subst (Shrinks choice (own p)) (sym (made c)) (essentials_shrink choice (own p) keep c.self.invariant (marks p) (filter_not_full (marked keep) (own p).live some)))
