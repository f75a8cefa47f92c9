use Rattle.std.proofs.Common.{◌≡◌, ◌∙◌, ◌++◌, ◌∷◌, [], sym, ap, subst}
use Rattle.std.proofs.lemmas.List.{map-append}
use Rattle.covering.specs.Table.{Table, IsTable, items_of, table_of}
use Rattle.covering.specs.Steps.{with_rows}
use Rattle.covering.proofs.Partials.{row_table}
use Rattle.covering.proofs.table.Table.with_row.Goals as goal
use Rattle.covering.proofs.table.Table.with_row.Goals.{In_ok-push}

-- the copy, as its fields show it
abbrev own : (c : In_ok-push) → Table
own c = let t = c.table.inside in table_of t.columns t.taken.items t.live.items (items_of t.rows.items) t.literals.items

copy : (c : In_ok-push) → own c ≡ c.args.self.now
copy c = c.table.view_is ∙ c.in_ok-table.ensures.copy

rows : (c : In_ok-push) → items_of c.push.new.self.items ≡ (own c).rows ++ c.args.row.items ∷ []
rows c = ap items_of c.in_ok-push.ensures.items ∙ map-append (λ r. r.items) c.table.inside.rows.items (c.args.row ∷ [])

pub invariant_of-table : goal.invariant_of-table
invariant_of-table c =
    subst (λ rs. IsTable (with_rows (own c) rs)) (sym (rows c)) (subst (λ (t : Table). IsTable (with_rows t (t.rows ++ c.args.row.items ∷ []))) (sym (copy c))
    (row_table c.args.self.now c.args.row.items c.in_ok-table.ensures.table c.requires.some c.requires.rises c.requires.within))

pub returns : goal.returns
returns c = ap (with_rows (own c)) (rows c) ∙ ap (λ (t : Table). with_rows t (t.rows ++ c.args.row.items ∷ [])) (copy c)
