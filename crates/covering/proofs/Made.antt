-- Tables as the code makes them.
use Rattle.std.proofs.Common.{◌≡◌, ℕ, true, List, sym, ap, ◌∙◌, subst}
use Rattle.covering.specs.Table.{Table, has, IsTable, table_of}
use Rattle.covering.specs.Steps.{take_column}
use Rattle.covering.proofs.Keeps.{take_table}

-- tables with equal fields
pub table_same : (n : ℕ) (taken taken2 live live2 : List ℕ) (rows rows2 : List (List ℕ)) (weights weights2 : List ℕ) → taken ≡ taken2 → live ≡ live2 → rows ≡ rows2 → weights ≡ weights2 → table_of n taken live rows weights ≡ table_of n taken2 live2 rows2 weights2
table_same n taken taken2 live live2 rows rows2 weights weights2 a b d e =
    ap (λ xs. table_of n xs live rows weights) a
    ∙ ap (λ xs. table_of n taken2 xs rows weights) b
    ∙ ap (λ xs. table_of n taken2 live2 xs weights) d
    ∙ ap (λ xs. table_of n taken2 live2 rows2 xs) e

pub take_made_table : (t u : Table) (c : ℕ) → IsTable t → has c t.live ≡ true → u ≡ take_column c t → IsTable u
take_made_table t u c w l e = subst IsTable (sym e) (take_table t c w l)
