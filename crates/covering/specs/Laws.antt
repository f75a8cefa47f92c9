-- Laws of the definitions.
use Rattle.std.specs.Prelude.{◌≡◌, ℕ, ◌<◌, true, false, List, length}
use Rattle.std.specs.Cmp.Lexicographic.{slice_cmp}
use Rattle.std.specs.Ordering.{nat_cmp}
use Rattle.std.specs.declared.cmp.Ordering.TheVariants.{Less}
use Rattle.covering.specs.declared.choice.Choice.{Choice}
use Rattle.covering.specs.Table.{Table, has, RisesFrom}
use Rattle.covering.specs.Cover.{IsLeast}

-- a table has one least cover at most
abbrev pub LeastIsUnique : Type 0
LeastIsUnique = (choice : Choice) (t : Table) (s x : List ℕ) → IsLeast choice t s
    → IsLeast choice t x → s ≡ x

-- of two rising lists of one length the one comes first that has the least number in which they
-- differ
abbrev pub LeastDifferenceDecides : Type 0
LeastDifferenceDecides = (c : ℕ) (s x : List ℕ) → RisesFrom 0 s → RisesFrom 0 x
    → length s ≡ length x
    → has c s ≡ true → has c x ≡ false → ((m : ℕ) → m < c → has m s ≡ has m x)
    → slice_cmp nat_cmp s x ≡ Less
