-- What devices in memory hold, as a contract sees them.
use Rattle.std.specs.Prelude.{ℕ, Bool, List, Option, Some, None, zero, suc}
use Rattle.pla.specs.declared.calls.ReadCalls.{ReadCalls}
use Rattle.pla.specs.declared.calls.WriteCalls.{WriteCalls}
use Rattle.pla.specs.declared.ending.Ending.{Ending}

-- stored bytes that a reader delivers: those left and how many were delivered, the most that one
-- read delivers, how reading ends, how many reads come before one that fails alone, and what came
-- of the reads
pub record Given : Type 0 where
  pub left : List ℕ
  pub delivered : ℕ
  pub most : ℕ
  pub ending : Ending
  pub until_failure : Option ℕ
  pub calls : ReadCalls

-- room for bytes that a writer takes: those taken, how many more fit, the most that one write
-- takes, whether a flush fails, how many writes come before one that fails alone, and what came of
-- the calls
pub record Taken : Type 0 where
  pub taken : List ℕ
  pub room : ℕ
  pub most : ℕ
  pub flush_fails : Bool
  pub until_failure : Option ℕ
  pub calls : WriteCalls

-- one call nearer to the one that fails alone, which is past then
abbrev pub one_nearer : Option ℕ → Option ℕ
one_nearer None = None
one_nearer (Some zero) = None
one_nearer (Some (suc n)) = Some n
