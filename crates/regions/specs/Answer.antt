-- What splits answer. No public clause cites this module.
use Rattle.std.specs.Prelude.{⊤, ◌≡◌, Bool, IsTrue, List, Result, Ok, Err}
use Rattle.std.specs.Borrow.{Bor}
use Rattle.cube.specs.Cube.{Cube, size_of}
use Rattle.rows.specs.Places.{behind}
use Rattle.regions.specs.LeftOut.{IsLeftOut}
use Rattle.regions.specs.Reason.{IsReason}
use Rattle.regions.specs.declared.region.Stop.{Stop}
use Rattle.regions.specs.declared.region.Stop.TheVariants.{Memory, Spent, LeftOut}

-- why splits found no reason: they were limited, or the rows leave out this part of the region
abbrev pub Explains : Cube → List Cube → Bool → Stop → Type 0
Explains region rows limited Memory = ⊤
Explains region rows limited Spent = IsTrue limited
Explains region rows limited (LeftOut part) = IsLeftOut (size_of region) rows region part

-- a reason why the rows hold the region, or why none was found
abbrev pub IsAnswer : Cube → List Cube → Bool → Result Cube Stop → Type 0
IsAnswer region rows limited (Ok c) = IsReason region rows c
IsAnswer region rows limited (Err stop) = Explains region rows limited stop

-- the answer of splits, which stay limited or not
pub record IsAnswerOfSplits (region : Cube) (rows : List (Bor Cube)) (old new : Bool) (result : Result Cube Stop) : Type 0 where
  pub limited : new ≡ old
  pub answer : IsAnswer region (behind rows) old result
