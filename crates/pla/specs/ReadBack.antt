-- Printed texts that are read again.
use Rattle.std.specs.Prelude.{◌≡◌, ℕ, ◌+◌, ◌<◌, ◌≤◌, Bool, true, false, List, [], ◌∷◌, ◌++◌, length, All, ◌==◌, Some, None, codes}
use Rattle.std.specs.Option.{ForSome}
use Rattle.cube.specs.Limits.{format_limits, IsWithinLimits}
use Rattle.cube.specs.Cube.{IsCube}
use Rattle.pla.specs.declared.ending.Ending.{Ending}
use Rattle.pla.specs.declared.file_type.FileType.TheVariants.{Fdr as file_fdr}
use Rattle.pla.specs.declared.out_type.OutType.TheVariants.{Fdr}
use Rattle.pla.specs.Lines.{is_blank, ended_lines}
use Rattle.pla.specs.Steps.{NoFeed}
use Rattle.pla.specs.Fault.{fault_of}
use Rattle.pla.specs.Description.{Description, described}
use Rattle.pla.specs.Sets.{SetLists}
use Rattle.pla.specs.Completed.{sets_of}
use Rattle.pla.specs.Text.{names_text, text_of}

-- whether a comment would begin with these bytes, after a blank
abbrev pub begins_comment : List ℕ → Bool
begins_comment [] = false
begins_comment (b ∷ bytes) = b == 35

-- a name as a file can give it: at least one byte, neither a blank nor a line feed, and no # in
-- front
pub record IsName (name : List ℕ) : Type 0 where
  pub some : 0 < length name
  pub no_blank : All (λ b. is_blank b ≡ false) name
  pub no_feed : NoFeed name
  pub no_comment : begins_comment name ≡ false

-- the names that a keyword gives: of the right number, and in a line, here with its line feed, that
-- is not too long
pub record AreNames (keyword : List ℕ) (count : ℕ) (names : List (List ℕ)) : Type 0 where
  pub number : length names ≡ count
  pub each : All IsName names
  pub fits : length (names_text keyword (Some names)) ≤ format_limits.line_bytes + 1

-- a description's shape and names are within the limits, each list has cubes of the shape, and the
-- text has no more lines than are looked at
pub record IsReadable (d : Description) (lists : SetLists) : Type 0 where
  pub size : IsWithinLimits format_limits d.size
  pub input_names : ForSome d.input_names (AreNames (codes ".ilb") d.size.inputs)
  pub output_names : ForSome d.output_names (AreNames (codes ".ob") d.size.outputs)
  pub on : All (IsCube d.size) lists.on
  pub dc : All (IsCube d.size) lists.dc
  pub off : All (IsCube d.size) lists.off
  pub lines : length (ended_lines (text_of d Fdr lists)) ≤ format_limits.lines

-- the text of type fdr has no fault, and describes the shape, the names and the three lists,
-- whatever bytes follow it and however their reading ends
pub record IsReadBack (d : Description) (lists : SetLists) (ending : Ending)
    (more : List ℕ) : Type 0 where
  pub faultless : fault_of format_limits ending (text_of d Fdr lists ++ more) ≡ None
  pub same : described format_limits ending (text_of d Fdr lists ++ more) ≡ record {
    size = d.size;
    input_names = d.input_names;
    output_names = d.output_names;
    file_type = file_fdr;
    on = lists.on;
    dc = lists.dc;
    off = lists.off;
  }

-- for all texts of type fdr
abbrev pub TextsAreReadBack : Type 0
TextsAreReadBack = (d : Description) (lists : SetLists) → IsReadable d lists
    → (ending : Ending) (more : List ℕ) → IsReadBack d lists ending more

-- what a text without a fault describes is readable, with the lists of its three sets, as given or
-- computed, if their text has no more lines than are looked at
abbrev pub FaultlessAreReadable : Type 0
FaultlessAreReadable = (ending : Ending) (bytes : List ℕ)
    → fault_of format_limits ending bytes ≡ None → (dc off : Bool)
    → length (ended_lines
    (text_of (described format_limits ending bytes) Fdr
    (sets_of (described format_limits ending bytes) dc off))) ≤ format_limits.lines
    → IsReadable (described format_limits ending bytes)
    (sets_of (described format_limits ending bytes) dc off)

-- so what is printed of it with all three sets is read back
abbrev pub EchoesAreReadBack : Type 0
EchoesAreReadBack = (ending : Ending) (bytes : List ℕ) → fault_of format_limits ending bytes ≡ None
    → length (ended_lines
    (text_of (described format_limits ending bytes) Fdr
    (sets_of (described format_limits ending bytes) true true))) ≤ format_limits.lines
    → (next : Ending) (more : List ℕ)
    → IsReadBack (described format_limits ending bytes)
    (sets_of (described format_limits ending bytes) true true) next more
