-- What is passed on of a file.
use Rattle.std.specs.Prelude.{ℕ, List, [], ◌∷◌, ◌++◌, if◌then◌else◌, flat_map, Option, Some, None}
use Rattle.cube.specs.Limits.{Limits}
use Rattle.pla.specs.declared.ending.Ending.{Ending}
use Rattle.pla.specs.declared.echo.Echo.{Echo}
use Rattle.pla.specs.declared.echo.Echo.TheVariants.{Keep, Eat}
use Rattle.pla.specs.Lines.{is_empty, comment, ended_lines, lines_of}
use Rattle.pla.specs.Keywords.{is_unknown, looked_at}
use Rattle.pla.specs.Fault.{sound}

-- a text with its line feed, and nothing for an empty one
abbrev pub ended : List ℕ → List ℕ
ended text = if is_empty text then [] else text ++ 10 ∷ []

-- the comment, unless comments are eaten
abbrev pub kept_comment : Echo → List ℕ → List ℕ
kept_comment Keep line = comment line
kept_comment Eat line = []

-- an unknown keyword's whole line, and any other line's comment
abbrev pub echo_of : Echo → List ℕ → List ℕ
echo_of echo line = ended (if is_unknown line then line else kept_comment echo line)

-- the lines of what was delivered: while the ending is open, those that a line feed ended
abbrev pub delivered_lines : Option Ending → List ℕ → List (List ℕ)
delivered_lines None bytes = ended_lines bytes
delivered_lines (Some ending) bytes = lines_of ending bytes

-- the echoes of the lines looked at, up to the first with a fault
abbrev pub due : Limits → Echo → Option Ending → List ℕ → List ℕ
due limits echo ending bytes =
    flat_map (echo_of echo) (sound limits (looked_at (delivered_lines ending bytes)))

-- the echoes of lines, in their order
abbrev pub echo_all : Echo → List (List ℕ) → List ℕ
echo_all echo lines = flat_map (echo_of echo) lines
