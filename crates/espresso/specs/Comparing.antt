-- Places that count if two files are compared. No public clause cites this module.
use Rattle.std.specs.Prelude.{Bool, List}
use Rattle.cube.specs.Cube.{Cube, Place, intersection}
use Rattle.cover.specs.Places.{places}
use Rattle.pla.specs.declared.file_type.FileType.{FileType}
use Rattle.pla.specs.declared.file_type.FileType.TheVariants.{F, Fd, Fr, Fdr}

-- the places of s that a file settles: if they are outside its ON list, they are don't-cares only
-- where it lists them as such. Under fr these are those of its OFF list
abbrev pub settled : FileType → List Cube → (Place → Bool) → Place → Bool
settled F off s = s
settled Fd off s = s
settled Fr off s = intersection s (places off)
settled Fdr off s = s
