-- Three lists of cubes of one size.
use Rattle.std.specs.Prelude.{List}
use Rattle.cube.specs.Size.{Size}
use Rattle.cube.specs.Cube.{Cube}
use Rattle.cover.specs.Cubes.{Cubes}
use Rattle.pla.specs.Description.{Description}

-- lists for the ON-set, the DC-set and the OFF-set
pub record SetLists : Type 0 where
  pub size : Size
  pub on : List Cube
  pub dc : List Cube
  pub off : List Cube

-- the lists that the rows gave
abbrev pub given_lists : Description → SetLists
given_lists d = record { size = d.size; on = d.on; dc = d.dc; off = d.off }

-- three covers of one size as lists
abbrev pub lists_of : Cubes → Cubes → Cubes → SetLists
lists_of on dc off = record { size = on.size; on = on.cubes; dc = dc.cubes; off = off.cubes }
