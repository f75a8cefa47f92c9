-- Descriptions of the same places. No public clause cites this module.
use Rattle.std.specs.Prelude.{◌≡◌}
use Rattle.cube.specs.Cube.{Place}
use Rattle.cover.specs.Places.{places}
use Rattle.pla.specs.Description.{Description}

-- the lists of the second have the places of those of the first
pub record HasSamePlaces (d e : Description) : Type 0 where
  pub size : e.size ≡ d.size
  pub file_type : e.file_type ≡ d.file_type
  pub on : (p : Place) → places e.on p ≡ places d.on p
  pub dc : (p : Place) → places e.dc p ≡ places d.dc p
  pub off : (p : Place) → places e.off p ≡ places d.off p
