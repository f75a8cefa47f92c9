-- The lists of a description's three sets: the given ones, and those that its type leaves open.
use Rattle.std.specs.Prelude.{◌≡◌, Bool, true, false, not, ◌||◌, List, [], ◌∷◌, ◌++◌, if◌then◌else◌, None, refl}
use Rattle.cube.specs.declared.symbol.Symbol.TheVariants.{Dash, Zero, One}
use Rattle.cube.specs.Size.{Size}
use Rattle.cube.specs.Cube.{Cube}
use Rattle.cube.specs.Sum.{complete_sum}
use Rattle.cover.specs.Places.{places}
use Rattle.pla.specs.declared.file_type.FileType.{FileType}
use Rattle.pla.specs.declared.file_type.FileType.TheVariants.{F, Fd, Fr, Fdr}
use Rattle.pla.specs.Description.{Description}
use Rattle.pla.specs.Sets.{SetLists}

-- the complete sum of the places that are in no cube of the list
abbrev pub outside : Size → List Cube → List Cube
outside size cubes = complete_sum size (λ p. not (places cubes p))

-- the DC list: as given under fd and fdr, nothing under f, and under fr what ON and OFF leave
abbrev pub dc_of : FileType → Description → List Cube
dc_of F d = []
dc_of Fr d = outside d.size (d.on ++ d.off)
dc_of _ d = d.dc

-- the OFF list: as given under fr and fdr, under f what ON leaves, under fd what ON and DC leave
abbrev pub off_of : FileType → Description → List Cube
off_of F d = outside d.size d.on
off_of Fd d = outside d.size (d.on ++ d.dc)
off_of _ d = d.off

-- the lists of the three sets
abbrev pub three_sets : Description → SetLists
three_sets d =
    record {
      size = d.size;
      on = d.on;
      dc = dc_of d.file_type d;
      off = off_of d.file_type d;
    }

-- ---- what is computed only if it is asked for

-- the type gives the DC list
abbrev pub gives_dc : FileType → Bool
gives_dc F = false
gives_dc Fd = true
gives_dc Fr = false
gives_dc Fdr = true

-- the type gives the OFF list
abbrev pub gives_off : FileType → Bool
gives_off F = false
gives_off Fd = false
gives_off Fr = true
gives_off Fdr = true

-- a list that is given or asked for, and nothing otherwise
abbrev pub dc_list : FileType → Bool → Description → List Cube
dc_list type asked d = if asked || gives_dc type then dc_of type d else []

abbrev pub off_list : FileType → Bool → Description → List Cube
off_list type asked d = if asked || gives_off type then off_of type d else []

-- the lists of the three sets: the flags ask for the DC list and for the OFF list
abbrev pub sets_of : Description → Bool → Bool → SetLists
sets_of d dc off =
    record {
      size = d.size;
      on = d.on;
      dc = dc_list d.file_type dc d;
      off = off_list d.file_type off d;
    }

-- ---- examples

-- a description of one output without names
abbrev of_type : FileType → Size → List Cube → List Cube → List Cube → Description
of_type type size on dc off =
    record {
      size = size;
      input_names = None;
      output_names = None;
      file_type = type;
      on = on;
      dc = dc;
      off = off;
    }

-- under f a row 11 leaves the rows -0 and 0-, and no DC list
example_f : three_sets
    (of_type F (record { inputs = 2; outputs = 1 })
    (record { symbols = One ∷ One ∷ []; outputs = true ∷ [] } ∷ []) [] [])
    ≡ record {
      size = record { inputs = 2; outputs = 1 };
      on = record { symbols = One ∷ One ∷ []; outputs = true ∷ [] } ∷ [];
      dc = [];
      off = record { symbols = Dash ∷ Zero ∷ []; outputs = true ∷ [] }
          ∷ record { symbols = Zero ∷ Dash ∷ []; outputs = true ∷ [] } ∷ [];
    }
example_f = refl

-- under fd the OFF list lies outside the DC list too
example_fd : off_of Fd
    (of_type Fd (record { inputs = 1; outputs = 1 })
    (record { symbols = One ∷ []; outputs = true ∷ [] } ∷ [])
    (record { symbols = Zero ∷ []; outputs = true ∷ [] } ∷ []) []) ≡ []
example_fd = refl

-- under fr a row - of ON and a row 0 of OFF leave nothing, and without the row of ON the DC list
-- is 1
example_fr : dc_of Fr
    (of_type Fr (record { inputs = 1; outputs = 1 })
    (record { symbols = Dash ∷ []; outputs = true ∷ [] } ∷ []) []
    (record { symbols = Zero ∷ []; outputs = true ∷ [] } ∷ [])) ≡ []
example_fr = refl

example_fr_open : dc_of Fr
    (of_type Fr (record { inputs = 1; outputs = 1 }) [] []
    (record { symbols = Zero ∷ []; outputs = true ∷ [] } ∷ []))
    ≡ record { symbols = One ∷ []; outputs = true ∷ [] } ∷ []
example_fr_open = refl

-- a list that is not asked for stays empty
example_not_asked : off_list Fd false (of_type Fd (record { inputs = 1; outputs = 1 }) [] [] [])
    ≡ []
example_not_asked = refl
