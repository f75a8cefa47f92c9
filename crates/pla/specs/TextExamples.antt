-- Printed texts of small descriptions.
use Rattle.std.specs.Prelude.{◌≡◌, true, false, [], ◌∷◌, None, Some, codes, refl}
use Rattle.std.specs.Fmt.{digits}
use Rattle.cube.specs.declared.symbol.Symbol.TheVariants.{Dash, Zero, One}
use Rattle.pla.specs.declared.file_type.FileType.TheVariants.{Fd as file_fd}
use Rattle.pla.specs.declared.out_type.OutType.TheVariants.{F, Fd, Fr, Fdr}
use Rattle.pla.specs.Description.{Description}
use Rattle.pla.specs.Sets.{SetLists, given_lists}
use Rattle.pla.specs.Text.{text_of}

-- two inputs and one output, with one row
abbrev conjunction : Description
conjunction = record {
  size = record { inputs = 2; outputs = 1 };
  input_names = None;
  output_names = None;
  file_type = file_fd;
  on = record { symbols = One ∷ One ∷ []; outputs = true ∷ [] } ∷ [];
  dc = [];
  off = [];
}

one_row : text_of conjunction F (given_lists conjunction) ≡ codes ".i 2\n.o 1\n.p 1\n11 1\n.e\n"
unfolding digits
one_row = refl

-- with its complement as the OFF-set
abbrev both_sides : SetLists
both_sides = record (given_lists conjunction) {
  off = record { symbols = Dash ∷ Zero ∷ []; outputs = true ∷ [] }
      ∷ record { symbols = Zero ∷ Dash ∷ []; outputs = true ∷ [] } ∷ [];
}

two_lists : text_of conjunction Fr both_sides
    ≡ codes ".i 2\n.o 1\n.type fr\n.p 3\n11 1\n-0 0\n0- 0\n.e\n"
unfolding digits
two_lists = refl

-- no inputs: a row begins with its space, and names that were given are a keyword alone
abbrev constants : Description
constants = record conjunction {
  size = record { inputs = 0; outputs = 2 };
  input_names = Some [];
  on = record { symbols = []; outputs = true ∷ false ∷ [] } ∷ [];
}

no_inputs : text_of constants F (given_lists constants) ≡ codes ".i 0\n.o 2\n.ilb\n.p 1\n 10\n.e\n"
unfolding digits
no_inputs = refl

-- names of inputs and outputs, and three lists
abbrev named : Description
named = record conjunction {
  size = record { inputs = 2; outputs = 2 };
  input_names = Some (codes "a" ∷ codes "b" ∷ []);
  output_names = Some (codes "f" ∷ codes "g" ∷ []);
  on = record { symbols = One ∷ One ∷ []; outputs = true ∷ false ∷ [] } ∷ [];
  dc = record { symbols = One ∷ One ∷ []; outputs = false ∷ true ∷ [] } ∷ [];
  off = record { symbols = Zero ∷ Dash ∷ []; outputs = true ∷ false ∷ [] } ∷ [];
}

three_lists : text_of named Fdr (given_lists named)
    ≡ codes ".i 2\n.o 2\n.ilb a b\n.ob f g\n.type fdr\n.p 3\n11 1~\n11 ~-\n0- 0~\n.e\n"
unfolding digits
three_lists = refl

with_dc : text_of named Fd (given_lists named)
    ≡ codes ".i 2\n.o 2\n.ilb a b\n.ob f g\n.type fd\n.p 2\n11 1~\n11 ~-\n.e\n"
unfolding digits
with_dc = refl

with_off : text_of named Fr (given_lists named)
    ≡ codes ".i 2\n.o 2\n.ilb a b\n.ob f g\n.type fr\n.p 2\n11 1~\n0- 0~\n.e\n"
unfolding digits
with_off = refl

on_alone : text_of named F (given_lists named)
    ≡ codes ".i 2\n.o 2\n.ilb a b\n.ob f g\n.p 1\n11 10\n.e\n"
unfolding digits
on_alone = refl

-- no row at all, and numbers of several digits
abbrev wide : Description
wide = record conjunction { size = record { inputs = 256; outputs = 1024 }; on = [] }

no_rows : text_of wide F (given_lists wide) ≡ codes ".i 256\n.o 1024\n.p 0\n.e\n"
unfolding digits
no_rows = refl
