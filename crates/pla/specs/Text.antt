-- The printed text: a description's shape and names with three lists of cubes, under an output
-- type.
use Rattle.std.specs.Prelude.{ℕ, List, [], ◌∷◌, ◌++◌, Option, None, Some, map, flat_map, sum_by, length, codes, decimal, if◌then◌else◌}
use Rattle.cube.specs.declared.symbol.Symbol.{Symbol}
use Rattle.cube.specs.declared.symbol.Symbol.TheVariants.{Dash, Zero, One}
use Rattle.cube.specs.Cube.{Cube}
use Rattle.pla.specs.declared.out_type.OutType.{OutType}
use Rattle.pla.specs.declared.out_type.OutType.TheVariants.{F, Fd, Fr, Fdr}
use Rattle.pla.specs.Description.{Description}
use Rattle.pla.specs.Sets.{SetLists}

-- if names were given, the keyword, and each name after a space
abbrev pub names_text : List ℕ → Option (List (List ℕ)) → List ℕ
names_text keyword None = []
names_text keyword (Some names) = keyword ++ flat_map (λ name. 32 ∷ name) names ++ codes "\n"

-- the type, unless it is f
abbrev pub type_text : OutType → List ℕ
type_text F = []
type_text Fd = codes ".type fd\n"
type_text Fr = codes ".type fr\n"
type_text Fdr = codes ".type fdr\n"

-- the lists that a type prints, in their order, each behind the byte of an output in the cube: `1`,
-- `-` or `0`
abbrev pub sections : OutType → SetLists → List (ℕ × List Cube)
sections F lists = (49, lists.on) ∷ []
sections Fd lists = (49, lists.on) ∷ (45, lists.dc) ∷ []
sections Fr lists = (49, lists.on) ∷ (48, lists.off) ∷ []
sections Fdr lists = (49, lists.on) ∷ (45, lists.dc) ∷ (48, lists.off) ∷ []

-- the byte of an output that is not in the cube: `0` or `~`
abbrev pub elsewhere : OutType → ℕ
elsewhere F = 48
elsewhere _ = 126

-- the byte of an input: `-`, `0` or `1`
abbrev pub symbol_byte : Symbol → ℕ
symbol_byte Dash = 45
symbol_byte Zero = 48
symbol_byte One = 49

-- a row: the inputs, a space and the outputs
abbrev pub row_text : ℕ → ℕ → Cube → List ℕ
row_text mark other c =
    map symbol_byte c.symbols ++ 32 ∷ map (λ b. if b then mark else other) c.outputs ++ codes "\n"

-- the rows of a list
abbrev pub rows_text : ℕ → ℕ × List Cube → List ℕ
rows_text other section = flat_map (row_text section.0 other) section.1

-- the whole text
abbrev pub text_of : Description → OutType → SetLists → List ℕ
text_of d out_type lists =
    codes ".i " ++ decimal d.size.inputs ++ codes "\n.o " ++ decimal d.size.outputs ++ codes "\n"
    ++ names_text (codes ".ilb") d.input_names ++ names_text (codes ".ob") d.output_names
    ++ type_text out_type
    ++ codes ".p " ++ decimal (sum_by (λ section. length section.1) (sections out_type lists))
    ++ codes "\n"
    ++ flat_map (rows_text (elsewhere out_type)) (sections out_type lists) ++ codes ".e\n"
