-- What each keyword means, and what the lines give by their keywords.
use Rattle.std.specs.Prelude.{ℕ, ◌+◌, ◌-◌, ◌*◌, Bool, not, ◌&&◌, List, [], ◌∷◌, ◌++◌, fold, map, nat_le, if◌then◌else◌, Option, Some, None, codes}
use Rattle.std.specs.List.{list_any, list_all}
use Rattle.std.specs.Option.{option_or}
use Rattle.std.specs.Str.{bytes_eq}
use Rattle.std.specs.Borrow.{Bor}
use Rattle.std.specs.Char.{is_ascii_digit}
use Rattle.cube.specs.Limits.{Limits}
use Rattle.cube.specs.Size.{Size}
use Rattle.pla.specs.declared.file_type.FileType.{FileType}
use Rattle.pla.specs.declared.file_type.FileType.TheVariants.{F, Fd, Fr, Fdr}
use Rattle.pla.specs.Lines.{is_empty, keyword, arguments}

-- what slices contain
abbrev pub texts : List (Bor (List ℕ)) → List (List ℕ)
texts slices = map (λ slice. slice.now) slices

-- whether a text is one of these
abbrev pub is_one_of : List (List ℕ) → List ℕ → Bool
is_one_of texts text = list_any (λ t. bytes_eq text t) texts

-- ---- the keywords

-- what may be set once
abbrev pub settings : List (List ℕ)
settings = codes ".i" ∷ codes ".o" ∷ codes ".ilb" ∷ codes ".ob" ∷ codes ".type" ∷ []

-- what ends the description
abbrev pub endings : List (List ℕ)
endings = codes ".e" ∷ codes ".end" ∷ []

-- what espresso knows and this format leaves out
abbrev pub refused_keywords : List (List ℕ)
refused_keywords = codes ".mv" ∷ codes ".label" ∷ codes ".phase" ∷ codes ".pair"
    ∷ codes ".symbolic" ∷ codes ".symbolic-output" ∷ codes ".kiss" ∷ []

-- whether this is the line's keyword
abbrev pub has : List ℕ → List ℕ → Bool
has text line = bytes_eq (keyword line) text

-- whether the description ends with this line
abbrev pub is_ending : List ℕ → Bool
is_ending line = is_one_of endings (keyword line)

-- whether the line's keyword means nothing here: the line is passed on
abbrev pub is_unknown : List ℕ → Bool
is_unknown line = not (is_empty (keyword line))
    && not (is_one_of (settings ++ endings ++ refused_keywords ++ codes ".p" ∷ []) (keyword line))

-- the lines up to and with the first that ends the description
abbrev pub looked_at : List (List ℕ) → List (List ℕ)
looked_at [] = []
looked_at (line ∷ lines) = line ∷ (if is_ending line then [] else looked_at lines)

-- ---- what a line gives

-- the value of decimal digits
abbrev pub number : List ℕ → ℕ
number digits = fold (λ n digit. 10 * n + (digit - 48)) 0 digits

-- one word that is a number in the range
abbrev pub number_within : ℕ → ℕ → List (List ℕ) → Option ℕ
number_within low high (word ∷ []) = if list_all is_ascii_digit word
    && nat_le low (number word) && nat_le (number word) high then Some (number word) else None
number_within low high _ = None

-- one word that names a type
abbrev pub type_by : List (List ℕ) → Option FileType
type_by (word ∷ []) = if bytes_eq word (codes "f") then Some F
    else if bytes_eq word (codes "fd") then Some Fd
    else if bytes_eq word (codes "fr") then Some Fr
    else if bytes_eq word (codes "fdr") then Some Fdr else None
type_by _ = None

-- the number of inputs that the line gives
abbrev pub inputs_on : Limits → List ℕ → Option ℕ
inputs_on limits line = if has (codes ".i") line then number_within 0 limits.inputs (arguments line)
    else None

-- the number of outputs that the line gives
abbrev pub outputs_on : Limits → List ℕ → Option ℕ
outputs_on limits line = if has (codes ".o") line
    then number_within 1 limits.outputs (arguments line) else None

-- the names that the line gives by this keyword
abbrev pub names_on : List ℕ → List ℕ → Option (List (List ℕ))
names_on text line = if has text line then Some (arguments line) else None

-- the type that the line gives
abbrev pub type_on : List ℕ → Option FileType
type_on line = if has (codes ".type") line then type_by (arguments line) else None

-- ---- what the lines give

-- what the first of the lines that gives one gives
abbrev pub first_given : {X : Type 0} → (List ℕ → Option X) → List (List ℕ) → Option X
first_given f [] = None
first_given f (line ∷ lines) = option_or (f line) (first_given f lines)

-- the size, once both numbers are given
abbrev pub size_by : Option ℕ → Option ℕ → Option Size
size_by (Some n) (Some m) = Some (record { inputs = n; outputs = m })
size_by _ _ = None

-- the size that the lines give
abbrev pub size_given : Limits → List (List ℕ) → Option Size
size_given limits lines =
    size_by (first_given (inputs_on limits) lines) (first_given (outputs_on limits) lines)
