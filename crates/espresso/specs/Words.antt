-- What a list of words asks for.
use Rattle.std.specs.Prelude.{zero, suc, ◌==◌, ◌&&◌, ◌||◌, not, ℕ, Bool, true, false, List, [], ◌∷◌, map}
use Rattle.std.specs.Prelude.{length, nat_le, count_by, codes, Option, Some, None, if◌then◌else◌}
use Rattle.std.specs.Prelude.{option_map, option_and_then}
use Rattle.std.specs.Option.{option_map_or}
use Rattle.std.specs.Str.{bytes_eq}
use Rattle.espresso.specs.declared.command.Command.{Command}
use Rattle.espresso.specs.declared.command.Command.TheVariants.{Echo, Check, Contain, Primes, Essen, Exact, Tautology, Verify, Intersect, Sharp}
use Rattle.covering.specs.declared.choice.Choice.{Choice}
use Rattle.covering.specs.declared.choice.Choice.TheVariants.{First, Literals}
use Rattle.pla.specs.declared.out_type.OutType.{OutType}
use Rattle.pla.specs.declared.out_type.OutType.TheVariants.{F, Fd, Fr, Fdr}

-- a word, or a text, by its bytes
abbrev pub Text : Type 0
Text = List ℕ

-- the options `-D`, `-o` and `-e`
pub data Letter : Type 0 where
  command_letter : Letter
  type_letter : Letter
  eat_letter : Letter

-- the option of a letter, by its code
abbrev pub letter_of : ℕ → Option Letter
letter_of x = if x == 68 then Some command_letter
    else (if x == 111 then Some type_letter
    else (if x == 101 then Some eat_letter else None))

-- what a word before `--` is: a file, an option with what follows its letter, `--literals`, `--`, or
-- an option that is not known. Those but the last two are items of a command line, in which an
-- option has its value
pub data Item : Type 0 where
  file : Text → Item
  option : Letter → Text → Item
  fewest : Item
  dashes : Item
  unknown : Item

-- a word with a hyphen and a letter or another byte
abbrev pub option_of : Option Letter → Text → Text → Item
option_of (Some letter) rest word = option letter rest
option_of None rest word = if bytes_eq word (codes "--") then dashes
    else (if bytes_eq word (codes "--literals") then fewest else unknown)

-- a word that begins with a hyphen (45)
abbrev pub hyphen_item : Text → Item
hyphen_item [] = file (45 ∷ [])
hyphen_item (x ∷ rest) = option_of (letter_of x) rest (45 ∷ x ∷ rest)

-- a word before `--`, by its first bytes
abbrev pub item_of : Text → Item
item_of [] = file []
item_of (x ∷ rest) = if x == 45 then hyphen_item rest else file (x ∷ rest)

-- an option's value in its own word, without one `=` (61) before it
abbrev pub own_value : Text → Option Text
own_value [] = None
own_value (x ∷ rest) = Some (if x == 61 then rest else x ∷ rest)

-- an item before others
abbrev pub with_item : Item → Option (List Item) → Option (List Item)
with_item i = option_map (λ is. i ∷ is)

-- the items from a word on: `next` are those of the words after it, and `waits` those where an
-- option's value is the next word
abbrev pub items_at : Item → List Text → Option (List Item) → (Letter → Option (List Item))
    → Option (List Item)
items_at (file word) after next waits = with_item (file word) next
items_at (option letter rest) after next waits =
    option_map_or (λ v. with_item (option letter v) next) (own_value rest) (waits letter)
items_at fewest after next waits = with_item fewest next
items_at dashes after next waits = Some (map file after)
items_at unknown after next waits = None

-- the items of the words from left to right, if an option may wait for its value
abbrev pub items_from : Option Letter → List Text → Option (List Item)
items_from None [] = Some []
items_from (Some letter) [] = None
items_from None (word ∷ after) =
    items_at (item_of word) after (items_from None after)
    (λ letter. items_from (Some letter) after)
items_from (Some letter) (word ∷ after) = with_item (option letter word) (items_from None after)

-- the options are equal
abbrev pub same_letter : Letter → Letter → Bool
same_letter command_letter command_letter = true
same_letter type_letter type_letter = true
same_letter eat_letter eat_letter = true
same_letter _ _ = false

-- the values of an option, in order
abbrev pub values_of : Letter → List Item → List Text
values_of letter [] = []
values_of letter (option l v ∷ items) =
    if same_letter l letter then v ∷ values_of letter items else values_of letter items
values_of letter (_ ∷ items) = values_of letter items

-- the files, in order
abbrev pub files_of : List Item → List Text
files_of [] = []
files_of (file f ∷ items) = f ∷ files_of items
files_of (_ ∷ items) = files_of items

-- how often `--literals` stands
abbrev pub choices_of : List Item → ℕ
choices_of [] = 0
choices_of (fewest ∷ items) = suc (choices_of items)
choices_of (_ ∷ items) = choices_of items

-- the choice that `--literals` makes if it stands so often: it stands once at most
abbrev pub choice_by_count : ℕ → Option Choice
choice_by_count zero = Some First
choice_by_count (suc zero) = Some Literals
choice_by_count (suc (suc n)) = None

-- the command of a name
abbrev pub command_named : Text → Option Command
command_named name = if bytes_eq name (codes "echo") then Some Echo
    else (if bytes_eq name (codes "check") then Some Check
    else (if bytes_eq name (codes "contain") then Some Contain
    else (if bytes_eq name (codes "primes") then Some Primes
    else (if bytes_eq name (codes "essen") then Some Essen
    else (if bytes_eq name (codes "exact") then Some Exact
    else (if bytes_eq name (codes "tautology") then Some Tautology
    else (if bytes_eq name (codes "verify") then Some Verify
    else (if bytes_eq name (codes "intersect") then Some Intersect
    else (if bytes_eq name (codes "sharp") then Some Sharp else None)))))))))

-- the output type of a name
abbrev pub type_named : Text → Option OutType
type_named name = if bytes_eq name (codes "f") then Some F
    else (if bytes_eq name (codes "fd") then Some Fd
    else (if bytes_eq name (codes "fr") then Some Fr
    else (if bytes_eq name (codes "fdr") then Some Fdr else None)))

-- whether comments are left out, by the one word that `-e` takes
abbrev pub eat_named : Text → Option Bool
eat_named name = if bytes_eq name (codes "eat") then Some true else None

-- what an option with these values says: `missing` if it is not given; it stands once at most
abbrev pub value_once : {X : Type 0} → (Text → Option X) → Option X → List Text → Option X
value_once named missing [] = missing
value_once named missing (v ∷ []) = named v
value_once named missing (v ∷ w ∷ more) = None

-- the command takes two files
abbrev pub takes_two : Command → Bool
takes_two Verify = true
takes_two Intersect = true
takes_two Sharp = true
takes_two _ = false

-- the command takes this type and this choice: two print type f alone, and one makes a choice
abbrev pub allows : Command → OutType → Choice → Bool
allows Exact out choice = true
allows Intersect F First = true
allows Intersect out choice = false
allows Sharp F First = true
allows Sharp out choice = false
allows command out First = true
allows command out Literals = false

-- a type and a choice that the command takes, and as many files as it takes, with standard input
-- once at most
abbrev pub fits : Command → OutType → Choice → List Text → Bool
fits command out choice files = allows command out choice
    && ((if takes_two command then length files == 2 else nat_le (length files) 1)
    && nat_le (count_by (λ f. bytes_eq f (codes "-")) files) 1)

-- what a command line says
pub record Request : Type 0 where
  pub command : Command
  pub out : OutType
  pub eat : Bool
  pub choice : Choice
  pub files : List Text

-- the request of these parts
abbrev pub request_by : Command → OutType → Bool → Choice → List Text → Request
request_by command out eat choice files =
    record { command = command; out = out; eat = eat; choice = choice; files = files }

-- the request of these parts, if each is given and they fit each other
abbrev pub request : Option Command → Option OutType → Option Bool → Option Choice
    → List Text → Option Request
request (Some command) (Some out) (Some eat) (Some choice) files =
    if fits command out choice files then Some (request_by command out eat choice files) else None
request _ _ _ _ _ = None

-- the request of the items
abbrev pub request_of : List Item → Option Request
request_of items = request (value_once command_named None (values_of command_letter items))
    (value_once type_named (Some F) (values_of type_letter items))
    (value_once eat_named (Some false) (values_of eat_letter items)) (choice_by_count (choices_of items))
    (files_of items)

-- the line that the words say, or none if they are refused
abbrev pub line_of : List Text → Option Request
line_of words = option_and_then request_of (items_from None words)
