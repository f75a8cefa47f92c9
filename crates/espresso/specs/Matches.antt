-- What the matches of a parse say.
use Rattle.std.specs.Prelude.{ℕ, Bool, true, false, List, [], Option, Some, codes, option_map, option_and_then, unwrap_or}
use Rattle.std.specs.Option.{option_map_or}
use Rattle.std.specs.Str.{bytes_eq}
use Rattle.clap.specs.Matches.{first_value, matched_of, raw_values}
use Rattle.clap.specs.declared.parser.matches.Found.{Found}
use Rattle.covering.specs.declared.choice.Choice.{Choice}
use Rattle.covering.specs.declared.choice.Choice.TheVariants.{First, Literals}
use Rattle.pla.specs.declared.out_type.OutType.TheVariants.{F}
use Rattle.espresso.specs.Words.{Request, command_named, eat_named, request, type_named}

-- the file words that the parse found
abbrev pub files_in : Found → List (List ℕ)
files_in f = unwrap_or (option_map raw_values (matched_of f (codes "files"))) []

-- the choice that `--literals` makes, or its want
abbrev pub choice_by : Bool → Choice
choice_by true = Literals
choice_by false = First

-- the choice that the parse found: its flag has the word `true` if it stands
abbrev pub choice_in : Found → Choice
choice_in f =
    choice_by
    (option_map_or (λ t. bytes_eq t (codes "true")) (first_value f (codes "literals")) false)

-- the line that the parse found, by the values of its options and its files
abbrev pub request_in : Found → Option Request
request_in f = request (option_and_then command_named (first_value f (codes "command")))
    (option_map_or type_named (first_value f (codes "type")) (Some F))
    (option_map_or eat_named (first_value f (codes "eat")) (Some false))
    (Some (choice_in f)) (files_in f)
