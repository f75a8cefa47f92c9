-- The command that the parse reads, built.
use Rattle.std.proofs.Common.{◌≡◌, ◌∙◌, ◌||◌, ℕ, Bool, cond, true, false, refl, ap, List, [], ◌∷◌, Option, Some, None}
use Rattle.std.specs.List.{fold}
use Rattle.std.specs.Option.{is_some}
use Rattle.std.specs.Prelude.{codes}
use Rattle.clap.specs.Walk.{Held, Row, Rule, Text, Walk, finished, rows_after, has_row, is_empty, nothing_held, default_rows, reading_by, settled, walk, walk_from, walked, with_default}
use Rattle.clap.specs.Simple.{App, Shape, built, entered, matches_of, names_of, new_shape}
use Rattle.clap.specs.Kinds.{Kinds, or_else}
use Rattle.clap.specs.Faults.{built_fault, defaults_fault, entered_fault, given_default_fault, fault_of, is_simple_and_free, level_fault, settle_fault, walk_fault}
use Rattle.clap.specs.declared.builder.action.ArgAction.{ArgAction}
use Rattle.clap.specs.declared.builder.action.ArgAction.TheVariants.{Append, Set, SetTrue}
use Rattle.clap.specs.declared.builder.value_parser.ValueParser.TheVariants as vp
use Rattle.espresso.specs.Words.{Letter, command_letter, type_letter, eat_letter}
use Rattle.espresso.specs.Parser.{espresso_app}

abbrev pub rule_with : Text → Option ℕ → ArgAction → Option ℕ → Rule
rule_with id letter action index = record {
  id = id;
  long = None;
  aliases = [];
  short = letter;
  short_aliases = [];
  index = index;
  action = Some action;
  range = Some (record { start_inclusive = 1; end_inclusive = 1 });
  value_names = 0;
  defaults = [];
  missing = [];
  trailing_var_arg = false;
  parser = Some vp.String;
  ignore_case = false;
  required = false;
  is_simple = true;
  is_free = true;
}

abbrev pub id_of : Letter → Text
id_of command_letter = codes "command"
id_of type_letter = codes "type"
id_of eat_letter = codes "eat"

abbrev pub code_of : Letter → ℕ
code_of command_letter = 68
code_of type_letter = 111
code_of eat_letter = 101

abbrev pub rule_for : Letter → Rule
rule_for l = rule_with (id_of l) (Some (code_of l)) Set None

abbrev pub files_id : Text
files_id = codes "files"

abbrev pub files_rule : Rule
files_rule = rule_with files_id None Append (Some 1)

abbrev pub choice_id : Text
choice_id = codes "literals"

abbrev pub choice_rule : Rule
choice_rule = record (rule_with choice_id None SetTrue None) {
  long = Some (codes "literals");
  range = Some (record { start_inclusive = 0; end_inclusive = 0 });
  defaults = codes "false" ∷ [];
  missing = codes "true" ∷ [];
  parser = Some vp.Bool;
}

abbrev pub our_rules : List Rule
our_rules = rule_for command_letter ∷ rule_for type_letter ∷ rule_for eat_letter ∷ files_rule ∷ choice_rule ∷ []

abbrev pub our_shape : Shape
our_shape = record (new_shape (codes "espresso")) {
  rules = our_rules;
  no_binary_name = true;
  disable_help_flag = true;
  disable_help_subcommand = true;
  disable_version_flag = true;
  is_built = true;
}

abbrev pub our_built : App
our_built = record { top = our_shape; subs = [] }

pub built_is : built espresso_app ≡ our_built
built_is = refl

pub simple_is : is_simple_and_free espresso_app ≡ true
simple_is = refl

-- the faults of the words from a place of the walk on, and the rows at its end
abbrev pub faults : Walk → List Text → Kinds
faults w words = or_else (walk_fault our_shape [] w words) (settle_fault our_rules false (fold (walked our_rules []) w words).held)

abbrev pub rows_from : Walk → List Text → List Row
rows_from w words = (settled our_rules (fold (walked our_rules []) w words).held).rows

default_at : (rows : List Row) (a : Rule) (defaults : List Text) → defaults ≡ [] → cond (has_row a.id rows) rows (default_rows a.id (reading_by a) defaults rows) ≡ rows
default_at rows a defaults none = ap (λ d. cond (has_row a.id rows) rows (default_rows a.id (reading_by a) d rows)) none ∙ go (has_row a.id rows)
  where
    go : (b : Bool) → cond b rows rows ≡ rows
    go true = refl
    go false = refl

default_none : (rows : List Row) (a : Rule) → a.defaults ≡ [] → with_default rows a ≡ rows
default_none rows a none = default_at rows a a.defaults none

fault_at : (rows : List Row) (a : Rule) (defaults : List Text) → defaults ≡ [] → cond (has_row a.id rows || is_empty defaults) [] (given_default_fault a defaults) ≡ []
fault_at rows a defaults none = ap (λ d. cond (has_row a.id rows || is_empty d) [] (given_default_fault a d)) none ∙ go (has_row a.id rows)
  where
    go : (b : Bool) → cond (b || true) [] (given_default_fault a []) ≡ []
    go true = refl
    go false = refl

defaults_more : (rows : List Row) (a : Rule) (rules : List Rule) → a.defaults ≡ [] → defaults_fault rows rules ≡ [] → defaults_fault rows (a ∷ rules) ≡ []
unfolding defaults_fault
defaults_more rows a rules none e = ap (λ k. or_else k (defaults_fault (with_default rows a) rules)) (fault_at rows a a.defaults none)
    ∙ ap (λ rs. defaults_fault rs rules) (default_none rows a none) ∙ e

choice_default : (rows : List Row) → defaults_fault rows (choice_rule ∷ []) ≡ []
unfolding defaults_fault
choice_default rows = go (has_row choice_id rows)
  where
    go : (b : Bool) → or_else (cond (b || false) [] []) [] ≡ []
    go true = refl
    go false = refl

defaults_none : (rows : List Row) → defaults_fault rows our_rules ≡ []
defaults_none rows = defaults_more rows (rule_for command_letter) (rule_for type_letter ∷ rule_for eat_letter ∷ files_rule ∷ choice_rule ∷ []) refl
    (defaults_more rows (rule_for type_letter) (rule_for eat_letter ∷ files_rule ∷ choice_rule ∷ []) refl
    (defaults_more rows (rule_for eat_letter) (files_rule ∷ choice_rule ∷ []) refl
    (defaults_more rows files_rule (choice_rule ∷ []) refl (choice_default rows))))

pub or_else-nil : (k : Kinds) → or_else k [] ≡ k
or_else-nil [] = refl
or_else-nil (x ∷ xs) = refl

pub fault_is : (words : List Text) → fault_of espresso_app words ≡ faults (walk_from nothing_held) words
fault_is words = ap (λ a. built_fault a nothing_held words) built_is ∙ go (walk our_rules [] nothing_held words).stopped ∙ level
  where
    go : (failure : Option (Text × List Text)) → level_fault our_shape [] nothing_held words (is_some (entered our_built failure)) (entered_fault our_built failure)
        ≡ level_fault our_shape [] nothing_held words false []
    go None = refl
    go (Some p) = refl

    end : Held
    end = (walk our_rules [] nothing_held words).held

    level : level_fault our_shape [] nothing_held words false [] ≡ faults (walk_from nothing_held) words
    level = ap (λ k. or_else (walk_fault our_shape [] (walk_from nothing_held) words) (or_else (settle_fault our_rules false (walk our_rules [] nothing_held words).held) (or_else k [])))
        (defaults_none (settled our_rules (walk our_rules [] nothing_held words).held).rows)
        ∙ ap (or_else (walk_fault our_shape [] (walk_from nothing_held) words)) (or_else-nil (settle_fault our_rules false (walk our_rules [] nothing_held words).held))

finished_is : (h : Held) → finished our_rules h ≡ with_default (settled our_rules h).rows choice_rule
finished_is h = go (settled our_rules h).rows
  where
    go : (rows : List Row) → fold with_default rows our_rules ≡ with_default rows choice_rule
    go rows = ap (λ rs. with_default (with_default (with_default (with_default rs (rule_for type_letter)) (rule_for eat_letter)) files_rule) choice_rule) (default_none rows (rule_for command_letter) refl)
        ∙ ap (λ rs. with_default (with_default (with_default rs (rule_for eat_letter)) files_rule) choice_rule) (default_none rows (rule_for type_letter) refl)
        ∙ ap (λ rs. with_default (with_default rs files_rule) choice_rule) (default_none rows (rule_for eat_letter) refl)
        ∙ ap (λ rs. with_default rs choice_rule) (default_none rows files_rule refl)

pub matches_are : (words : List Text) → matches_of espresso_app words ≡ with_default (rows_from (walk_from nothing_held) words) choice_rule
matches_are words = ap (λ (a : App). rows_after a.top.rules (names_of a) words) built_is ∙ finished_is (walk our_rules [] nothing_held words).held
