-- What a parse by the command says of the words.
use Rattle.std.proofs.Common.{◌≡◌, ◌∙◌, ◌≤◌, inl, inr, true, false, refl, sym, ap, subst, arith, List, [], ◌∷◌, map, Option, Some, None, true≢false, length}
use Rattle.std.specs.List.{find}
use Rattle.std.specs.Option.{unwrap_or, option_and_then, option_map, option_map_or}
use Rattle.std.specs.Prelude.{Result, Ok, Err, String, codes, slice_get, string_bytes}
use Rattle.std.specs.Str.{bytes_eq}
use Rattle.std.proofs.lemmas.Str.{IsUtf8-string_bytes}
use Rattle.clap.specs.Walk.{Row, Text, all_of, first_of, nothing_held, rows_of, walk_from}
use Rattle.clap.specs.Kinds.{HasKind, IsAmong, Kinds}
use Rattle.clap.specs.Simple.{App, HasMatchesOf, is_simple, matches_of}
use Rattle.clap.specs.Faults.{fault_of, is_simple_and_free}
use Rattle.clap.specs.Values.{kind_of}
use Rattle.clap.specs.Matches.{first_value, found_of}
use Rattle.clap.specs.declared.error.Error.{Error}
use Rattle.clap.specs.declared.error.kind.ErrorKind.{ErrorKind}
use Rattle.clap.specs.declared.error.kind.ErrorKind.TheVariants.{OutOfMemory}
use Rattle.clap.specs.declared.parser.matches.ArgMatches.{ArgMatches}
use Rattle.espresso.specs.declared.line.LineFault.{LineFault}
use Rattle.espresso.specs.declared.line.LineFault.TheVariants.{Usage}
use Rattle.clap.specs.declared.parser.matches.Found.{Found}
use Rattle.clap.proofs.WalkLemmas.{first_value-rows, raw_values-rows}
use Rattle.std.proofs.Common.{Bool, ℕ, cond, zero, suc, ◌++◌}
use Rattle.std.specs.Option.{is_some}
use Rattle.clap.specs.Walk.{default_rows, has_row, reading_by, with_default}
use Rattle.espresso.specs.Matches.{choice_by, choice_in}
use Rattle.espresso.proofs.Rows.{has_row-all_of, with_values-other, with_values-same}
use Rattle.espresso.proofs.Built.{choice_id, choice_rule, rows_from}
use Rattle.espresso.proofs.Items.{choice_not, shown_choice}
use Rattle.espresso.specs.Words.{choice_by_count, choices_of, Item, Letter, command_letter, type_letter, eat_letter, command_named, eat_named, type_named, items_from, line_of, request, request_of, value_once, values_of, files_of}
use Rattle.espresso.specs.Parser.{espresso_app}
use Rattle.espresso.specs.Matches.{files_in, request_in}
use Rattle.pla.specs.declared.out_type.OutType.TheVariants.{F}
use Rattle.espresso.proofs.Built.{simple_is, fault_is, files_id, id_of, matches_are}
use Rattle.espresso.proofs.Steps.{is_clean, nothing}
use Rattle.espresso.proofs.Items.{Shows, listed, listed-unlisted, nothing_shown}
use Rattle.espresso.proofs.Reading.{AllUtf8, Ends, reads, stands_idle}

pub ends : (words : List Text) → AllUtf8 words → Ends [] (walk_from nothing_held) (items_from None words) words
ends words u = (reads words u).0 [] [] None nothing (stands_idle [] [] nothing_shown)

-- the words of strings are text
pub all_utf8 : {Z : Type 0} (words : List (String Z)) → AllUtf8 (map string_bytes words)
all_utf8 [] = tt
all_utf8 (w ∷ ws) = (IsUtf8-string_bytes w, all_utf8 ws)

-- words that the parse refuses say no line
pub refused_line : (words : List Text) → AllUtf8 words → is_clean (fault_of espresso_app words) ≡ false → line_of words ≡ None
refused_line words u e = go (ends words u)
  where
    go : Ends [] (walk_from nothing_held) (items_from None words) words → line_of words ≡ None
    go (inl r) = absurd (true≢false (sym (ap is_clean (fault_is words ∙ r.clean)) ∙ e))
    go (inr r) = r.none

first_all : (id : Text) (rows : List Row) → first_of id rows ≡ option_and_then (λ (vs : List Text). slice_get vs 0) (all_of id rows)
first_all id rows = go (find (λ r. bytes_eq r.id id) rows)
  where
    go : (o : Option Row) → option_and_then (λ (r : Row). slice_get r.values 0) o ≡ option_and_then (λ (vs : List Text). slice_get vs 0) (option_map (λ (r : Row). r.values) o)
    go None = refl
    go (Some r) = refl

listed_first : (vs : List Text) → option_and_then (λ (us : List Text). slice_get us 0) (listed vs) ≡ slice_get vs 0
listed_first [] = refl
listed_first (v ∷ vs) = refl

value_once-first : {X : Type 0} (named : Text → Option X) (missing : Option X) (vs : List Text) → length vs ≤ 1 → value_once named missing vs ≡ option_map_or named (slice_get vs 0) missing
value_once-first named missing [] h = refl
value_once-first named missing (v ∷ []) h = refl
value_once-first named missing (v ∷ w ∷ vs) h = absurd (omega arith)

map_or-and_then : {X : Type 0} (named : Text → Option X) (o : Option Text) → option_map_or named o None ≡ option_and_then named o
map_or-and_then named None = refl
map_or-and_then named (Some v) = refl

abbrev flag_text : ℕ → Text
flag_text zero = codes "false"
flag_text (suc n) = codes "true"

-- the rows at the end, with the default of `--literals`
record Final (items : List Item) (rows : List Row) : Type 0 where
  options : (l : Letter) → all_of (id_of l) rows ≡ listed (values_of l items)
  files : all_of files_id rows ≡ listed (files_of items)
  choice : all_of choice_id rows ≡ Some (flag_text (choices_of items) ∷ [])
  once : (l : Letter) → length (values_of l items) ≤ 1
  once_chosen : choices_of items ≤ 1

default_other : (id : Text) (rows : List Row) → bytes_eq choice_id id ≡ false → all_of id (with_default rows choice_rule) ≡ all_of id rows
default_other id rows ne = go (has_row choice_id rows)
  where
    go : (b : Bool) → all_of id (cond b rows (default_rows choice_id (reading_by choice_rule) (codes "false" ∷ []) rows)) ≡ all_of id rows
    go true = refl
    go false = with_values-other choice_id _ _ (codes "false" ∷ []) id ne rows

default_choice : (n : ℕ) (rows : List Row) → all_of choice_id rows ≡ shown_choice n → all_of choice_id (with_default rows choice_rule) ≡ Some (flag_text n ∷ [])
default_choice zero rows e =
    let absent : has_row choice_id rows ≡ false = has_row-all_of choice_id rows ∙ ap is_some e in
    ap (λ b. all_of choice_id (cond b rows (default_rows choice_id (reading_by choice_rule) (codes "false" ∷ []) rows))) absent
    ∙ with_values-same choice_id _ _ (codes "false" ∷ []) rows ∙ ap (λ o. Some (unwrap_or o [] ++ codes "false" ∷ [])) e
default_choice (suc n) rows e =
    let present : has_row choice_id rows ≡ true = has_row-all_of choice_id rows ∙ ap is_some e in
    ap (λ b. all_of choice_id (cond b rows (default_rows choice_id (reading_by choice_rule) (codes "false" ∷ []) rows))) present ∙ e

finishes : (items : List Item) (rows : List Row) → Shows items rows → Final items (with_default rows choice_rule)
finishes items rows s = record {
  options = λ l. default_other (id_of l) rows (choice_not l) ∙ s.options l;
  files = default_other files_id rows refl ∙ s.files;
  choice = default_choice (choices_of items) rows s.choice;
  once = s.once;
  once_chosen = s.once_chosen;
}

is_chosen : (n : ℕ) → n ≤ 1 → choice_by_count n ≡ Some (choice_by (bytes_eq (flag_text n) (codes "true")))
is_chosen zero h = refl
is_chosen (suc zero) h = refl
is_chosen (suc (suc n)) h = absurd (omega arith)

module _ (f : Found) (items : List Item) (s : Final items (rows_of f)) where
  choice_is : choice_by_count (choices_of items) ≡ Some (choice_in f)
  choice_is = is_chosen (choices_of items) s.once_chosen ∙ ap (λ o. Some (choice_by (option_map_or (λ t. bytes_eq t (codes "true")) o false)))
      (sym (first_value-rows f choice_id ∙ first_all choice_id (rows_of f) ∙ ap (option_and_then (λ (us : List Text). slice_get us 0)) s.choice))

  value_is : (l : Letter) → slice_get (values_of l items) 0 ≡ first_value f (id_of l)
  value_is l = sym (first_value-rows f (id_of l) ∙ first_all (id_of l) (rows_of f) ∙ ap (option_and_then (λ (us : List Text). slice_get us 0)) (s.options l) ∙ listed_first (values_of l items))

  files_are : files_of items ≡ files_in f
  files_are = sym (ap (λ o. unwrap_or o []) (raw_values-rows f files_id ∙ s.files) ∙ listed-unlisted (files_of items))

  value_once_is : {X : Type 0} (named : Text → Option X) (missing : Option X) (l : Letter) → value_once named missing (values_of l items) ≡ option_map_or named (first_value f (id_of l)) missing
  value_once_is named missing l = value_once-first named missing (values_of l items) (s.once l) ∙ ap (λ o. option_map_or named o missing) (value_is l)

  request_is : request_of items ≡ request_in f
  request_is = λ i. request ((value_once_is command_named None command_letter ∙ map_or-and_then command_named (first_value f (codes "command"))) i)
      (value_once_is type_named (Some F) type_letter i) (value_once_is eat_named (Some false) eat_letter i) (choice_is i) (files_are i)

-- the matches of words that the parse takes say their line
pub taken_line : (words : List Text) → AllUtf8 words → (f : Found) → fault_of espresso_app words ≡ [] → rows_of f ≡ matches_of espresso_app words → line_of words ≡ request_in f
taken_line words u f e same = go (ends words u)
  where
    go : Ends [] (walk_from nothing_held) (items_from None words) words → line_of words ≡ request_in f
    go (inl r) = ap (option_and_then request_of) r.found ∙ request_is f r.more (subst (Final r.more) (sym (same ∙ matches_are words)) (finishes r.more (rows_from (walk_from nothing_held) words) r.shows))
    go (inr r) = absurd (true≢false (sym (ap is_clean e) ∙ ap is_clean (fault_is words) ∙ r.fault))

among-unclean : (k : ErrorKind) (kinds : Kinds) → IsAmong k kinds → is_clean kinds ≡ false
among-unclean k [] h = absurd h
among-unclean k (x ∷ xs) h = refl

-- ---- what `try_get_matches_from` says of a command that is ours

module _ (app : App) (words : List Text) (ours : app ≡ espresso_app) (u : AllUtf8 words) where
  pub line_of_matches : (m : ArgMatches) → (is_simple_and_free app ≡ true → fault_of app words ≡ []) → HasMatchesOf app words m → line_of words ≡ request_in (found_of m)
  line_of_matches m kinds matches = taken_line words u (found_of m)
      (ap (λ a. fault_of a words) (sym ours) ∙ kinds (ap is_simple_and_free ours ∙ simple_is))
      ((matches (ap is_simple ours ∙ refl)).0 ∙ ap (λ a. matches_of a words) ours)

  pub line_of_error : (e : Error) → (is_simple_and_free app ≡ true → HasKind (fault_of app words) e) → (kind_of e ≡ OutOfMemory → ⊥) → line_of words ≡ None
  line_of_error e kinds other = refused_line words u (ap (λ a. is_clean (fault_of a words)) (sym ours) ∙ go (kinds (ap is_simple_and_free ours ∙ simple_is)))
    where
      go : HasKind (fault_of app words) e → is_clean (fault_of app words) ≡ false
      go (inl h) = absurd (other h)
      go (inr h) = among-unclean (kind_of e) (fault_of app words) h

pub usage_is : {T : Type 0} (f : LineFault) → ◌≡◌ {A = Result T LineFault} (Err f) (Err Usage) → f ≡ Usage
usage_is f e = ap (λ r. elim r [ Ok x ↦ f | Err y ↦ y ]) e
