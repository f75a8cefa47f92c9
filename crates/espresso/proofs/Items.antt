-- The items of a command line, and the rows of the walk that show them.
use Rattle.std.proofs.Common.{◌≡◌, ◌∙◌, ◌≤◌, Bool, cond, true, false, refl, sym, ap, subst, arith, List, [], ◌∷◌, ◌++◌, Option, Some, None, true≢false, length, append-nil}
use Rattle.std.proofs.lemmas.List.{length-append}
use Rattle.std.specs.Option.{unwrap_or}
use Rattle.std.specs.Str.{bytes_eq}
use Rattle.clap.specs.Walk.{Row, Text, all_of, used}
use Rattle.std.proofs.Common.{◌+◌, ℕ, zero, suc}
use Rattle.std.specs.Prelude.{codes}
use Rattle.espresso.specs.Words.{choice_by_count, choices_of, fewest, Item, Letter, command_letter, type_letter, eat_letter, option, file, dashes, unknown, same_letter, values_of, files_of, value_once, request, request_of, command_named, type_named, eat_named}
use Rattle.espresso.specs.declared.command.Command.{Command}
use Rattle.covering.specs.declared.choice.Choice.{Choice}
use Rattle.pla.specs.declared.out_type.OutType.{OutType}
use Rattle.pla.specs.declared.out_type.OutType.TheVariants.{F}
use Rattle.espresso.proofs.Rows.{with_values-same, with_values-other}
use Rattle.espresso.proofs.Built.{choice_id, files_id, files_rule, id_of}

pub values-append : (l : Letter) (xs ys : List Item) → values_of l (xs ++ ys) ≡ values_of l xs ++ values_of l ys
values-append l [] ys = refl
values-append l (option k v ∷ xs) ys = go (same_letter k l) (values-append l xs ys)
  where
    go : (b : Bool) → values_of l (xs ++ ys) ≡ values_of l xs ++ values_of l ys
        → cond b (v ∷ values_of l (xs ++ ys)) (values_of l (xs ++ ys)) ≡ cond b (v ∷ values_of l xs) (values_of l xs) ++ values_of l ys
    go true e = ap (λ t. v ∷ t) e
    go false e = e
values-append l (fewest ∷ xs) ys = values-append l xs ys
values-append l (file f ∷ xs) ys = values-append l xs ys
values-append l (dashes ∷ xs) ys = values-append l xs ys
values-append l (unknown ∷ xs) ys = values-append l xs ys

pub files-append : (xs ys : List Item) → files_of (xs ++ ys) ≡ files_of xs ++ files_of ys
files-append [] ys = refl
files-append (option k v ∷ xs) ys = files-append xs ys
files-append (fewest ∷ xs) ys = files-append xs ys
files-append (file f ∷ xs) ys = ap (λ t. f ∷ t) (files-append xs ys)
files-append (dashes ∷ xs) ys = files-append xs ys
files-append (unknown ∷ xs) ys = files-append xs ys

pub choices-append : (xs ys : List Item) → choices_of (xs ++ ys) ≡ choices_of xs + choices_of ys
choices-append [] ys = omega arith
choices-append (option k v ∷ xs) ys = choices-append xs ys
choices-append (fewest ∷ xs) ys = omega (arith, choices-append xs ys)
choices-append (file f ∷ xs) ys = choices-append xs ys
choices-append (dashes ∷ xs) ys = choices-append xs ys
choices-append (unknown ∷ xs) ys = choices-append xs ys

-- ---- items that say no line

-- the values of this option are refused
abbrev pub Refuses : Letter → List Text → Type 0
Refuses command_letter vs = value_once command_named None vs ≡ None
Refuses type_letter vs = value_once type_named (Some F) vs ≡ None
Refuses eat_letter vs = value_once eat_named (Some false) vs ≡ None

no_type : (a : Option Command) (e : Option Bool) (n : Option Choice) (files : List Text) → request a None e n files ≡ None
no_type None e n files = refl
no_type (Some a) e n files = refl

no_eat : (a : Option Command) (o : Option OutType) (n : Option Choice) (files : List Text) → request a o None n files ≡ None
no_eat None o n files = refl
no_eat (Some a) None n files = refl
no_eat (Some a) (Some o) n files = refl

no_choice : (a : Option Command) (o : Option OutType) (e : Option Bool) (files : List Text) → request a o e None files ≡ None
no_choice None o e files = refl
no_choice (Some a) None e files = refl
no_choice (Some a) (Some o) None files = refl
no_choice (Some a) (Some o) (Some e) files = refl

module _ (items : List Item) where
  pub choice-refused : choice_by_count (choices_of items) ≡ None → request_of items ≡ None
  choice-refused e = ap (λ n. request (value_once command_named None (values_of command_letter items)) (value_once type_named (Some F) (values_of type_letter items)) (value_once eat_named (Some false) (values_of eat_letter items)) n (files_of items)) e
      ∙ no_choice (value_once command_named None (values_of command_letter items)) (value_once type_named (Some F) (values_of type_letter items)) (value_once eat_named (Some false) (values_of eat_letter items)) (files_of items)

pub request-refused : (l : Letter) (items : List Item) → Refuses l (values_of l items) → request_of items ≡ None
request-refused command_letter items e = ap (λ a. request a (value_once type_named (Some F) (values_of type_letter items)) (value_once eat_named (Some false) (values_of eat_letter items)) (choice_by_count (choices_of items)) (files_of items)) e
request-refused type_letter items e = ap (λ o. request (value_once command_named None (values_of command_letter items)) o (value_once eat_named (Some false) (values_of eat_letter items)) (choice_by_count (choices_of items)) (files_of items)) e
    ∙ no_type (value_once command_named None (values_of command_letter items)) (value_once eat_named (Some false) (values_of eat_letter items)) (choice_by_count (choices_of items)) (files_of items)
request-refused eat_letter items e = ap (λ b. request (value_once command_named None (values_of command_letter items)) (value_once type_named (Some F) (values_of type_letter items)) b (choice_by_count (choices_of items)) (files_of items)) e
    ∙ no_eat (value_once command_named None (values_of command_letter items)) (value_once type_named (Some F) (values_of type_letter items)) (choice_by_count (choices_of items)) (files_of items)

twice_chosen : (n : ℕ) → 2 ≤ n → choice_by_count n ≡ None
twice_chosen zero h = absurd (omega arith)
twice_chosen (suc zero) h = absurd (omega arith)
twice_chosen (suc (suc n)) h = refl

twice : (l : Letter) (vs : List Text) → 2 ≤ length vs → Refuses l vs
twice l [] h = absurd (omega arith)
twice l (v ∷ []) h = absurd (omega arith)
twice command_letter (v ∷ w ∷ vs) h = refl
twice type_letter (v ∷ w ∷ vs) h = refl
twice eat_letter (v ∷ w ∷ vs) h = refl

hyphened : (l : Letter) (v : Text) → Refuses l ((45 ∷ v) ∷ [])
hyphened command_letter v = refl
hyphened type_letter v = refl
hyphened eat_letter v = refl

-- no line begins with these items
abbrev pub Spoilt : List Item → Type 0
Spoilt items = (more : List Item) → request_of (items ++ more) ≡ None

same-letter : (l : Letter) → same_letter l l ≡ true
same-letter command_letter = refl
same-letter type_letter = refl
same-letter eat_letter = refl

pub values-one : (l : Letter) (v : Text) → values_of l (option l v ∷ []) ≡ v ∷ []
values-one l v = ap (λ b. cond b (v ∷ []) []) (same-letter l)

values-more : (l : Letter) (v : Text) (xs more : List Item) → values_of l ((xs ++ option l v ∷ []) ++ more) ≡ (values_of l xs ++ v ∷ []) ++ values_of l more
values-more l v xs more = values-append l (xs ++ option l v ∷ []) more
    ∙ ap (λ t. t ++ values_of l more) (values-append l xs (option l v ∷ []) ∙ ap (λ t. values_of l xs ++ t) (values-one l v))

pub spoilt-twice : (l : Letter) (v : Text) (xs : List Item) → 1 ≤ length (values_of l xs) → Spoilt (xs ++ option l v ∷ [])
spoilt-twice l v xs h more = request-refused l ((xs ++ option l v ∷ []) ++ more) (twice l (values_of l ((xs ++ option l v ∷ []) ++ more)) (omega (arith, ap length (values-more l v xs more), length-append (values_of l xs ++ v ∷ []) (values_of l more), length-append (values_of l xs) (v ∷ []), h)))

pub spoilt-hyphen : (l : Letter) (v : Text) (xs : List Item) → Spoilt (xs ++ option l (45 ∷ v) ∷ [])
spoilt-hyphen l v xs more = request-refused l ((xs ++ option l (45 ∷ v) ∷ []) ++ more) (subst (Refuses l) (sym (values-more l (45 ∷ v) xs more)) (go (values_of l xs) (values_of l more)))
  where
    go : (olds bs : List Text) → Refuses l ((olds ++ (45 ∷ v) ∷ []) ++ bs)
    go [] [] = hyphened l v
    go [] (b ∷ bs) = twice l ((45 ∷ v) ∷ b ∷ bs) (omega arith)
    go (a ∷ olds) bs = twice l (((a ∷ olds) ++ (45 ∷ v) ∷ []) ++ bs) (omega (arith, length-append (olds ++ (45 ∷ v) ∷ []) bs, length-append olds ((45 ∷ v) ∷ [])))

pub spoilt-choice : (xs : List Item) → 1 ≤ choices_of xs → Spoilt (xs ++ fewest ∷ [])
spoilt-choice xs h more = choice-refused ((xs ++ fewest ∷ []) ++ more) (twice_chosen (choices_of ((xs ++ fewest ∷ []) ++ more))
    (omega (arith, choices-append (xs ++ fewest ∷ []) more, choices-append xs (fewest ∷ []))))

-- ---- the rows that show items

abbrev pub shown_choice : ℕ → Option (List Text)
shown_choice zero = None
shown_choice (suc n) = Some (codes "true" ∷ [])

abbrev pub listed : List Text → Option (List Text)
listed [] = None
listed (v ∷ vs) = Some (v ∷ vs)

pub record Shows (items : List Item) (rows : List Row) : Type 0 where
  pub options : (l : Letter) → all_of (id_of l) rows ≡ listed (values_of l items)
  pub files : all_of files_id rows ≡ listed (files_of items)
  pub choice : all_of choice_id rows ≡ shown_choice (choices_of items)
  pub once : (l : Letter) → length (values_of l items) ≤ 1
  pub once_chosen : choices_of items ≤ 1

pub nothing_shown : Shows [] []
nothing_shown = record { options = λ l. refl; files = refl; choice = refl; once = λ l. omega arith; once_chosen = omega arith }

pub ids_differ : (l k : Letter) → same_letter l k ≡ false → bytes_eq (id_of l) (id_of k) ≡ false
ids_differ command_letter command_letter e = absurd (true≢false e)
ids_differ command_letter type_letter e = refl
ids_differ command_letter eat_letter e = refl
ids_differ type_letter command_letter e = refl
ids_differ type_letter type_letter e = absurd (true≢false e)
ids_differ type_letter eat_letter e = refl
ids_differ eat_letter command_letter e = refl
ids_differ eat_letter type_letter e = refl
ids_differ eat_letter eat_letter e = absurd (true≢false e)

pub same_letter-is : (l k : Letter) → same_letter l k ≡ true → l ≡ k
same_letter-is command_letter command_letter e = refl
same_letter-is command_letter type_letter e = absurd (true≢false (sym e))
same_letter-is command_letter eat_letter e = absurd (true≢false (sym e))
same_letter-is type_letter command_letter e = absurd (true≢false (sym e))
same_letter-is type_letter type_letter e = refl
same_letter-is type_letter eat_letter e = absurd (true≢false (sym e))
same_letter-is eat_letter command_letter e = absurd (true≢false (sym e))
same_letter-is eat_letter type_letter e = absurd (true≢false (sym e))
same_letter-is eat_letter eat_letter e = refl

pub not_files : (l : Letter) → bytes_eq (id_of l) files_id ≡ false
not_files command_letter = refl
not_files type_letter = refl
not_files eat_letter = refl

files_not : (l : Letter) → bytes_eq files_id (id_of l) ≡ false
files_not command_letter = refl
files_not type_letter = refl
files_not eat_letter = refl

pub listed-unlisted : (xs : List Text) → unwrap_or (listed xs) [] ≡ xs
listed-unlisted [] = refl
listed-unlisted (x ∷ xs) = refl

listed-more : (xs : List Text) (f : Text) → Some (xs ++ f ∷ []) ≡ listed (xs ++ f ∷ [])
listed-more [] f = refl
listed-more (x ∷ xs) f = refl

pub not_choice : (l : Letter) → bytes_eq (id_of l) choice_id ≡ false
not_choice command_letter = refl
not_choice type_letter = refl
not_choice eat_letter = refl

pub choice_not : (l : Letter) → bytes_eq choice_id (id_of l) ≡ false
choice_not command_letter = refl
choice_not type_letter = refl
choice_not eat_letter = refl

-- ---- one more item

pub file_shown : (items : List Item) (rows : List Row) (f : Text) → Shows items rows → Shows (items ++ file f ∷ []) (used files_rule (f ∷ []) rows)
file_shown items rows f s = record {
  options = λ l. with_values-other files_id _ _ (f ∷ []) (id_of l) (files_not l) rows ∙ s.options l
      ∙ ap listed (sym (values-append l items (file f ∷ []) ∙ append-nil (values_of l items)));
  files = with_values-same files_id _ _ (f ∷ []) rows ∙ ap (λ o. Some (unwrap_or o [] ++ f ∷ [])) s.files
      ∙ ap (λ xs. Some (xs ++ f ∷ [])) (listed-unlisted (files_of items)) ∙ listed-more (files_of items) f
      ∙ ap listed (sym (files-append items (file f ∷ [])));
  choice = with_values-other files_id _ _ (f ∷ []) choice_id refl rows ∙ s.choice
      ∙ ap shown_choice (let same : choices_of (items ++ file f ∷ []) ≡ choices_of items = omega (arith, choices-append items (file f ∷ [])) in sym same);
  once_chosen = omega (arith, choices-append items (file f ∷ []), s.once_chosen);
  once = λ l. omega (arith, ap length (values-append l items (file f ∷ []) ∙ append-nil (values_of l items)), s.once l);
}
