-- The walk reads the items of the words, or refuses words that say no line.
use Rattle.std.proofs.Common.{◌≡◌, ◌∙◌, ◌≤◌, ◌⊎◌, inl, inr, ◌==◌, ℕ, Bool, cond, true, false, refl, sym, ap, subst, arith, List, [], ◌∷◌, ◌++◌, map, Option, Some, None, length, append-nil, append_assoc}
use Rattle.std.specs.Option.{is_some, unwrap_or, option_and_then}
use Rattle.std.specs.List.{fold}
use Rattle.std.specs.Prelude.{codes}
use Rattle.std.specs.Str.{IsUtf8, bytes_eq}
use Rattle.std.proofs.lemmas.Bool.{eqb-true}
use Rattle.clap.specs.Walk.{Held, Row, Text, Waiting, Walk, all_of, has_row, idle, positional, settled, used, without}
use Rattle.clap.specs.Walk.{option as waits_for}
use Rattle.clap.specs.Kinds.{or_else}
use Rattle.clap.specs.Faults.{settle_fault, use_fault, walk_fault}
use Rattle.std.proofs.Common.{zero, suc}
use Rattle.espresso.proofs.Items.{choices-append, choice_not, not_choice, shown_choice, spoilt-choice}
use Rattle.espresso.proofs.Refusals.{choice_refused}
use Rattle.espresso.proofs.Steps.{choice_fault, choice_walk}
use Rattle.espresso.proofs.Built.{choice_id, choice_rule}
use Rattle.espresso.specs.Words.{choices_of, fewest, Item, Letter, Request, command_letter, type_letter, eat_letter, option, file, dashes, option_of, unknown, items_at, items_from, letter_of, same_letter, values_of, files_of, request_of, with_item, item_of}
use Rattle.espresso.proofs.Rows.{bytes_eq-true, has_row-all_of, without-none, with_values-same, with_values-other}
use Rattle.espresso.proofs.Built.{code_of, faults, files_id, id_of, our_rules, our_shape, rows_from, rule_for}
use Rattle.espresso.proofs.Steps.{Free, nothing, files, IsPlain, empty, hyphen, other, at, hold, is_clean, turn, waiting, walk_on}
use Rattle.espresso.proofs.Steps.{attached_fault, attached_walk, bare_fault, bare_walk, dashes_fault, dashes_walk, file_fault, file_walk, trailing_fault, trailing_walk, value_fault, value_walk}
use Rattle.espresso.proofs.Refusals.{clean-or_else, doomed, flag_refused, unknown_refused, unsettled}
use Rattle.espresso.proofs.Items.{Shows, Spoilt, file_shown, ids_differ, listed, not_files, same_letter-is, spoilt-hyphen, spoilt-twice, values-append, files-append}

-- ---- one more option

-- a use of the option passes and is shown, or it is refused and no line begins so
abbrev pub Uses : List Item → Letter → Text → List Row → Type 0
Uses items l v rows = ((use_fault false (rule_for l) (v ∷ []) rows ≡ []) × Shows (items ++ option l v ∷ []) (used (rule_for l) (v ∷ []) rows))
    ⊎ ((is_clean (use_fault false (rule_for l) (v ∷ []) rows) ≡ false) × Spoilt (items ++ option l v ∷ []))

fresh_fault : (l : Letter) (v : Text) (rows : List Row) → has_row (id_of l) rows ≡ false → use_fault false (rule_for l) (v ∷ []) rows ≡ []
fresh_fault command_letter v rows e = rw e refl
fresh_fault type_letter v rows e = rw e refl
fresh_fault eat_letter v rows e = rw e refl

again_fault : (l : Letter) (v : Text) (rows : List Row) → has_row (id_of l) rows ≡ true → is_clean (use_fault false (rule_for l) (v ∷ []) rows) ≡ false
again_fault command_letter v rows e = rw e refl
again_fault type_letter v rows e = rw e refl
again_fault eat_letter v rows e = rw e refl

module _ (items : List Item) (l : Letter) (v : Text) (rows : List Row) (s : Shows items rows) (none : values_of l items ≡ []) where
  absent : all_of (id_of l) rows ≡ None
  absent = s.options l ∙ ap listed none

  kept_rows : without (id_of l) rows ≡ rows
  kept_rows = without-none (id_of l) rows absent

  values_now : (k : Letter) → values_of k (items ++ option l v ∷ []) ≡ values_of k items ++ cond (same_letter l k) (v ∷ []) []
  values_now k = values-append k items (option l v ∷ [])

  option_at : (k : Letter) (b : Bool) → same_letter l k ≡ b → all_of (id_of k) (used (rule_for l) (v ∷ []) rows) ≡ listed (values_of k items ++ cond b (v ∷ []) [])
  option_at k true e =
      let same : l ≡ k = same_letter-is l k e in
      let P : Letter → Type 0 = λ m. all_of (id_of m) (used (rule_for l) (v ∷ []) rows) ≡ listed (values_of m items ++ v ∷ []) in
      subst P same (with_values-same (id_of l) _ _ (v ∷ []) (without (id_of l) rows)
      ∙ ap (λ rs. Some (unwrap_or (all_of (id_of l) rs) [] ++ v ∷ [])) kept_rows
      ∙ ap (λ o. Some (unwrap_or o [] ++ v ∷ [])) absent ∙ ap (λ vs. listed (vs ++ v ∷ [])) (sym none))
  option_at k false e = with_values-other (id_of l) _ _ (v ∷ []) (id_of k) (ids_differ l k e) (without (id_of l) rows)
      ∙ ap (all_of (id_of k)) kept_rows ∙ s.options k ∙ ap listed (sym (append-nil (values_of k items)))

  once_at : (k : Letter) (b : Bool) → same_letter l k ≡ b → length (values_of k items ++ cond b (v ∷ []) []) ≤ 1
  once_at k true e =
      let P : Letter → Type 0 = λ m. length (values_of m items ++ v ∷ []) ≤ 1 in
      let one : length (values_of l items ++ v ∷ []) ≡ 1 = ap (λ vs. length (vs ++ v ∷ [])) none in
      subst P (same_letter-is l k e) (omega arith)
  once_at k false e = omega (arith, ap length (append-nil (values_of k items)), s.once k)

  option_shown : Shows (items ++ option l v ∷ []) (used (rule_for l) (v ∷ []) rows)
  option_shown = record {
    options = λ k. option_at k (same_letter l k) refl ∙ ap listed (sym (values_now k));
    files = with_values-other (id_of l) _ _ (v ∷ []) files_id (not_files l) (without (id_of l) rows) ∙ ap (all_of files_id) kept_rows
        ∙ s.files ∙ ap listed (sym (files-append items (option l v ∷ []) ∙ append-nil (files_of items)));
    choice = with_values-other (id_of l) _ _ (v ∷ []) choice_id (not_choice l) (without (id_of l) rows) ∙ ap (all_of choice_id) kept_rows ∙ s.choice
        ∙ ap shown_choice (let same : choices_of (items ++ option l v ∷ []) ≡ choices_of items = omega (arith, choices-append items (option l v ∷ [])) in sym same);
    once_chosen = omega (arith, choices-append items (option l v ∷ []), s.once_chosen);
    once = λ k. subst (λ vs. length vs ≤ 1) (sym (values_now k)) (once_at k (same_letter l k) refl);
  }

pub use_option : (items : List Item) (l : Letter) (v : Text) (rows : List Row) → Shows items rows → Uses items l v rows
use_option items l v rows s = go (values_of l items) refl
  where
    go : (vs : List Text) → values_of l items ≡ vs → Uses items l v rows
    go [] e = inl (fresh_fault l v rows (has_row-all_of (id_of l) rows ∙ ap is_some (s.options l ∙ ap listed e)), option_shown items l v rows s e)
    go (x ∷ xs) e = inr (
      again_fault l v rows (has_row-all_of (id_of l) rows ∙ ap is_some (s.options l ∙ ap listed e)),
      spoilt-twice l v items (omega (arith, ap length e)),
    )

-- ---- `--literals`

abbrev pub UsesChoice : List Item → List Row → Type 0
UsesChoice items rows = ((use_fault false choice_rule [] rows ≡ []) × Shows (items ++ fewest ∷ []) (used choice_rule [] rows))
    ⊎ ((is_clean (use_fault false choice_rule [] rows) ≡ false) × Spoilt (items ++ fewest ∷ []))

module _ (items : List Item) (rows : List Row) (s : Shows items rows) (none : choices_of items ≡ 0) where
  unchosen : all_of choice_id rows ≡ None
  unchosen = s.choice ∙ ap shown_choice none

  rows_kept : without choice_id rows ≡ rows
  rows_kept = without-none choice_id rows unchosen

  more_chosen : choices_of (items ++ fewest ∷ []) ≡ 1
  more_chosen = omega (arith, choices-append items (fewest ∷ []), none)

  choice_shown : Shows (items ++ fewest ∷ []) (used choice_rule [] rows)
  choice_shown = record {
    options = λ l. with_values-other choice_id _ _ (codes "true" ∷ []) (id_of l) (choice_not l) (without choice_id rows) ∙ ap (all_of (id_of l)) rows_kept ∙ s.options l
        ∙ ap listed (sym (values-append l items (fewest ∷ []) ∙ append-nil (values_of l items)));
    files = with_values-other choice_id _ _ (codes "true" ∷ []) files_id refl (without choice_id rows) ∙ ap (all_of files_id) rows_kept ∙ s.files
        ∙ ap listed (sym (files-append items (fewest ∷ []) ∙ append-nil (files_of items)));
    choice = with_values-same choice_id _ _ (codes "true" ∷ []) (without choice_id rows) ∙ ap (λ rs. Some (unwrap_or (all_of choice_id rs) [] ++ codes "true" ∷ [])) rows_kept
        ∙ ap (λ o. Some (unwrap_or o [] ++ codes "true" ∷ [])) unchosen ∙ ap shown_choice (sym more_chosen);
    once = λ l. omega (arith, ap length (values-append l items (fewest ∷ []) ∙ append-nil (values_of l items)), s.once l);
    once_chosen = omega (arith, more_chosen);
  }

choice_clean : (rows : List Row) → has_row choice_id rows ≡ false → use_fault false choice_rule [] rows ≡ []
choice_clean rows e = rw e refl

choice_again : (rows : List Row) → has_row choice_id rows ≡ true → is_clean (use_fault false choice_rule [] rows) ≡ false
choice_again rows e = rw e refl

use_choice : (items : List Item) (rows : List Row) → Shows items rows → UsesChoice items rows
use_choice items rows s = go (choices_of items) refl
  where
    go : (n : ℕ) → choices_of items ≡ n → UsesChoice items rows
    go zero e = inl (choice_clean rows (has_row-all_of choice_id rows ∙ ap is_some (s.choice ∙ ap shown_choice e)), choice_shown items rows s e)
    go (suc n) e = inr (choice_again rows (has_row-all_of choice_id rows ∙ ap is_some (s.choice ∙ ap shown_choice e)), spoilt-choice items (omega (arith, e)))

-- ---- where the walk stands

-- what is pending passes and is shown, or it is refused and no line begins so
abbrev pub Stands : List Item → Held → Type 0
Stands items h = ((settle_fault our_rules false h ≡ []) × Shows items (settled our_rules h).rows)
    ⊎ ((is_clean (settle_fault our_rules false h) ≡ false) × Spoilt items)

pub stands_idle : (items : List Item) (rows : List Row) → Shows items rows → Stands items (hold rows None)
stands_idle items rows s = inl (refl, s)

stands_file : (items : List Item) (rows : List Row) (f : Text) → Shows items rows → Stands (items ++ file f ∷ []) (hold rows (Some (files_id, f ∷ [])))
stands_file items rows f s = inl (refl, file_shown items rows f s)

stands_option : (items : List Item) (l : Letter) (v : Text) (rows : List Row) → Shows items rows → Stands (items ++ option l v ∷ []) (hold rows (Some (id_of l, v ∷ [])))
stands_option items command_letter v rows s = use_option items command_letter v rows s
stands_option items type_letter v rows s = use_option items type_letter v rows s
stands_option items eat_letter v rows s = use_option items eat_letter v rows s

-- ---- the words that are left

abbrev pub line_from : List Item → Option (List Item) → Option Request
line_from items rest = option_and_then (λ more. request_of (items ++ more)) rest

pub record Reads (items : List Item) (w : Walk) (rest : Option (List Item)) (ws : List Text) : Type 0 where
  pub clean : faults w ws ≡ []
  pub more : List Item
  pub found : rest ≡ Some more
  pub shows : Shows (items ++ more) (rows_from w ws)

pub record IsRefused (items : List Item) (w : Walk) (rest : Option (List Item)) (ws : List Text) : Type 0 where
  pub fault : is_clean (faults w ws) ≡ false
  pub none : line_from items rest ≡ None

abbrev pub Ends : List Item → Walk → Option (List Item) → List Text → Type 0
Ends items w rest ws = Reads items w rest ws ⊎ IsRefused items w rest ws

pub spoilt_line : (items : List Item) (rest : Option (List Item)) → Spoilt items → line_from items rest ≡ None
spoilt_line items None s = refl
spoilt_line items (Some more) s = s more

faults-step : (w after : Walk) (word : Text) (ws : List Text) → turn w word ≡ [] → walk_on w word ≡ after → faults w (word ∷ ws) ≡ faults after ws
unfolding walk_fault
faults-step w after word ws clean next =
    ap (λ k. or_else (or_else k (walk_fault our_shape [] (walk_on w word) ws)) (settle_fault our_rules false (fold walk_on (walk_on w word) ws).held)) clean
    ∙ ap (λ v. faults v ws) next

faults-failure : (w : Walk) (word : Text) (ws : List Text) → is_clean (turn w word) ≡ false → is_clean (faults w (word ∷ ws)) ≡ false
unfolding walk_fault
faults-failure w word ws e = clean-or_else (or_else (turn w word) (walk_fault our_shape [] (walk_on w word) ws)) _ (clean-or_else (turn w word) _ e)

-- a word that the walk takes
moves_on : (items : List Item) (w after : Walk) (word : Text) (rest : Option (List Item)) (ws : List Text) → turn w word ≡ [] → walk_on w word ≡ after
    → Ends items after rest ws → Ends items w rest (word ∷ ws)
moves_on items w after word rest ws clean next (inl r) = inl (record {
  clean = faults-step w after word ws clean next ∙ r.clean;
  more = r.more;
  found = r.found;
  shows = subst (Shows (items ++ r.more)) (ap (λ v. rows_from v ws) (sym next)) r.shows;
})
moves_on items w after word rest ws clean next (inr r) =
    inr (record { fault = ap is_clean (faults-step w after word ws clean next) ∙ r.fault; none = r.none })

line_from-with_item : (items : List Item) (i : Item) (rest : Option (List Item)) → line_from items (with_item i rest) ≡ line_from (items ++ i ∷ []) rest
line_from-with_item items i None = refl
line_from-with_item items i (Some more) = ap request_of (sym (append_assoc items (i ∷ []) more))

-- an item that the walk has taken
adds_item : (items : List Item) (i : Item) (w : Walk) (rest : Option (List Item)) (ws : List Text) → Ends (items ++ i ∷ []) w rest ws → Ends items w (with_item i rest) ws
adds_item items i w rest ws (inl r) = inl (record {
  clean = r.clean;
  more = i ∷ r.more;
  found = ap (with_item i) r.found;
  shows = subst (λ all. Shows all (rows_from w ws)) (append_assoc items (i ∷ []) r.more) r.shows;
})
adds_item items i w rest ws (inr r) = inr (record { fault = r.fault; none = line_from-with_item items i rest ∙ r.none })

-- a word that the walk refuses
stops_at : (items : List Item) (w : Walk) (word : Text) (rest : Option (List Item)) (ws : List Text) → is_clean (turn w word) ≡ false → line_from items rest ≡ None
    → Ends items w rest (word ∷ ws)
stops_at items w word rest ws e none = inr (record { fault = faults-failure w word ws e; none = none })

-- no word is left
ends_here : (items : List Item) (rows : List Row) (p : Option (Text × List Text)) (q : Waiting) (t : Bool) → Stands items (hold rows p) → Ends items (at (hold rows p) q t) (Some []) []
unfolding walk_fault
ends_here items rows p q t (inl (clean, s)) = inl (record {
  clean = clean;
  more = [];
  found = refl;
  shows = subst (λ all. Shows all (settled our_rules (hold rows p)).rows) (sym (append-nil items)) s;
})
ends_here items rows p q t (inr (fault, s)) = inr (record { fault = fault; none = s [] })

-- ---- after `--`

trails : (ws : List Text) (items : List Item) (rows : List Row) (p : Option (Text × List Text)) (q : Waiting) → Stands items (hold rows p) → Ends items (at (hold rows p) q true) (Some (map file ws)) ws
trails [] items rows p q s = ends_here items rows p q true s
trails (w ∷ ws) items rows p q (inr (fault, s)) = stops_at items (at (hold rows p) q true) w _ ws (ap is_clean (trailing_fault (hold rows p) q w) ∙ fault) (s (map file (w ∷ ws)))
trails (w ∷ ws) items rows p q (inl (clean, s)) =
    let h = settled our_rules (hold rows p) in
    moves_on items (at (hold rows p) q true) (at (hold h.rows (Some (files_id, w ∷ []))) positional true) w _ ws (trailing_fault (hold rows p) q w ∙ clean) (trailing_walk (hold rows p) q w)
    (adds_item items (file w) (at (hold h.rows (Some (files_id, w ∷ []))) positional true) (Some (map file ws)) ws
    (trails ws (items ++ file w ∷ []) h.rows (Some (files_id, w ∷ [])) positional (stands_file items h.rows w s)))

-- an option that waits at `--` gets no value
never_given : (ws : List Text) (rows : List Row) (l : Letter) (q : Waiting) → is_clean (faults (at (hold rows (Some (id_of l, []))) q true) ws) ≡ false
unfolding walk_fault
never_given [] rows l q = unsettled rows l
never_given (w ∷ ws) rows l q = faults-failure (at (hold rows (Some (id_of l, []))) q true) w ws (doomed rows l q w)

-- ---- the kinds of words

pub data View : Text → Type 0 where
  plain_view : (w : Text) → IsPlain w → item_of w ≡ file w → View w
  bare_view : (l : Letter) → View (45 ∷ code_of l ∷ [])
  own_view : (l : Letter) (z : ℕ) (rest : Text) → View (45 ∷ code_of l ∷ z ∷ rest)
  dashes_view : View (45 ∷ 45 ∷ [])
  choice_view : View (codes "--literals")
  unknown_view : (y : ℕ) (rest : Text) → letter_of y ≡ None → bytes_eq (45 ∷ y ∷ rest) (codes "--") ≡ false → bytes_eq (45 ∷ y ∷ rest) (codes "--literals") ≡ false → View (45 ∷ y ∷ rest)

letter_view : (l : Letter) (rest : Text) → View (45 ∷ code_of l ∷ rest)
letter_view l [] = bare_view l
letter_view l (z ∷ rest) = own_view l z rest

hyphen_view : (y : ℕ) (rest : Text) → View (45 ∷ y ∷ rest)
hyphen_view y rest = go (y == 68) (y == 111) (y == 101) refl refl refl
  where
    at_code : (l : Letter) → y ≡ code_of l → View (45 ∷ y ∷ rest)
    at_code l e = subst (λ n. View (45 ∷ n ∷ rest)) (sym e) (letter_view l rest)

    choice_or : (b : Bool) → letter_of y ≡ None → bytes_eq (45 ∷ y ∷ rest) (codes "--") ≡ false → bytes_eq (45 ∷ y ∷ rest) (codes "--literals") ≡ b → View (45 ∷ y ∷ rest)
    choice_or true none ne e = subst View (sym (bytes_eq-true (45 ∷ y ∷ rest) (codes "--literals") e)) choice_view
    choice_or false none ne e = unknown_view y rest none ne e

    dashes_or : (b : Bool) → letter_of y ≡ None → bytes_eq (45 ∷ y ∷ rest) (codes "--") ≡ b → View (45 ∷ y ∷ rest)
    dashes_or true none e = subst View (sym (bytes_eq-true (45 ∷ y ∷ rest) (codes "--") e)) dashes_view
    dashes_or false none e = choice_or (bytes_eq (45 ∷ y ∷ rest) (codes "--literals")) none e refl

    go : (a b c : Bool) → (y == 68) ≡ a → (y == 111) ≡ b → (y == 101) ≡ c → View (45 ∷ y ∷ rest)
    go true b c e f g = at_code command_letter (eqb-true y 68 e)
    go false true c e f g = at_code type_letter (eqb-true y 111 f)
    go false false true e f g = at_code eat_letter (eqb-true y 101 g)
    go false false false e f g = dashes_or (bytes_eq (45 ∷ y ∷ rest) (codes "--")) (rw (e, f, g) refl) refl

view : (w : Text) → View w
view [] = plain_view [] empty refl
view (x ∷ rest) = go (x == 45) refl
  where
    after : (r : Text) → View (45 ∷ r)
    after [] = plain_view (45 ∷ []) hyphen refl
    after (y ∷ more) = hyphen_view y more

    go : (b : Bool) → (x == 45) ≡ b → View (x ∷ rest)
    go true e = subst (λ n. View (n ∷ rest)) (sym (eqb-true x 45 e)) (after rest)
    go false e = plain_view (x ∷ rest) (other x rest e) (rw e refl)

-- ---- all the words

abbrev pub AllUtf8 : List Text → Type 0
AllUtf8 [] = Unit {0}
AllUtf8 (w ∷ ws) = IsUtf8 w × AllUtf8 ws

abbrev FreeEnds : List Text → Type 0
FreeEnds ws = (items : List Item) (rows : List Row) (p : Option (Text × List Text)) (f : Free) → Stands items (hold rows p)
    → Ends items (at (hold rows p) (waiting f) false) (items_from None ws) ws

abbrev WaitEnds : List Text → Type 0
WaitEnds ws = (items : List Item) (rows : List Row) (l : Letter) → Shows items rows
    → Ends items (at (hold rows (Some (id_of l, []))) (waits_for (id_of l)) false) (items_from (Some l) ws) ws

items-bare : (l : Letter) (ws : List Text) → items_from None ((45 ∷ code_of l ∷ []) ∷ ws) ≡ items_from (Some l) ws
items-bare command_letter ws = refl
items-bare type_letter ws = refl
items-bare eat_letter ws = refl

items-own : (l : Letter) (z : ℕ) (rest : Text) (ws : List Text) → items_from None ((45 ∷ code_of l ∷ z ∷ rest) ∷ ws) ≡ with_item (option l (cond (z == 61) rest (z ∷ rest))) (items_from None ws)
items-own command_letter z rest ws = refl
items-own type_letter z rest ws = refl
items-own eat_letter z rest ws = refl

items-unknown : (y : ℕ) (rest : Text) (ws : List Text) → letter_of y ≡ None → bytes_eq (45 ∷ y ∷ rest) (codes "--") ≡ false → bytes_eq (45 ∷ y ∷ rest) (codes "--literals") ≡ false
    → items_from None ((45 ∷ y ∷ rest) ∷ ws) ≡ None
items-unknown y rest ws none ne nl =
    let w = 45 ∷ y ∷ rest in
    ap (λ o. items_at (option_of o rest w) ws (items_from None ws) (λ l. items_from (Some l) ws)) none
    ∙ ap (λ b. items_at (cond b dashes (cond (bytes_eq w (codes "--literals")) fewest unknown)) ws (items_from None ws) (λ l. items_from (Some l) ws)) ne
    ∙ ap (λ b. items_at (cond b fewest unknown) ws (items_from None ws) (λ l. items_from (Some l) ws)) nl

items-plain : (w : Text) (ws : List Text) → item_of w ≡ file w → items_from None (w ∷ ws) ≡ with_item (file w) (items_from None ws)
items-plain w ws e = ap (λ k. items_at k ws (items_from None ws) (λ l. items_from (Some l) ws)) e

own_word : (l : Letter) (z : ℕ) (rest : Text) (ws : List Text) → FreeEnds ws → (items : List Item) (rows : List Row) (p : Option (Text × List Text)) (f : Free)
    → settle_fault our_rules false (hold rows p) ≡ [] → Shows items (settled our_rules (hold rows p)).rows
    → Uses items l (cond (z == 61) rest (z ∷ rest)) (settled our_rules (hold rows p)).rows
    → Ends items (at (hold rows p) (waiting f) false) (items_from None ((45 ∷ code_of l ∷ z ∷ rest) ∷ ws)) ((45 ∷ code_of l ∷ z ∷ rest) ∷ ws)
own_word l z rest ws free items rows p f clean s (inl (ok, shown)) =
    let w = 45 ∷ code_of l ∷ z ∷ rest in
    let v = cond (z == 61) rest (z ∷ rest) in
    let new = used (rule_for l) (v ∷ []) (settled our_rules (hold rows p)).rows in
    let after = at (hold new None) idle false in
    moves_on items (at (hold rows p) (waiting f) false) after w (items_from None (w ∷ ws)) ws
    (attached_fault z rest rows p (z == 61) l f refl ∙ ap (λ k. or_else k (use_fault false (rule_for l) (v ∷ []) (settled our_rules (hold rows p)).rows)) clean ∙ ok)
    (attached_walk z rest rows p (z == 61) l f refl)
    (subst (λ r. Ends items after r ws) (sym (items-own l z rest ws))
    (adds_item items (option l v) after (items_from None ws) ws
    (free (items ++ option l v ∷ []) new None nothing (stands_idle (items ++ option l v ∷ []) new shown))))
own_word l z rest ws free items rows p f clean s (inr (bad, spoilt)) =
    let w = 45 ∷ code_of l ∷ z ∷ rest in
    let v = cond (z == 61) rest (z ∷ rest) in
    stops_at items (at (hold rows p) (waiting f) false) w (items_from None (w ∷ ws)) ws
    (ap is_clean (attached_fault z rest rows p (z == 61) l f refl ∙ ap (λ k. or_else k (use_fault false (rule_for l) (v ∷ []) (settled our_rules (hold rows p)).rows)) clean) ∙ bad)
    (ap (line_from items) (items-own l z rest ws) ∙ line_from-with_item items (option l v) (items_from None ws) ∙ spoilt_line (items ++ option l v ∷ []) (items_from None ws) spoilt)

choice_word : (ws : List Text) → FreeEnds ws → (items : List Item) (rows : List Row) (p : Option (Text × List Text)) (f : Free)
    → settle_fault our_rules false (hold rows p) ≡ [] → UsesChoice items (settled our_rules (hold rows p)).rows
    → Ends items (at (hold rows p) (waiting f) false) (items_from None (codes "--literals" ∷ ws)) (codes "--literals" ∷ ws)
choice_word ws free items rows p f clean (inl (ok, shown)) =
    let new = used choice_rule [] (settled our_rules (hold rows p)).rows in
    let after = at (hold new None) idle false in
    moves_on items (at (hold rows p) (waiting f) false) after (codes "--literals") (with_item fewest (items_from None ws)) ws
    (choice_fault rows p f ∙ ap (λ k. or_else k (use_fault false choice_rule [] (settled our_rules (hold rows p)).rows)) clean ∙ ok)
    (choice_walk rows p f)
    (adds_item items fewest after (items_from None ws) ws (free (items ++ fewest ∷ []) new None nothing (stands_idle (items ++ fewest ∷ []) new shown)))
choice_word ws free items rows p f clean (inr (bad, spoilt)) =
    stops_at items (at (hold rows p) (waiting f) false) (codes "--literals") (with_item fewest (items_from None ws)) ws
    (ap is_clean (choice_fault rows p f ∙ ap (λ k. or_else k (use_fault false choice_rule [] (settled our_rules (hold rows p)).rows)) clean) ∙ bad)
    (line_from-with_item items fewest (items_from None ws) ∙ spoilt_line (items ++ fewest ∷ []) (items_from None ws) spoilt)

free_word : (w : Text) (ws : List Text) → View w → IsUtf8 w → FreeEnds ws → WaitEnds ws → FreeEnds (w ∷ ws)
free_word _ ws (plain_view w is_plain word) u free wait items rows p f (inl (clean, s)) =
    let h = settled our_rules (hold rows p) in
    let after = at (hold h.rows (Some (files_id, w ∷ []))) positional false in
    moves_on items (at (hold rows p) (waiting f) false) after w (items_from None (w ∷ ws)) ws (file_fault (hold rows p) w f is_plain ∙ clean) (file_walk (hold rows p) w f is_plain)
    (subst (λ rest. Ends items after rest ws) (sym (items-plain w ws word))
    (adds_item items (file w) after (items_from None ws) ws
    (free (items ++ file w ∷ []) h.rows (Some (files_id, w ∷ [])) files (stands_file items h.rows w s))))
free_word _ ws (plain_view w is_plain word) u free wait items rows p f (inr (fault, s)) =
    stops_at items (at (hold rows p) (waiting f) false) w (items_from None (w ∷ ws)) ws (ap is_clean (file_fault (hold rows p) w f is_plain) ∙ fault) (spoilt_line items (items_from None (w ∷ ws)) s)
free_word _ ws (bare_view l) u free wait items rows p f (inl (clean, s)) =
    let w = 45 ∷ code_of l ∷ [] in
    let h = settled our_rules (hold rows p) in
    let after = at (hold h.rows (Some (id_of l, []))) (waits_for (id_of l)) false in
    moves_on items (at (hold rows p) (waiting f) false) after w (items_from None (w ∷ ws)) ws (bare_fault rows p l f ∙ clean) (bare_walk rows p l f)
    (subst (λ rest. Ends items after rest ws) (sym (items-bare l ws)) (wait items h.rows l s))
free_word _ ws (bare_view l) u free wait items rows p f (inr (fault, s)) =
    let w = 45 ∷ code_of l ∷ [] in
    stops_at items (at (hold rows p) (waiting f) false) w (items_from None (w ∷ ws)) ws (ap is_clean (bare_fault rows p l f) ∙ fault) (spoilt_line items (items_from None (w ∷ ws)) s)
free_word _ ws (own_view l z rest) u free wait items rows p f (inr (fault, s)) =
    let w = 45 ∷ code_of l ∷ z ∷ rest in
    stops_at items (at (hold rows p) (waiting f) false) w (items_from None (w ∷ ws)) ws
    (ap is_clean (attached_fault z rest rows p (z == 61) l f refl) ∙ clean-or_else (settle_fault our_rules false (hold rows p)) _ fault) (spoilt_line items (items_from None (w ∷ ws)) s)
free_word _ ws (own_view l z rest) u free wait items rows p f (inl (clean, s)) = own_word l z rest ws free items rows p f clean s (use_option items l (cond (z == 61) rest (z ∷ rest)) (settled our_rules (hold rows p)).rows s)
free_word _ ws choice_view u free wait items rows p f (inl (clean, s)) = choice_word ws free items rows p f clean (use_choice items (settled our_rules (hold rows p)).rows s)
free_word _ ws choice_view u free wait items rows p f (inr (fault, s)) =
    stops_at items (at (hold rows p) (waiting f) false) (codes "--literals") (items_from None (codes "--literals" ∷ ws)) ws
    (ap is_clean (choice_fault rows p f) ∙ clean-or_else (settle_fault our_rules false (hold rows p)) _ fault) (spoilt_line items (items_from None (codes "--literals" ∷ ws)) s)
free_word _ ws dashes_view u free wait items rows p f s =
    moves_on items (at (hold rows p) (waiting f) false) (at (hold rows p) (waiting f) true) (45 ∷ 45 ∷ []) (Some (map file ws)) ws (dashes_fault (hold rows p) (waiting f)) (dashes_walk (hold rows p) (waiting f))
    (trails ws items rows p (waiting f) s)
free_word _ ws (unknown_view y rest none ne nl) u free wait items rows p f s =
    stops_at items (at (hold rows p) (waiting f) false) (45 ∷ y ∷ rest) (items_from None ((45 ∷ y ∷ rest) ∷ ws)) ws (unknown_refused rows p (waiting f) y rest u none ne nl)
    (ap (line_from items) (items-unknown y rest ws none ne nl))

-- a value that begins with a hyphen, and has more, is no value that an option takes
hyphen_line : (items : List Item) (l : Letter) (v : Text) (ws : List Text) → line_from items (items_from (Some l) ((45 ∷ v) ∷ ws)) ≡ None
hyphen_line items l v ws = line_from-with_item items (option l (45 ∷ v)) (items_from None ws) ∙ spoilt_line (items ++ option l (45 ∷ v) ∷ []) (items_from None ws) (spoilt-hyphen l v items)

wait_word : (w : Text) (ws : List Text) → View w → IsUtf8 w → FreeEnds ws → WaitEnds (w ∷ ws)
wait_word _ ws (plain_view w is_plain word) u free items rows l s =
    let after = at (hold rows (Some (id_of l, w ∷ []))) idle false in
    moves_on items (at (hold rows (Some (id_of l, []))) (waits_for (id_of l)) false) after w (items_from (Some l) (w ∷ ws)) ws (value_fault rows w l is_plain) (value_walk rows w l is_plain)
    (adds_item items (option l w) after (items_from None ws) ws
    (free (items ++ option l w ∷ []) rows (Some (id_of l, w ∷ [])) nothing (stands_option items l w rows s)))
wait_word _ ws (bare_view k) u free items rows l s =
    stops_at items (at (hold rows (Some (id_of l, []))) (waits_for (id_of l)) false) (45 ∷ code_of k ∷ []) (items_from (Some l) ((45 ∷ code_of k ∷ []) ∷ ws)) ws
    (flag_refused (waits_for (id_of l)) rows (Some (id_of l, [])) k [] (unsettled rows l)) (hyphen_line items l (code_of k ∷ []) ws)
wait_word _ ws (own_view k z rest) u free items rows l s =
    stops_at items (at (hold rows (Some (id_of l, []))) (waits_for (id_of l)) false) (45 ∷ code_of k ∷ z ∷ rest) (items_from (Some l) ((45 ∷ code_of k ∷ z ∷ rest) ∷ ws)) ws
    (flag_refused (waits_for (id_of l)) rows (Some (id_of l, [])) k (z ∷ rest) (unsettled rows l)) (hyphen_line items l (code_of k ∷ z ∷ rest) ws)
wait_word _ ws (unknown_view y rest none ne nl) u free items rows l s =
    stops_at items (at (hold rows (Some (id_of l, []))) (waits_for (id_of l)) false) (45 ∷ y ∷ rest) (items_from (Some l) ((45 ∷ y ∷ rest) ∷ ws)) ws
    (unknown_refused rows (Some (id_of l, [])) (waits_for (id_of l)) y rest u none ne nl) (hyphen_line items l (y ∷ rest) ws)
wait_word _ ws choice_view u free items rows l s =
    stops_at items (at (hold rows (Some (id_of l, []))) (waits_for (id_of l)) false) (codes "--literals") (items_from (Some l) (codes "--literals" ∷ ws)) ws
    (choice_refused (waits_for (id_of l)) rows (Some (id_of l, [])) (unsettled rows l)) (hyphen_line items l (codes "-literals") ws)
wait_word _ ws dashes_view u free items rows l s =
    let w = at (hold rows (Some (id_of l, []))) (waits_for (id_of l)) false in
    let after = at (hold rows (Some (id_of l, []))) (waits_for (id_of l)) true in
    inr (record {
      fault = ap is_clean (faults-step w after (45 ∷ 45 ∷ []) ws (dashes_fault (hold rows (Some (id_of l, []))) (waits_for (id_of l))) (dashes_walk (hold rows (Some (id_of l, []))) (waits_for (id_of l))))
          ∙ never_given ws rows l (waits_for (id_of l));
      none = hyphen_line items l (45 ∷ []) ws;
    })

pub reads : (ws : List Text) → AllUtf8 ws → FreeEnds ws × WaitEnds ws
unfolding walk_fault
reads [] u = (
  λ items rows p f s. ends_here items rows p (waiting f) false s,
  λ items rows l s. inr (record { fault = unsettled rows l; none = refl }),
)
reads (w ∷ ws) u =
    let rest = reads ws u.1 in
    (free_word w ws (view w) u.0 rest.0 rest.1, wait_word w ws (view w) u.0 rest.0)
