-- What a keyword line without a fault adds to the header.
use Rattle.std.proofs.Common.{◌≡◌, ℕ, ◌+◌, ◌%◌, Bool, true, false, cond, not, List, [], ◌∷◌, length, Option, Some, None, refl, ap, sym, ◌∙◌, subst, arith, add-zero, find, option_map}
use Rattle.std.specs.Prelude.{◌||◌, ◌&&◌, nat_lt, codes, is_some}
use Rattle.std.specs.Option.{option_or}
use Rattle.std.specs.Str.{bytes_eq}
use Rattle.std.proofs.lemmas.Slice.Eq.{bytes_eq-Decides}
use Rattle.std.proofs.Math.Nat.{zero-mod, mod-mod}
use Rattle.cube.specs.Limits.{Limits}
use Rattle.cube.specs.Size.{Size}
use Rattle.pla.specs.declared.fault.ReadKind.{ReadKind}
use Rattle.pla.specs.Lines.{is_empty, is_keyword_line, keyword, arguments}
use Rattle.pla.specs.Keywords.{is_one_of, endings, number_within, type_by, size_by, inputs_on, outputs_on}
use Rattle.pla.specs.Symbols.{left_over, width}
use Rattle.pla.specs.Header.{Header, size_in}
use Rattle.pla.specs.Fault.{first_kind, keyword_tests, is_inside_row, is_repeated}
use Rattle.pla.specs.HeadView.{keyword_fault, with_keyword}
use Rattle.pla.proofs.After.{after_line, or_none, same_header}
use Rattle.pla.proofs.ByKind.{symbols_of_keyword}

-- none of the tests holds
abbrev pub NoneHolds : List (Bool × ReadKind) → Type 0
NoneHolds [] = Unit {0}
NoneHolds (t ∷ ts) = (t.0 ≡ false) × NoneHolds ts

none_step : (b : Bool) (t : Bool × ReadKind) (o : Option (Bool × ReadKind)) (P : Type 0) → (option_map (λ t. t.1) o ≡ None → P) → option_map (λ (t : Bool × ReadKind). t.1) (cond b (Some t) o) ≡ None → (b ≡ false) × P
none_step true t o P ih h = cc
none_step false t o P ih h = (refl, ih h)

pub none_holds : (ts : List (Bool × ReadKind)) → first_kind ts ≡ None → NoneHolds ts
none_holds [] h = tt
none_holds (t ∷ ts) h = none_step t.0 t (find (λ t. t.0) ts) (NoneHolds ts) (none_holds ts) h

-- what a keyword with its words adds
abbrev added : Limits → Header → List ℕ → List (List ℕ) → Header
added limits h word args = record {
  lines = h.lines + 1;
  inputs = option_or h.inputs (cond (bytes_eq word (codes ".i")) (number_within 0 limits.inputs args) None);
  outputs = option_or h.outputs (cond (bytes_eq word (codes ".o")) (number_within 1 limits.outputs args) None);
  input_names = option_or h.input_names (cond (bytes_eq word (codes ".ilb")) (Some args) None);
  output_names = option_or h.output_names (cond (bytes_eq word (codes ".ob")) (Some args) None);
  file_type = option_or h.file_type (cond (bytes_eq word (codes ".type")) (type_by args) None);
  unfinished = left_over (size_by (option_or h.inputs (cond (bytes_eq word (codes ".i")) (number_within 0 limits.inputs args) None)) (option_or h.outputs (cond (bytes_eq word (codes ".o")) (number_within 1 limits.outputs args) None))) (h.unfinished + 0);
  has_symbols = h.has_symbols || nat_lt 0 0;
  ended = h.ended || is_one_of endings word;
}

-- what it sets
abbrev set_by : Limits → Header → List ℕ → List (List ℕ) → Header
set_by limits h word args =
    cond (bytes_eq word (codes ".i")) (record h { inputs = number_within 0 limits.inputs args })
    (cond (bytes_eq word (codes ".o")) (record h { outputs = number_within 1 limits.outputs args })
    (cond (bytes_eq word (codes ".ilb")) (record h { input_names = Some args })
    (cond (bytes_eq word (codes ".ob")) (record h { output_names = Some args })
    (cond (bytes_eq word (codes ".type")) (record h { file_type = type_by args })
    (record h { ended = is_one_of endings word })))))

-- whether the keyword is repeated
abbrev again : Header → List ℕ → Bool
again h word = (bytes_eq word (codes ".i") && is_some h.inputs) || (bytes_eq word (codes ".o") && is_some h.outputs)
    || (bytes_eq word (codes ".ilb") && is_some h.input_names) || (bytes_eq word (codes ".ob") && is_some h.output_names)
    || (bytes_eq word (codes ".type") && is_some h.file_type)

-- whether the keyword stands inside a row
abbrev inside : Header → List ℕ → Bool
inside h word = not (is_empty word) && not (is_one_of endings word) && nat_lt 0 h.unfinished

-- what is to be shown of a keyword
abbrev Adds : Limits → Header → ℕ → List (List ℕ) → List ℕ → Type 0
Adds limits h count args word = again h word ≡ false → inside h word ≡ false → h.ended ≡ false → h.unfinished ≡ left_over (size_in h) count
    → added limits h word args ≡ record (set_by limits h word args) { lines = h.lines + 1 }

absent : {X : Type 0} (o : Option X) → is_some o ≡ false → o ≡ None
absent None e = refl
absent (Some x) e = cc

or_absent : {X : Type 0} (o p : Option X) → o ≡ None → option_or o p ≡ p
or_absent o p e = ap (λ x. option_or x p) e

or_false : (b : Bool) → (b || false) ≡ b
or_false true = refl
or_false false = refl

no_rest : (size : Option Size) (n : ℕ) → n ≡ 0 → left_over size (n + 0) ≡ n
no_rest None n e = sym e
no_rest (Some size) n e = ap (λ z. (z + 0) % width size) e ∙ zero-mod (width size) ∙ sym e

same_rest : (size : Option Size) (n count : ℕ) → n ≡ left_over size count → left_over size (n + 0) ≡ n
same_rest None n count e = sym e
same_rest (Some size) n count e = ap (λ z. z % width size) (add-zero n) ∙ ap (λ z. z % width size) e ∙ mod-mod count (width size) ∙ sym e

nothing_left : (n : ℕ) → nat_lt 0 n ≡ false → n ≡ 0
nothing_left n e = grind arith

-- the size stays where neither number is set
kept_rest : (h : Header) (count : ℕ) → h.unfinished ≡ left_over (size_in h) count → left_over (size_by (option_or h.inputs None) (option_or h.outputs None)) (h.unfinished + 0) ≡ h.unfinished
kept_rest h count rest =
    ap (λ o. left_over (size_by o (option_or h.outputs None)) (h.unfinished + 0)) (or_none h.inputs)
    ∙ ap (λ o. left_over (size_by h.inputs o) (h.unfinished + 0)) (or_none h.outputs)
    ∙ same_rest (size_in h) h.unfinished count rest

left_of : (a b : Bool) → (a || b) ≡ false → a ≡ false
left_of true b e = e
left_of false b e = refl

on_inputs : (limits : Limits) (h : Header) (count : ℕ) (args : List (List ℕ)) → Adds limits h count args (codes ".i")
on_inputs limits h count args new row going rest =
    same_header (added limits h (codes ".i") args) (record (set_by limits h (codes ".i") args) { lines = h.lines + 1 })
    refl (or_absent h.inputs (number_within 0 limits.inputs args) (absent h.inputs (left_of (is_some h.inputs) false (left_of ((is_some h.inputs) || false) false (left_of (((is_some h.inputs) || false) || false) false (left_of ((((is_some h.inputs) || false) || false) || false) false new)))))) (or_none h.outputs) (or_none h.input_names) (or_none h.output_names) (or_none h.file_type)
    (no_rest (size_by (option_or h.inputs (number_within 0 limits.inputs args)) (option_or h.outputs None)) h.unfinished (nothing_left h.unfinished row)) (or_false h.has_symbols) (or_false h.ended)

on_outputs : (limits : Limits) (h : Header) (count : ℕ) (args : List (List ℕ)) → Adds limits h count args (codes ".o")
on_outputs limits h count args new row going rest =
    same_header (added limits h (codes ".o") args) (record (set_by limits h (codes ".o") args) { lines = h.lines + 1 })
    refl (or_none h.inputs) (or_absent h.outputs (number_within 1 limits.outputs args) (absent h.outputs (left_of (is_some h.outputs) false (left_of ((is_some h.outputs) || false) false (left_of (((is_some h.outputs) || false) || false) false new))))) (or_none h.input_names) (or_none h.output_names) (or_none h.file_type)
    (no_rest (size_by (option_or h.inputs None) (option_or h.outputs (number_within 1 limits.outputs args))) h.unfinished (nothing_left h.unfinished row)) (or_false h.has_symbols) (or_false h.ended)

on_input_names : (limits : Limits) (h : Header) (count : ℕ) (args : List (List ℕ)) → Adds limits h count args (codes ".ilb")
on_input_names limits h count args new row going rest =
    same_header (added limits h (codes ".ilb") args) (record (set_by limits h (codes ".ilb") args) { lines = h.lines + 1 })
    refl (or_none h.inputs) (or_none h.outputs) (or_absent h.input_names (Some args) (absent h.input_names (left_of (is_some h.input_names) false (left_of ((is_some h.input_names) || false) false new)))) (or_none h.output_names) (or_none h.file_type)
    (kept_rest h count rest) (or_false h.has_symbols) (or_false h.ended)

on_output_names : (limits : Limits) (h : Header) (count : ℕ) (args : List (List ℕ)) → Adds limits h count args (codes ".ob")
on_output_names limits h count args new row going rest =
    same_header (added limits h (codes ".ob") args) (record (set_by limits h (codes ".ob") args) { lines = h.lines + 1 })
    refl (or_none h.inputs) (or_none h.outputs) (or_none h.input_names) (or_absent h.output_names (Some args) (absent h.output_names (left_of (is_some h.output_names) false new))) (or_none h.file_type)
    (kept_rest h count rest) (or_false h.has_symbols) (or_false h.ended)

on_type : (limits : Limits) (h : Header) (count : ℕ) (args : List (List ℕ)) → Adds limits h count args (codes ".type")
on_type limits h count args new row going rest =
    same_header (added limits h (codes ".type") args) (record (set_by limits h (codes ".type") args) { lines = h.lines + 1 })
    refl (or_none h.inputs) (or_none h.outputs) (or_none h.input_names) (or_none h.output_names) (or_absent h.file_type (type_by args) (absent h.file_type new))
    (kept_rest h count rest) (or_false h.has_symbols) (or_false h.ended)

on_other : (limits : Limits) (h : Header) (count : ℕ) (args : List (List ℕ)) (word : List ℕ) → bytes_eq word (codes ".i") ≡ false → bytes_eq word (codes ".o") ≡ false → bytes_eq word (codes ".ilb") ≡ false → bytes_eq word (codes ".ob") ≡ false → bytes_eq word (codes ".type") ≡ false
    → Adds limits h count args word
on_other limits h count args word e1 e2 e3 e4 e5 new row going rest =
    rw (e1, e2, e3, e4, e5)
    (same_header (record h {
      lines = h.lines + 1;
      inputs = option_or h.inputs None;
      outputs = option_or h.outputs None;
      input_names = option_or h.input_names None;
      output_names = option_or h.output_names None;
      file_type = option_or h.file_type None;
      unfinished = left_over (size_by (option_or h.inputs None) (option_or h.outputs None)) (h.unfinished + 0);
      has_symbols = h.has_symbols || false;
      ended = h.ended || is_one_of endings word;
    }) (record h { lines = h.lines + 1; ended = is_one_of endings word })
    refl (or_none h.inputs) (or_none h.outputs) (or_none h.input_names) (or_none h.output_names) (or_none h.file_type)
    (kept_rest h count rest) (or_false h.has_symbols) (ap (λ b. b || is_one_of endings word) going))

adds_word : (limits : Limits) (h : Header) (count : ℕ) (args : List (List ℕ)) (word : List ℕ) → Adds limits h count args word
adds_word limits h count args word = by_inputs (bytes_eq word (codes ".i")) refl
  where
    at : (known : List ℕ) → bytes_eq word known ≡ true → Adds limits h count args known → Adds limits h count args word
    at known e shown = subst (Adds limits h count args) (sym ((bytes_eq-Decides word known).0 e)) shown

    by_type : (b : Bool) → bytes_eq word (codes ".type") ≡ b → bytes_eq word (codes ".i") ≡ false → bytes_eq word (codes ".o") ≡ false → bytes_eq word (codes ".ilb") ≡ false → bytes_eq word (codes ".ob") ≡ false → Adds limits h count args word
    by_type true e e1 e2 e3 e4 = at (codes ".type") e (on_type limits h count args)
    by_type false e e1 e2 e3 e4 = on_other limits h count args word e1 e2 e3 e4 e

    by_output_names : (b : Bool) → bytes_eq word (codes ".ob") ≡ b → bytes_eq word (codes ".i") ≡ false → bytes_eq word (codes ".o") ≡ false → bytes_eq word (codes ".ilb") ≡ false → Adds limits h count args word
    by_output_names true e e1 e2 e3 = at (codes ".ob") e (on_output_names limits h count args)
    by_output_names false e e1 e2 e3 = by_type (bytes_eq word (codes ".type")) refl e1 e2 e3 e

    by_input_names : (b : Bool) → bytes_eq word (codes ".ilb") ≡ b → bytes_eq word (codes ".i") ≡ false → bytes_eq word (codes ".o") ≡ false → Adds limits h count args word
    by_input_names true e e1 e2 = at (codes ".ilb") e (on_input_names limits h count args)
    by_input_names false e e1 e2 = by_output_names (bytes_eq word (codes ".ob")) refl e1 e2 e

    by_outputs : (b : Bool) → bytes_eq word (codes ".o") ≡ b → bytes_eq word (codes ".i") ≡ false → Adds limits h count args word
    by_outputs true e e1 = at (codes ".o") e (on_outputs limits h count args)
    by_outputs false e e1 = by_input_names (bytes_eq word (codes ".ilb")) refl e1 e

    by_inputs : (b : Bool) → bytes_eq word (codes ".i") ≡ b → Adds limits h count args word
    by_inputs true e = at (codes ".i") e (on_inputs limits h count args)
    by_inputs false e = by_outputs (bytes_eq word (codes ".o")) refl e

-- the tests that a keyword line without a fault fails
pub not_inside : (limits : Limits) (h : Header) (line : List ℕ) → keyword_fault limits h line ≡ None → is_inside_row h line ≡ false
unfolding keyword_fault
not_inside limits h line e = (none_holds (keyword_tests limits h line) e).1.0

pub not_repeated : (limits : Limits) (h : Header) (line : List ℕ) → keyword_fault limits h line ≡ None → is_repeated h line ≡ false
unfolding keyword_fault
not_repeated limits h line e = (none_holds (keyword_tests limits h line) e).1.1.0

-- the header after a keyword line
pub after_keyword : (limits : Limits) (h : Header) (line : List ℕ) (count : ℕ) → is_keyword_line line ≡ true → keyword_fault limits h line ≡ None → h.ended ≡ false → h.unfinished ≡ left_over (size_in h) count
    → after_line limits h line ≡ record (with_keyword limits h line) { lines = h.lines + 1 }
unfolding is_repeated is_inside_row
after_keyword limits h line count k none going rest =
    ap (λ (s : List ℕ). record (after_line limits h line) {
      unfinished = left_over (size_by (option_or h.inputs (inputs_on limits line)) (option_or h.outputs (outputs_on limits line))) (h.unfinished + length s);
      has_symbols = h.has_symbols || nat_lt 0 (length s);
    }) (symbols_of_keyword line k)
    ∙ adds_word limits h count (arguments line) (keyword line) (not_repeated limits h line none) (not_inside limits h line none) going rest
