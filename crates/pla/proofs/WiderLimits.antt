-- What files under limits are under wider ones.
use Rattle.std.proofs.Common.{◌≡◌, ℕ, ◌+◌, ◌≤◌, Bool, true, false, cond, not, List, [], ◌∷◌, ◌++◌, length, Option, Some, None, refl, ap, sym, ◌∙◌, subst, append_assoc, append-nil, find, option_map, ◌⊎◌, inl, inr, arith, unwrap_or}
use Rattle.std.specs.Prelude.{◌&&◌, ◌||◌, is_some, is_none, nat_le, nat_lt, codes}
use Rattle.std.specs.List.{list_any, list_all}
use Rattle.std.specs.Option.{option_or}
use Rattle.std.specs.Char.{is_ascii_digit}
use Rattle.cube.specs.Limits.{Limits}
use Rattle.pla.specs.declared.ending.Ending.{Ending}
use Rattle.pla.specs.declared.ending.Ending.TheVariants.{End, Failed}
use Rattle.pla.specs.declared.fault.ReadKind.{ReadKind}
use Rattle.pla.specs.declared.fault.ReadKind.TheVariants.{TooManyLines, LineTooLong, ReadFailed}
use Rattle.pla.specs.declared.fault.ReadFault.{ReadFault}
use Rattle.pla.specs.Lines.{is_empty, arguments, all_symbols, lines_of, open_rest}
use Rattle.pla.specs.Keywords.{has, number, number_within, inputs_on, outputs_on, names_on, type_on, first_given, size_by, is_ending, looked_at}
use Rattle.pla.specs.Symbols.{left_over}
use Rattle.pla.specs.Header.{Header, header_of, size_in, type_in}
use Rattle.pla.specs.declared.row_lines.Part.TheVariants.{On, DontCare, Off}
use Rattle.pla.specs.Lists.{given_list}
use Rattle.pla.specs.Fault.{tests, first_kind, fault_in, fault_on, sound, sound_after, line_fault, end_kind, end_fault, rest_kind, rest_fault, last_fault, has_ending, at_line, fault_of, is_past_limit, is_too_long, is_bad_number}
use Rattle.pla.specs.Description.{Description}
use Rattle.pla.specs.WiderLimits.{IsWithin, SameLimitsOf, IsReadAlike}
use Rattle.pla.proofs.After.{first_more}
use Rattle.pla.proofs.KeywordLines.{none_holds}
use Rattle.pla.proofs.FirstFaults.{FirstFault, split_sound, fault_here, no_fault_yet}

-- ---- tests that hold less often

-- the same kinds in the same order, each test at most where the other one holds, and of some kinds
-- exactly there
abbrev Weaker : (ReadKind → Type 0) → List (Bool × ReadKind) → List (Bool × ReadKind) → Type 0
Weaker Same [] [] = Unit {0}
Weaker Same [] (t ∷ ts) = ⊥
Weaker Same (s ∷ ss) [] = ⊥
Weaker Same (s ∷ ss) (t ∷ ts) = ((s.1 ≡ t.1) × (s.0 ≡ false → t.0 ≡ false) × (Same s.1 → t.0 ≡ s.0)) × Weaker Same ss ts

-- what is none stays none, and what is one of some kinds stays
record Stays {X : Type 0} (Same : X → Type 0) (old new : Option X) : Type 0 where
  none : old ≡ None → new ≡ None
  some : (x : X) → old ≡ Some x → Same x → new ≡ Some x

stay_step : (Same : ReadKind → Type 0) (b c : Bool) (k l : ReadKind) (old new : Option (Bool × ReadKind)) → k ≡ l → (b ≡ false → c ≡ false) → (Same k → c ≡ b)
    → Stays Same (option_map (λ (t : Bool × ReadKind). t.1) old) (option_map (λ (t : Bool × ReadKind). t.1) new)
    → Stays Same (option_map (λ (t : Bool × ReadKind). t.1) (cond b (Some (b, k)) old)) (option_map (λ (t : Bool × ReadKind). t.1) (cond c (Some (c, l)) new))
stay_step Same true c k l old new e less exact rest = record {
  none = λ h. cc;
  some = λ x h same.
      let is : k ≡ x = cc in
      let holds : c ≡ true = exact (subst Same (sym is) same) in
      ap (λ (d : Bool). option_map (λ (t : Bool × ReadKind). t.1) (cond d (Some (c, l)) new)) holds ∙ ap (λ x. Some x) (sym e ∙ is);
}
stay_step Same false c k l old new e less exact rest =
    let fails : c ≡ false = less refl in
    let there = ap (λ (d : Bool). option_map (λ (t : Bool × ReadKind). t.1) (cond d (Some (c, l)) new)) fails in record {
      none = λ h. there ∙ rest.none h;
      some = λ x h same. there ∙ rest.some x h same;
    }

kinds_stay : (Same : ReadKind → Type 0) (ss ts : List (Bool × ReadKind)) → Weaker Same ss ts → Stays Same (first_kind ss) (first_kind ts)
kinds_stay Same [] [] w = record { none = λ h. h; some = λ x h same. h }
kinds_stay Same [] (t ∷ ts) w = absurd w
kinds_stay Same (s ∷ ss) [] w = absurd w
kinds_stay Same (s ∷ ss) (t ∷ ts) w = stay_step Same s.0 t.0 s.1 t.1 (find (λ t. t.0) ss) (find (λ t. t.0) ts) w.0.0 w.0.1 w.0.2 (kinds_stay Same ss ts w.1)

-- ---- numbers

widened : (d : Bool) (n narrow wide : ℕ) (fits fits' : Bool) → nat_le n narrow ≡ fits → nat_le n wide ≡ fits' → narrow ≤ wide → is_none (cond (d && fits) (Some n) None) ≡ false
    → cond (d && fits') (Some n) None ≡ cond (d && fits) (Some n) None
widened false n narrow wide fits fits' e e' l h = cc
widened true n narrow wide false fits' e e' l h = cc
widened true n narrow wide true true e e' l h = refl
widened true n narrow wide true false e e' l h = grind arith

-- a number within a range is within a wider one
number_widened : (low narrow wide : ℕ) (words : List (List ℕ)) → narrow ≤ wide → is_none (number_within low narrow words) ≡ false → number_within low wide words ≡ number_within low narrow words
number_widened low narrow wide [] l h = refl
number_widened low narrow wide (word ∷ []) l h = widened (list_all is_ascii_digit word && nat_le low (number word)) (number word) narrow wide (nat_le (number word) narrow) (nat_le (number word) wide) refl refl l h
number_widened low narrow wide (word ∷ next ∷ words) l h = refl

given_step : (has : Bool) (old new : Option ℕ) → (has && is_none old) ≡ false → (is_none old ≡ false → new ≡ old) → cond has new None ≡ cond has old None
given_step true old new h same = same h
given_step false old new h same = refl

-- the line gives the same numbers
abbrev SameOn : Limits → Limits → List ℕ → Type 0
SameOn narrow wide line = (inputs_on wide line ≡ inputs_on narrow line) × (outputs_on wide line ≡ outputs_on narrow line)

either_false : (a b : Bool) → (a || b) ≡ false → (a ≡ false) × (b ≡ false)
either_false true b h = cc
either_false false b h = (refl, h)

same_numbers : (narrow wide : Limits) (h : Header) (line : List ℕ) → IsWithin narrow wide → is_bad_number narrow h line ≡ false → SameOn narrow wide line
unfolding is_bad_number
same_numbers narrow wide h line within good =
    let args = arguments line in
    let none = either_false (has (codes ".i") line && is_none (number_within 0 narrow.inputs args)) (has (codes ".o") line && is_none (number_within 1 narrow.outputs args)) good in (
      given_step (has (codes ".i") line) (number_within 0 narrow.inputs args) (number_within 0 wide.inputs args) none.0 (number_widened 0 narrow.inputs wide.inputs args within.inputs),
      given_step (has (codes ".o") line) (number_within 1 narrow.outputs args) (number_within 1 wide.outputs args) none.1 (number_widened 1 narrow.outputs wide.outputs args within.outputs),
    )

-- a test of equal numbers
bad_same : (narrow wide : Limits) (h : Header) (line : List ℕ) → (narrow.inputs ≡ wide.inputs) × (narrow.outputs ≡ wide.outputs) → is_bad_number wide h line ≡ is_bad_number narrow h line
unfolding is_bad_number
bad_same narrow wide h line same =
    ap (λ n. (has (codes ".i") line && is_none (number_within 0 n (arguments line))) || (has (codes ".o") line && is_none (number_within 1 wide.outputs (arguments line)))) (sym same.0)
    ∙ ap (λ n. (has (codes ".i") line && is_none (number_within 0 narrow.inputs (arguments line))) || (has (codes ".o") line && is_none (number_within 1 n (arguments line)))) (sym same.1)

good_step : (has : Bool) (old new : Option ℕ) → (has && is_none old) ≡ false → (is_none old ≡ false → new ≡ old) → (has && is_none new) ≡ false
good_step true old new h same = ap is_none (same h) ∙ h
good_step false old new h same = refl

-- ---- the tests of a line

less_bad : (narrow wide : Limits) (h : Header) (line : List ℕ) → IsWithin narrow wide → is_bad_number narrow h line ≡ false → is_bad_number wide h line ≡ false
unfolding is_bad_number
less_bad narrow wide h line within good =
    let args = arguments line in
    let none = either_false (has (codes ".i") line && is_none (number_within 0 narrow.inputs args)) (has (codes ".o") line && is_none (number_within 1 narrow.outputs args)) good in
    ap (λ b. b || (has (codes ".o") line && is_none (number_within 1 wide.outputs args)))
    (good_step (has (codes ".i") line) (number_within 0 narrow.inputs args) (number_within 0 wide.inputs args) none.0 (number_widened 0 narrow.inputs wide.inputs args within.inputs))
    ∙ good_step (has (codes ".o") line) (number_within 1 narrow.outputs args) (number_within 1 wide.outputs args) none.1 (number_widened 1 narrow.outputs wide.outputs args within.outputs)

less_past : (narrow wide : Limits) (h : Header) (line : List ℕ) → IsWithin narrow wide → is_past_limit narrow h line ≡ false → is_past_limit wide h line ≡ false
unfolding is_past_limit
less_past narrow wide h line within e = let fits = within.lines in grind arith

past_same : (narrow wide : Limits) (h : Header) (line : List ℕ) → narrow.lines ≡ wide.lines → is_past_limit wide h line ≡ is_past_limit narrow h line
unfolding is_past_limit
past_same narrow wide h line e = ap (λ n. nat_le n h.lines) (sym e)

less_long : (narrow wide : Limits) (h : Header) (line : List ℕ) → IsWithin narrow wide → is_too_long narrow h line ≡ false → is_too_long wide h line ≡ false
unfolding is_too_long
less_long narrow wide h line within e = let fits = within.line_bytes in grind arith

long_same : (narrow wide : Limits) (h : Header) (line : List ℕ) → narrow.line_bytes ≡ wide.line_bytes → is_too_long wide h line ≡ is_too_long narrow h line
unfolding is_too_long
long_same narrow wide h line e = ap (λ n. nat_lt n (length line)) (sym e)

tests_weaker : (narrow wide : Limits) (h : Header) (line : List ℕ) → IsWithin narrow wide → Weaker (SameLimitsOf narrow wide) (tests narrow h line) (tests wide h line)
tests_weaker narrow wide h line within = (
  (refl, less_past narrow wide h line within, past_same narrow wide h line),
  (
    (refl, less_long narrow wide h line within, long_same narrow wide h line),
    (
      (refl, (λ e. e), (λ s. refl)),
      (
        (refl, (λ e. e), (λ s. refl)),
        (
          (refl, (λ e. e), (λ s. refl)),
          (
            (refl, less_bad narrow wide h line within, bad_same narrow wide h line),
            (
              (refl, (λ e. e), (λ s. refl)),
              (
                (refl, (λ e. e), (λ s. refl)),
                (
                  (refl, (λ e. e), (λ s. refl)),
                  (
                    (refl, (λ e. e), (λ s. refl)),
                    (
                      (refl, (λ e. e), (λ s. refl)),
                      (
                        (refl, (λ e. e), (λ s. refl)),
                        tt,
                      ),
                    ),
                  ),
                ),
              ),
            ),
          ),
        ),
      ),
    ),
  ),
)

fault_stays : (narrow wide : Limits) (h : Header) (line : List ℕ) → IsWithin narrow wide → Stays (SameLimitsOf narrow wide) (fault_in narrow h line) (fault_in wide h line)
unfolding fault_in
fault_stays narrow wide h line within = kinds_stay (SameLimitsOf narrow wide) (tests narrow h line) (tests wide h line) (tests_weaker narrow wide h line within)

good_number : (limits : Limits) (h : Header) (line : List ℕ) → fault_in limits h line ≡ None → is_bad_number limits h line ≡ false
unfolding fault_in
good_number limits h line e = (none_holds (tests limits h line) e).1.1.1.1.1.0

-- ---- the lines

-- the lines give the same numbers
abbrev SameNumbers : Limits → Limits → List (List ℕ) → Type 0
SameNumbers narrow wide lines = (first_given (inputs_on wide) lines ≡ first_given (inputs_on narrow) lines) × (first_given (outputs_on wide) lines ≡ first_given (outputs_on narrow) lines)

more_numbers : (narrow wide : Limits) (before : List (List ℕ)) (line : List ℕ) → SameNumbers narrow wide before → SameOn narrow wide line → SameNumbers narrow wide (before ++ line ∷ [])
more_numbers narrow wide before line same on = (
  first_more (inputs_on wide) before line ∙ ap (λ o. option_or o (inputs_on wide line)) same.0 ∙ ap (option_or (first_given (inputs_on narrow) before)) on.0 ∙ sym (first_more (inputs_on narrow) before line),
  first_more (outputs_on wide) before line ∙ ap (λ o. option_or o (outputs_on wide line)) same.1 ∙ ap (option_or (first_given (outputs_on narrow) before)) on.1 ∙ sym (first_more (outputs_on narrow) before line),
)

-- the header of lines that give these numbers
abbrev header_by : List (List ℕ) → Option ℕ → Option ℕ → Header
header_by lines i o = record {
  lines = length lines;
  inputs = i;
  outputs = o;
  input_names = first_given (names_on (codes ".ilb")) lines;
  output_names = first_given (names_on (codes ".ob")) lines;
  file_type = first_given type_on lines;
  unfinished = left_over (size_by i o) (length (all_symbols lines));
  has_symbols = nat_lt 0 (length (all_symbols lines));
  ended = list_any is_ending lines;
}

header_same : (narrow wide : Limits) (lines : List (List ℕ)) → SameNumbers narrow wide lines → header_of wide lines ≡ header_of narrow lines
header_same narrow wide lines same =
    ap (λ i. header_by lines i (first_given (outputs_on wide) lines)) same.0 ∙ ap (header_by lines (first_given (inputs_on narrow) lines)) same.1

-- a line after lines that give the same numbers
line_stays : (narrow wide : Limits) (before : List (List ℕ)) (line : List ℕ) → IsWithin narrow wide → SameNumbers narrow wide before → Stays (SameLimitsOf narrow wide) (fault_on narrow before line) (fault_on wide before line)
line_stays narrow wide before line within same =
    subst (λ h. Stays (SameLimitsOf narrow wide) (fault_on narrow before line) (fault_in wide h line)) (sym (header_same narrow wide before same)) (fault_stays narrow wide (header_of narrow before) line within)

-- what lines without a fault under the narrow limits are under the wide ones
abbrev Sound : Limits → Limits → List (List ℕ) → List (List ℕ) → Type 0
Sound narrow wide before lines = (sound_after (fault_on wide) before lines ≡ lines) × SameNumbers narrow wide (before ++ lines)

sound_step : (narrow wide : Limits) (before : List (List ℕ)) (line : List ℕ) (lines : List (List ℕ)) (o : Option ReadKind) → fault_on narrow before line ≡ o
    → cond (is_some o) [] (line ∷ sound_after (fault_on narrow) (before ++ line ∷ []) lines) ≡ line ∷ lines
    → (fault_on narrow before line ≡ None → sound_after (fault_on narrow) (before ++ line ∷ []) lines ≡ lines → (fault_on wide before line ≡ None) × Sound narrow wide (before ++ line ∷ []) lines)
    → Sound narrow wide before (line ∷ lines)
sound_step narrow wide before line lines (Some kind) e h ih = cc
sound_step narrow wide before line lines None e h ih =
    let rest : sound_after (fault_on narrow) (before ++ line ∷ []) lines ≡ lines = cc in
    let there = ih e rest in (
      ap (λ o. cond (is_some o) [] (line ∷ sound_after (fault_on wide) (before ++ line ∷ []) lines)) there.0 ∙ ap (λ ls. line ∷ ls) there.1.0,
      subst (SameNumbers narrow wide) (append_assoc before (line ∷ []) lines) there.1.1,
    )

sound_wider : (narrow wide : Limits) (before lines : List (List ℕ)) → IsWithin narrow wide → SameNumbers narrow wide before → sound_after (fault_on narrow) before lines ≡ lines → Sound narrow wide before lines
sound_wider narrow wide before [] within same h = (refl, subst (SameNumbers narrow wide) (sym (append-nil before)) same)
sound_wider narrow wide before (line ∷ lines) within same h =
    sound_step narrow wide before line lines (fault_on narrow before line) refl h
    (λ e rest. (
      (line_stays narrow wide before line within same).none e,
      sound_wider narrow wide (before ++ line ∷ []) lines within (more_numbers narrow wide before line same (same_numbers narrow wide (header_of narrow before) line within (good_number narrow (header_of narrow before) line e))) rest,
    ))

-- ---- the fault of the whole

-- the same of faults with their lines
abbrev FaultStays : Limits → Limits → Option ReadFault → Option ReadFault → Type 0
FaultStays narrow wide = Stays (λ fault. SameLimitsOf narrow wide fault.kind)

same_stays : {X : Type 0} (Same : X → Type 0) (old new : Option X) → new ≡ old → Stays Same old new
same_stays Same old new e = record { none = λ h. e ∙ h; some = λ x h s. e ∙ h }

at_stays : (narrow wide : Limits) (number : ℕ) (old new : Option ReadKind) → Stays (SameLimitsOf narrow wide) old new → FaultStays narrow wide (option_map (at_line number) old) (option_map (at_line number) new)
at_stays narrow wide number None new s = record { none = λ h. ap (option_map (at_line number)) (s.none refl); some = λ x h same. cc }
at_stays narrow wide number (Some kind) new s = record {
  none = λ h. cc;
  some = λ x h same. let is : at_line number kind ≡ x = cc in ap (option_map (at_line number)) (s.some kind refl (subst (λ f. SameLimitsOf narrow wide f.kind) (sym is) same)) ∙ h;
}

or_stays : {X : Type 0} (Same : X → Type 0) (old new : Option X) (last : X) → Stays Same old new → Stays Same (option_or old (Some last)) (option_or new (Some last))
or_stays Same None new last s = record { none = λ h. cc; some = λ x h same. ap (λ o. option_or o (Some last)) (s.none refl) ∙ h }
or_stays Same (Some y) new last s = record { none = λ h. cc; some = λ x h same. ap (λ o. option_or o (Some last)) (s.some x h same) }

-- what stands of two lengths, as tests
as_tests : (many long : Bool) → cond many (Some TooManyLines) (cond long (Some LineTooLong) None) ≡ first_kind ((many, TooManyLines) ∷ (long, LineTooLong) ∷ [])
as_tests true long = refl
as_tests false true = refl
as_tests false false = refl

past_less : (some : Bool) (narrow wide count : ℕ) → narrow ≤ wide → (some && nat_le narrow count) ≡ false → (some && nat_le wide count) ≡ false
past_less true narrow wide count l e = grind arith
past_less false narrow wide count l e = refl

long_less : (narrow wide count : ℕ) → narrow ≤ wide → nat_lt narrow count ≡ false → nat_lt wide count ≡ false
long_less narrow wide count l e = grind arith

stays_of : {X : Type 0} (Same : X → Type 0) (old old' new new' : Option X) → old ≡ old' → new ≡ new' → Stays Same old' new' → Stays Same old new
stays_of Same old old' new new' e f s = record { none = λ h. f ∙ s.none (sym e ∙ h); some = λ x h same. f ∙ s.some x (sym e ∙ h) same }

rest_stays : (narrow wide : Limits) (count : ℕ) (rest : List ℕ) → IsWithin narrow wide → Stays (SameLimitsOf narrow wide) (rest_kind narrow count rest) (rest_kind wide count rest)
rest_stays narrow wide count rest within =
    let some = not (is_empty rest) in
    let tests_by : Limits → List (Bool × ReadKind) = λ limits. (some && nat_le limits.lines count, TooManyLines) ∷ (nat_lt limits.line_bytes (length rest), LineTooLong) ∷ [] in
    stays_of (SameLimitsOf narrow wide) (rest_kind narrow count rest) (first_kind (tests_by narrow)) (rest_kind wide count rest) (first_kind (tests_by wide))
    (as_tests (some && nat_le narrow.lines count) (nat_lt narrow.line_bytes (length rest)))
    (as_tests (some && nat_le wide.lines count) (nat_lt wide.line_bytes (length rest)))
    (kinds_stay (SameLimitsOf narrow wide) (tests_by narrow) (tests_by wide) (
      (refl, past_less some narrow.lines wide.lines count within.lines, (λ e. ap (λ n. some && nat_le n count) (sym e))),
      (
        (refl, long_less narrow.line_bytes wide.line_bytes (length rest) within.line_bytes, (λ e. ap (λ n. nat_lt n (length rest)) (sym e))),
        tt,
      ),
    ))

either_stays : {X : Type 0} (Same : X → Type 0) (b : Bool) (old new old' new' : Option X) → Stays Same old new → Stays Same old' new' → Stays Same (cond b old old') (cond b new new')
either_stays Same true old new old' new' s s' = s
either_stays Same false old new old' new' s s' = s'

end_stays : (narrow wide : Limits) (lines : List (List ℕ)) → SameNumbers narrow wide lines → FaultStays narrow wide (end_fault narrow lines) (end_fault wide lines)
end_stays narrow wide lines same =
    same_stays (λ fault. SameLimitsOf narrow wide fault.kind) (end_fault narrow lines) (end_fault wide lines) (ap (λ h. option_map (at_line (length lines)) (end_kind h)) (header_same narrow wide lines same))

last_stays : (narrow wide : Limits) (ending : Ending) (rest : List ℕ) (lines : List (List ℕ)) → IsWithin narrow wide → SameNumbers narrow wide lines → FaultStays narrow wide (last_fault narrow ending rest lines) (last_fault wide ending rest lines)
last_stays narrow wide End rest lines within same = end_stays narrow wide lines same
last_stays narrow wide Failed rest lines within same =
    let Same = λ (fault : ReadFault). SameLimitsOf narrow wide fault.kind in
    let failed = at_line (length lines + 1) ReadFailed in
    either_stays Same (has_ending lines) (end_fault narrow lines) (end_fault wide lines) (option_or (rest_fault narrow lines rest) (Some failed)) (option_or (rest_fault wide lines rest) (Some failed))
    (end_stays narrow wide lines same)
    (or_stays Same (rest_fault narrow lines rest) (rest_fault wide lines rest) failed (at_stays narrow wide (length lines + 1) (rest_kind narrow (length lines) rest) (rest_kind wide (length lines) rest) (rest_stays narrow wide (length lines) rest within)))

-- what a header and symbols describe
abbrev pub description_by : Header → List ℕ → Description
description_by h symbols = record {
  size = unwrap_or (size_in h) (record { inputs = 0; outputs = 0 });
  input_names = h.input_names;
  output_names = h.output_names;
  file_type = type_in h;
  on = given_list (type_in h) On (size_in h) symbols;
  dc = given_list (type_in h) DontCare (size_in h) symbols;
  off = given_list (type_in h) Off (size_in h) symbols;
}

-- a file under limits, and under wider ones
pub read_alike : (narrow wide : Limits) → IsWithin narrow wide → (ending : Ending) (bytes : List ℕ) → IsReadAlike narrow wide ending bytes
read_alike narrow wide within ending bytes = by_split (split_sound (fault_on narrow) [] lines)
  where
    lines : List (List ℕ)
    lines = looked_at (lines_of ending bytes)

    last : Limits → Option ReadFault
    last limits = last_fault limits ending (open_rest bytes) lines

    by_split : (sound narrow lines ≡ lines) ⊎ FirstFault (fault_on narrow) [] lines → IsReadAlike narrow wide ending bytes
    by_split (inl s) =
        let there = sound_wider narrow wide [] lines within (refl, refl) s in
        let stays : FaultStays narrow wide (fault_of narrow ending bytes) (fault_of wide ending bytes) =
        stays_of (λ fault. SameLimitsOf narrow wide fault.kind) (fault_of narrow ending bytes) (last narrow) (fault_of wide ending bytes) (last wide)
        (ap (λ o. option_or o (last narrow)) (no_fault_yet narrow lines s)) (ap (λ o. option_or o (last wide)) (no_fault_yet wide lines there.0))
        (last_stays narrow wide ending (open_rest bytes) lines within there.1) in record {
          faultless = stays.none;
          same_description = λ none. ap (λ h. description_by h (all_symbols lines)) (header_same narrow wide lines there.1);
          same_fault = stays.some;
        }
    by_split (inr f) =
        let there = sound_wider narrow wide [] f.front within (refl, refl) f.sane in
        let found = at_line (length f.front + 1) f.kind in
        let here : fault_of narrow ending bytes ≡ Some found =
        ap (λ o. option_or o (last narrow)) (ap (line_fault narrow) f.whole ∙ fault_here narrow f.front f.after f.line f.kind f.sane f.here) in record {
          faultless = λ none. cc;
          same_description = λ none. let no : Some found ≡ None = sym here ∙ none in cc;
          same_fault = λ fault h same.
              let is : found ≡ fault = cc in
              ap (λ o. option_or o (last wide)) (ap (line_fault wide) f.whole ∙ fault_here wide f.front f.after f.line f.kind there.0
              ((line_stays narrow wide f.front f.line within there.1).some f.kind f.here (subst (λ x. SameLimitsOf narrow wide x.kind) (sym is) same))) ∙ ap (λ x. Some x) is;
        }
