-- What a piece does, line by line.
use Rattle.std.proofs.Common.{◌≡◌, ℕ, ◌+◌, ◌*◌, ◌≤◌, Bool, true, false, cond, List, [], ◌∷◌, ◌++◌, length, Option, Some, None, refl, ap, sym, ◌∙◌, append_assoc, append-nil, length-append, arith, eqb}
use Rattle.std.specs.Prelude.{Result, Ok, Err, OnOk, IfErr, is_some, option_map}
use Rattle.std.specs.Io.KnownBytes.{Appends}
use Rattle.std.proofs.lemmas.List.Concat.{flat_map-append}
use Rattle.cube.specs.Limits.{Limits, format_limits}
use Rattle.pla.specs.declared.ending.Ending.{Ending}
use Rattle.pla.specs.declared.fault.ReadKind.{ReadKind}
use Rattle.pla.specs.declared.fault.ReadKind.TheVariants.{WriteFailed, OutOfMemory}
use Rattle.pla.specs.declared.fault.ReadFault.{ReadFault}
use Rattle.pla.specs.declared.echo.Echo.{Echo}
use Rattle.pla.specs.declared.calls.WriteCalls.{WriteCalls}
use Rattle.pla.specs.Device.{AllWritten, AppendsFront, LastUnwritten}
use Rattle.pla.specs.Keywords.{looked_at}
use Rattle.pla.specs.Fault.{sound, sound_after, fault_on, at_line, rest_kind, open_fault}
use Rattle.pla.specs.Echoes.{due, delivered_lines, echo_all, echo_of}
use Rattle.pla.specs.Scan.{Parsed, Scan, StandsForLines, StandsFor}
use Rattle.pla.specs.Reads.{MatchCause, IsTold, WritesGrowth, CountsWrites}
use Rattle.pla.specs.Steps.{TakesLine, WritesLine, NoFeed, position_in}
use Rattle.pla.proofs.Cuts.{cut_of, ended_cut}
use Rattle.pla.proofs.LookedAt.{looked_grows}
use Rattle.pla.proofs.Settled.{fault_fixed, delivered_on}
use Rattle.pla.proofs.Causes.{cause_map, own_cause, line_own}
use Rattle.std.proofs.lemmas.List.{nil_from_length}
use Rattle.std.proofs.lemmas.Bool.{eqb-true}
use Rattle.pla.specs.Header.{header_of}
use Rattle.pla.proofs.Overlong.{fine_length}
use Rattle.pla.proofs.StepLaws.{going_of, line_taken, line_due, line_refused, line_bad_due, rest_refused, rest_due, taken_fine}

-- ---- what is due only grows

sound_step : {K : Type 0} (fault : List (List ℕ) → List ℕ → Option K) (before : List (List ℕ)) (line : List ℕ) (lines more : List (List ℕ)) (b : Bool)
    → (new : List (List ℕ)) × (sound_after fault (before ++ line ∷ []) (lines ++ more) ≡ sound_after fault (before ++ line ∷ []) lines ++ new)
    → (new : List (List ℕ)) × (cond b [] (line ∷ sound_after fault (before ++ line ∷ []) (lines ++ more)) ≡ cond b [] (line ∷ sound_after fault (before ++ line ∷ []) lines) ++ new)
sound_step fault before line lines more true h = ([], refl)
sound_step fault before line lines more false h = (h.0, ap (λ ls. line ∷ ls) h.1)

pub sound_grows : {K : Type 0} (fault : List (List ℕ) → List ℕ → Option K) (before lines more : List (List ℕ)) → (new : List (List ℕ)) × (sound_after fault before (lines ++ more) ≡ sound_after fault before lines ++ new)
sound_grows fault before [] more = (sound_after fault before more, refl)
sound_grows fault before (line ∷ lines) more = sound_step fault before line lines more (is_some (fault before line)) (sound_grows fault (before ++ line ∷ []) lines more)

pub due_grows : (limits : Limits) (echo : Echo) (ending : Option Ending) (text more : List ℕ) → (new : List ℕ) × (due limits echo ending (text ++ more) ≡ due limits echo None text ++ new)
due_grows limits echo ending text more =
    let c = cut_of text in
    let g = looked_grows c.lines (delivered_lines ending (c.rest ++ more)) in
    let s = sound_grows (fault_on limits) [] (looked_at c.lines) g.0 in (
      echo_all echo s.0,
      ap (λ ls. echo_all echo (sound limits (looked_at ls))) (delivered_on text c ending more) ∙ ap (λ ls. echo_all echo (sound limits ls)) g.1 ∙ ap (echo_all echo) s.1
          ∙ flat_map-append (echo_of echo) (sound limits (looked_at c.lines)) s.0
          ∙ ap (λ ls. echo_all echo (sound limits (looked_at ls)) ++ echo_all echo s.0) (sym (ended_cut text c)),
    )

-- ---- a step that takes a line

pub mapped : {K F : Type 0} (g : K → F) (o : Option K) (f : F) → option_map g o ≡ Some f → (k : K) × (o ≡ Some k) × (g k ≡ f)
mapped g (Some k) f h = (k, refl, cc)
mapped g None f h = cc

pub ends_stands : {T : Type 0} (r : Result T ReadFault) (old new : Scan) (text bytes line : List ℕ) → StandsFor format_limits old text → old.parsed.header.ended ≡ false → NoFeed bytes → line ≡ old.rest ++ bytes
    → ((before : List (List ℕ)) → StandsForLines format_limits old.parsed before → TakesLine format_limits before line new.parsed r) → new.rest ≡ [] → OnOk r (StandsFor format_limits new (text ++ (bytes ++ 10 ∷ [])))
ends_stands (Ok x) old new text bytes line st going none is takes empty = let g = going_of format_limits old text st going in line_taken format_limits old new text bytes line g none is (takes g.cut.lines g.stands) empty
ends_stands (Err f) old new text bytes line st going none is takes empty = tt

pub ends_fault : {T : Type 0} (r : Result T ReadFault) (old : Scan) (new : Parsed) (text bytes line : List ℕ) → StandsFor format_limits old text → old.parsed.header.ended ≡ false → NoFeed bytes → line ≡ old.rest ++ bytes
    → ((before : List (List ℕ)) → StandsForLines format_limits old.parsed before → TakesLine format_limits before line new r) → IfErr r (IsTold (open_fault format_limits (text ++ (bytes ++ 10 ∷ []))))
ends_fault (Ok x) old new text bytes line st going none is takes = tt
ends_fault (Err f) old new text bytes line st going none is takes =
    let g = going_of format_limits old text st going in
    cause_map f.kind (λ h. h.0) (λ h. h)
    (λ h. let k = mapped (at_line (length g.cut.lines + 1)) (fault_on format_limits g.cut.lines line) f h in line_refused format_limits old text bytes line k.0 g none is k.1 ∙ ap Some k.2)
    (takes g.cut.lines g.stands)

-- what was written of what is due, by the cause
pub written_by : {P X : Type 0} (L M : Type 0) (kind : ReadKind) (old new : Option (List ℕ)) (before now echo : List ℕ) → (P → now ≡ before ++ echo) → (w : List ℕ) × (now ≡ before ++ w) → (X → now ≡ before)
    → MatchCause kind (L × P) M X → MatchCause kind (AppendsFront old new echo) (Appends old new []) (Appends old new [])
    → (w : List ℕ) × (now ≡ before ++ w) × MatchCause kind (AppendsFront old new w) (AppendsFront old new w) (Appends old new w)
written_by L M WriteFailed old new before now echo fine grows bad h k = (echo, fine h.1, k)
written_by L M OutOfMemory old new before now echo fine grows bad h k = (grows.0, grows.1, ([], grows.0, refl, k))
written_by L M _ old new before now echo fine grows bad h k = ([], bad h ∙ sym (append-nil before), k)

pub ends_written : {T : Type 0} (r : Result T ReadFault) (old : Scan) (new : Parsed) (text bytes line : List ℕ) (taken taken_after : Option (List ℕ)) → StandsFor format_limits old text → old.parsed.header.ended ≡ false → NoFeed bytes → line ≡ old.rest ++ bytes
    → ((before : List (List ℕ)) → StandsForLines format_limits old.parsed before → TakesLine format_limits before line new r) → WritesLine taken taken_after r old.echo line
    → WritesGrowth taken taken_after r (due format_limits old.echo None text) (due format_limits old.echo None (text ++ (bytes ++ 10 ∷ [])))
ends_written (Ok x) old new text bytes line taken taken_after st going none is takes writes =
    let g = going_of format_limits old text st going in
    (echo_of old.echo line, line_due format_limits old old.echo text bytes line g none is (taken_fine format_limits g.cut.lines line old.parsed new g.stands (takes g.cut.lines g.stands)), writes)
ends_written (Err f) old new text bytes line taken taken_after st going none is takes writes =
    let g = going_of format_limits old text st going in
    written_by _ _ f.kind taken taken_after (due format_limits old.echo None text) (due format_limits old.echo None (text ++ (bytes ++ 10 ∷ []))) (echo_of old.echo line)
    (line_due format_limits old old.echo text bytes line g none is)
    (due_grows format_limits old.echo None text (bytes ++ 10 ∷ []))
    (λ h. let k = mapped (at_line (length g.cut.lines + 1)) (fault_on format_limits g.cut.lines line) f h in line_bad_due format_limits old old.echo text bytes line k.0 g none is k.1)
    (takes g.cut.lines g.stands) writes

-- ---- a rest that isn't kept

pub appends_nothing : (known : Option (List ℕ)) → Appends known known []
appends_nothing None = tt
appends_nothing (Some bytes) = sym (append-nil bytes)

-- the text goes on by more behind the bytes that weren't kept
pub held_fault : (f : ReadFault) (old : Scan) (text bytes more : List ℕ) → StandsFor format_limits old text → old.parsed.header.ended ≡ false → NoFeed bytes
    → MatchCause f.kind ⊥ (f.line ≡ 0) (option_map (at_line (old.parsed.header.lines + 1)) (rest_kind format_limits old.parsed.header.lines (old.rest ++ bytes)) ≡ Some f) → IsTold (open_fault format_limits (text ++ (bytes ++ more))) f
held_fault f old text bytes more st going none refused =
    let g = going_of format_limits old text st going in
    cause_map f.kind (λ h. absurd h) (λ h. h) (λ h. ap (open_fault format_limits) (sym (append_assoc text bytes more)) ∙ (fault_fixed format_limits (text ++ bytes) f (rest_refused format_limits old text bytes f g none h)).still more) refused

unwritten_by : {X : Type 0} (M : Type 0) (kind : ReadKind) (taken : Option (List ℕ)) (before now : List ℕ) → (w : List ℕ) × (now ≡ before ++ w) → (X → now ≡ before) → MatchCause kind ⊥ M X
    → (w : List ℕ) × (now ≡ before ++ w) × MatchCause kind (AppendsFront taken taken w) (AppendsFront taken taken w) (Appends taken taken w)
unwritten_by M WriteFailed taken before now grows bad h = absurd h
unwritten_by M OutOfMemory taken before now grows bad h = (grows.0, grows.1, ([], grows.0, refl, appends_nothing taken))
unwritten_by M _ taken before now grows bad h = ([], bad h ∙ sym (append-nil before), appends_nothing taken)

pub held_written : (f : ReadFault) (old : Scan) (text bytes more : List ℕ) (taken : Option (List ℕ)) → StandsFor format_limits old text → old.parsed.header.ended ≡ false → NoFeed bytes
    → MatchCause f.kind ⊥ (f.line ≡ 0) (option_map (at_line (old.parsed.header.lines + 1)) (rest_kind format_limits old.parsed.header.lines (old.rest ++ bytes)) ≡ Some f)
    → (w : List ℕ) × (due format_limits old.echo None (text ++ (bytes ++ more)) ≡ due format_limits old.echo None text ++ w) × MatchCause f.kind (AppendsFront taken taken w) (AppendsFront taken taken w) (Appends taken taken w)
held_written f old text bytes more taken st going none refused =
    let g = going_of format_limits old text st going in
    unwritten_by _ f.kind taken (due format_limits old.echo None text) (due format_limits old.echo None (text ++ (bytes ++ more))) (due_grows format_limits old.echo None text (bytes ++ more))
    (λ h. ap (due format_limits old.echo None) (sym (append_assoc text bytes more)) ∙ (fault_fixed format_limits (text ++ bytes) f (rest_refused format_limits old text bytes f g none h)).echoes old.echo None more ∙ rest_due format_limits old old.echo text bytes g none)
    refused

-- whether a step counted a failed write
counts_by : (M X : Type 0) (kind : ReadKind) (count : WriteCalls) → MatchCause kind ⊥ M X → MatchCause kind (LastUnwritten count count) (AllWritten count count) (AllWritten count count)
counts_by M X WriteFailed count h = absurd h
counts_by M X OutOfMemory count h = refl
counts_by M X _ count h = refl

pub held_counts : (f : ReadFault) (M X : Type 0) (count : WriteCalls) → MatchCause f.kind ⊥ M X → MatchCause f.kind (LastUnwritten count count) (AllWritten count count) (AllWritten count count)
held_counts f M X count h = counts_by M X f.kind count h

-- a fault of a line, by what the parser says
pub fault_takes : (before : List (List ℕ)) (line : List ℕ) (old : Parsed) (number : ℕ) (kind : ReadKind) → StandsForLines format_limits old before → number ≡ old.header.lines → fault_on format_limits before line ≡ Some kind
    → MatchCause kind ((number + 1 ≡ 0) × (fault_on format_limits before line ≡ None)) (number + 1 ≡ 0) (option_map (at_line (length before + 1)) (fault_on format_limits before line) ≡ Some (at_line (number + 1) kind))
fault_takes before line old number kind st count e =
    own_cause kind _ _ (line_own format_limits (header_of format_limits before) line kind e)
    (ap (option_map (at_line (length before + 1))) e ∙ ap (λ n. Some (at_line (n + 1) kind)) (sym (count ∙ ap (λ p. p.header.lines) st.given)))

pub fault_counts : (before : List (List ℕ)) (line : List ℕ) (kind : ReadKind) (count : WriteCalls) → fault_on format_limits before line ≡ Some kind → MatchCause kind (LastUnwritten count count) (AllWritten count count) (AllWritten count count)
fault_counts before line kind count e = own_cause kind _ _ (line_own format_limits (header_of format_limits before) line kind e) refl

-- nothing was kept
pub none_kept : (rest : List ℕ) (b : Bool) (size : ℕ) → b ≡ true → b ≡ eqb size 0 → size ≡ length rest → rest ≡ []
none_kept rest b size h k e = nil_from_length rest (sym e ∙ eqb-true size 0 (sym k ∙ h))

pub nothing_before : (rest bytes : List ℕ) → rest ≡ [] → bytes ≡ rest ++ bytes
nothing_before rest bytes h = ap (λ r. r ++ bytes) (sym h)

pub ends_counts : {T : Type 0} (r : Result T ReadFault) (old : Scan) (text : List ℕ) (count count_after : WriteCalls) → StandsFor format_limits old text → old.parsed.header.ended ≡ false
    → ((before : List (List ℕ)) → StandsForLines format_limits old.parsed before → CountsWrites count count_after r) → CountsWrites count count_after r
ends_counts r old text count count_after st going counts = let g = going_of format_limits old text st going in counts g.cut.lines g.stands

pub ends_onward : {T : Type 0} (r : Result T ReadFault) (old : Scan) (new : Parsed) (rest text bytes line : List ℕ) → StandsFor format_limits old text → old.parsed.header.ended ≡ false → line ≡ old.rest ++ bytes
    → ((before : List (List ℕ)) → StandsForLines format_limits old.parsed before → TakesLine format_limits before line new r) → OnOk r (position_in old + length bytes + 1 ≤ new.header.lines * 131073 + length rest)
ends_onward (Ok x) old new rest text bytes line st going is takes =
    let g = going_of format_limits old text st going in
    let next = takes g.cut.lines g.stands in
    let short : length line ≤ 131072 = fine_length format_limits (header_of format_limits g.cut.lines) line (taken_fine format_limits g.cut.lines line old.parsed new g.stands next) in
    let size : length line ≡ length old.rest + length bytes = ap length is ∙ length-append old.rest bytes in
    let count : old.parsed.header.lines ≡ length g.cut.lines = ap (λ p. p.header.lines) g.stands.given in
    let after : new.header.lines ≡ length g.cut.lines + 1 = ap (λ p. p.header.lines) next.given ∙ length-append g.cut.lines (line ∷ []) in
    omega arith
ends_onward (Err f) old new rest text bytes line st going is takes = tt
