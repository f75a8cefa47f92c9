-- What the end of a text does.
use Rattle.std.proofs.Common.{◌≡◌, ℕ, ◌+◌, Bool, true, false, cond, List, [], ◌∷◌, ◌++◌, length, Option, Some, None, refl, ap, sym, ◌∙◌, subst, append-nil, eqb}
use Rattle.std.specs.Prelude.{Result, Ok, Err, OnOk, IfErr, option_map}
use Rattle.std.specs.Option.{option_or}
use Rattle.std.specs.Io.KnownBytes.{Appends}
use Rattle.cube.specs.Limits.{Limits, format_limits}
use Rattle.pla.specs.declared.ending.Ending.{Ending}
use Rattle.pla.specs.declared.ending.Ending.TheVariants.{End, Failed}
use Rattle.pla.specs.declared.fault.ReadKind.{ReadKind}
use Rattle.pla.specs.declared.fault.ReadKind.TheVariants.{WriteFailed, OutOfMemory, ReadFailed}
use Rattle.pla.specs.declared.fault.ReadFault.{ReadFault}
use Rattle.pla.specs.Device.{AppendsFront}
use Rattle.pla.specs.Lines.{ended_lines, open_rest, lines_of, is_empty}
use Rattle.pla.specs.Keywords.{looked_at, is_ending}
use Rattle.pla.specs.Fault.{sound, fault_on, line_fault, rest_fault, last_fault, end_fault, end_kind, has_ending, at_line, fault_of}
use Rattle.pla.specs.Echoes.{due, delivered_lines, echo_all, echo_of}
use Rattle.pla.specs.Description.{Description, description_of}
use Rattle.pla.specs.Scan.{Parsed, Scan, StandsForLines, StandsFor}
use Rattle.pla.specs.declared.calls.WriteCalls.{WriteCalls}
use Rattle.pla.specs.Device.{AllWritten}
use Rattle.pla.specs.Reads.{MatchCause, IsTold, WritesDue, WritesGrowth, CountsWrites, Answers}
use Rattle.pla.specs.Steps.{Describes, TakesLine, WritesLine}
use Rattle.pla.proofs.Cuts.{Cut, ended_cut, rest_cut}
use Rattle.pla.proofs.LookedAt.{looked_more, looked_again}
use Rattle.pla.proofs.FirstFaults.{fault_here, no_fault_yet, sound_all}
use Rattle.pla.proofs.Settled.{ended_fixed}
use Rattle.pla.proofs.Causes.{cause_map, own_cause, end_own}
use Rattle.pla.proofs.StepLaws.{Going, going_of, taken_due, refused_due, taken_fine, none_first}
use Rattle.pla.proofs.Feeding.{due_grows, mapped, written_by, appends_nothing}

-- ---- the lines at the end

lines_empty : (text : List ℕ) (c : Cut text) → c.rest ≡ [] → lines_of End text ≡ c.lines
lines_empty text c empty =
    ap (λ r. ended_lines text ++ cond (is_empty r) [] (r ∷ [])) (rest_cut text c ∙ empty) ∙ append-nil (ended_lines text) ∙ ended_cut text c

lines_last : (text : List ℕ) (c : Cut text) → is_empty c.rest ≡ false → lines_of End text ≡ c.lines ++ c.rest ∷ []
lines_last text c some =
    ap (λ r. ended_lines text ++ cond (is_empty r) [] (r ∷ [])) (rest_cut text c) ∙ ap (λ b. ended_lines text ++ cond b [] (c.rest ∷ [])) some ∙ ap (λ ls. ls ++ c.rest ∷ []) (ended_cut text c)

-- the text ends with its last line feed
pub empty_takes : (state : Scan) (text : List ℕ) → StandsFor format_limits state text → state.parsed.header.ended ≡ false → state.rest ≡ [] → StandsForLines format_limits state.parsed (lines_of End text)
empty_takes state text st going empty =
    let g = going_of format_limits state text st going in
    subst (StandsForLines format_limits state.parsed) (sym (lines_empty text g.cut (sym g.kept ∙ empty))) g.stands

pub empty_written : (state : Scan) (text : List ℕ) (taken : Option (List ℕ)) → StandsFor format_limits state text → state.parsed.header.ended ≡ false → state.rest ≡ []
    → (w : List ℕ) × (due format_limits state.echo (Some End) text ≡ due format_limits state.echo None text ++ w) × Appends taken taken w
empty_written state text taken st going empty =
    let g = going_of format_limits state text st going in
    ([], ap (λ ls. echo_all state.echo (sound format_limits (looked_at ls))) (lines_empty text g.cut (sym g.kept ∙ empty) ∙ sym (ended_cut text g.cut)) ∙ sym (append-nil (due format_limits state.echo None text)), appends_nothing taken)

-- ---- a last line without a line feed

pub last_takes : {T : Type 0} (r : Result T ReadFault) (old : Scan) (new : Parsed) (text line : List ℕ) → StandsFor format_limits old text → old.parsed.header.ended ≡ false → line ≡ old.rest → is_empty old.rest ≡ false
    → ((before : List (List ℕ)) → StandsForLines format_limits old.parsed before → TakesLine format_limits before line new r) → OnOk r (StandsForLines format_limits new (lines_of End text))
last_takes (Ok x) old new text line st going is some takes =
    let g = going_of format_limits old text st going in
    subst (StandsForLines format_limits new) (ap (λ l. g.cut.lines ++ l ∷ []) (is ∙ g.kept) ∙ sym (lines_last text g.cut (ap is_empty (sym g.kept) ∙ some))) (takes g.cut.lines g.stands)
last_takes (Err f) old new text line st going is some takes = tt

pub last_told : {T : Type 0} (r : Result T ReadFault) (old : Scan) (new : Parsed) (text line : List ℕ) → StandsFor format_limits old text → old.parsed.header.ended ≡ false → line ≡ old.rest → is_empty old.rest ≡ false
    → ((before : List (List ℕ)) → StandsForLines format_limits old.parsed before → TakesLine format_limits before line new r) → IfErr r (IsTold (fault_of format_limits End text))
last_told (Ok x) old new text line st going is some takes = tt
last_told (Err f) old new text line st going is some takes =
    let g = going_of format_limits old text st going in
    let lines = g.cut.lines in
    let after = cond (is_ending line) [] (looked_at []) in
    let all : looked_at (lines_of End text) ≡ lines ++ line ∷ after =
    ap looked_at (lines_last text g.cut (ap is_empty (sym g.kept) ∙ some) ∙ ap (λ l. lines ++ l ∷ []) (sym (is ∙ g.kept))) ∙ looked_more lines (line ∷ []) g.going in
    cause_map f.kind (λ h. h.0) (λ h. h)
    (λ h. let k = mapped (at_line (length lines + 1)) (fault_on format_limits lines line) f h in
    ap (λ ls. option_or (line_fault format_limits ls) (end_fault format_limits ls)) all
    ∙ ap (λ o. option_or o (end_fault format_limits (lines ++ line ∷ after))) (fault_here format_limits lines after line k.0 g.stands.faultless k.1) ∙ ap Some k.2)
    (takes lines g.stands)

last_lines : (old : Scan) (text line : List ℕ) (g : Going format_limits old text) → line ≡ old.rest → is_empty old.rest ≡ false → lines_of End text ≡ g.cut.lines ++ line ∷ []
last_lines old text line g is some = lines_last text g.cut (ap is_empty (sym g.kept) ∙ some) ∙ ap (λ l. g.cut.lines ++ l ∷ []) (sym (is ∙ g.kept))

last_due : (old : Scan) (text line : List ℕ) (lines : List (List ℕ)) → lines_of End text ≡ lines ++ line ∷ [] → due format_limits old.echo (Some End) text ≡ echo_all old.echo (sound format_limits (looked_at (lines ++ line ∷ [])))
last_due old text line lines e = ap (λ ls. echo_all old.echo (sound format_limits (looked_at ls))) e

pub last_written : {T : Type 0} (r : Result T ReadFault) (old : Scan) (new : Parsed) (text line : List ℕ) (taken taken_after : Option (List ℕ)) → StandsFor format_limits old text → old.parsed.header.ended ≡ false → line ≡ old.rest → is_empty old.rest ≡ false
    → ((before : List (List ℕ)) → StandsForLines format_limits old.parsed before → TakesLine format_limits before line new r) → WritesLine taken taken_after r old.echo line
    → WritesGrowth taken taken_after r (due format_limits old.echo None text) (due format_limits old.echo (Some End) text)
last_written (Ok x) old new text line taken taken_after st going is some takes writes =
    let g = going_of format_limits old text st going in (
      echo_of old.echo line,
      last_due old text line (g.cut.lines) (last_lines old text line g is some) ∙ taken_due format_limits old old.echo text line g (taken_fine format_limits g.cut.lines line old.parsed new g.stands (takes g.cut.lines g.stands)),
      writes,
    )
last_written (Err f) old new text line taken taken_after st going is some takes writes =
    let g = going_of format_limits old text st going in
    let here = last_due old text line (g.cut.lines) (last_lines old text line g is some) in
    let grows = due_grows format_limits old.echo (Some End) text [] in
    written_by _ _ f.kind taken taken_after (due format_limits old.echo None text) (due format_limits old.echo (Some End) text) (echo_of old.echo line)
    (λ fine. here ∙ taken_due format_limits old old.echo text line g fine)
    (grows.0, ap (due format_limits old.echo (Some End)) (sym (append-nil text)) ∙ grows.1)
    (λ h. let k = mapped (at_line (length g.cut.lines + 1)) (fault_on format_limits g.cut.lines line) f h in here ∙ refused_due format_limits old old.echo text line k.0 g k.1)
    (takes g.cut.lines g.stands) writes

-- ---- the answer

pub describes_answer : (r : Result Description ReadFault) (stated : Option ReadFault) (description : Description) → Describes r stated description → Answers r stated description
describes_answer (Ok pla) stated description h = h
describes_answer (Err f) stated description h = cause_map f.kind (λ e. absurd e) (λ e. absurd e) (λ e. e) h

any_written : (kind : ReadKind) (old new : Option (List ℕ)) (w : List ℕ) → Appends old new w → MatchCause kind (AppendsFront old new w) (AppendsFront old new w) (Appends old new w)
any_written WriteFailed old new w h = (w, [], sym (append-nil w), h)
any_written OutOfMemory old new w h = (w, [], sym (append-nil w), h)
any_written _ old new w h = h

pub described_writes : (r : Result Description ReadFault) (old new : Option (List ℕ)) (w : List ℕ) → Appends old new w → WritesDue old new r w
described_writes (Ok pla) old new w h = h
described_writes (Err f) old new w h = any_written f.kind old new w h

pub described_counts : (r : Result Description ReadFault) (stated : Option ReadFault) (description : Description) (old new : WriteCalls) → Describes r stated description → AllWritten old new → CountsWrites old new r
described_counts (Ok pla) stated description old new h e = e
described_counts (Err f) stated description old new h e = cause_map f.kind (λ x. absurd x) (λ x. absurd x) (λ x. e) h

-- the parser's answer
pub described : (limits : Limits) (parsed : Parsed) (lines : List (List ℕ)) (number : ℕ) (kind : ReadKind) → StandsForLines limits parsed lines → number ≡ parsed.header.lines → end_kind parsed.header ≡ Some kind
    → MatchCause kind ⊥ ⊥ (end_fault limits lines ≡ Some (at_line number kind))
described limits parsed lines number kind st count e =
    own_cause kind ⊥ ⊥ (end_own parsed.header kind e)
    (ap (λ p. option_map (at_line (length lines)) (end_kind p.header)) (sym st.given) ∙ ap (option_map (at_line (length lines))) e ∙ ap (λ n. Some (at_line n kind)) (sym (count ∙ ap (λ p. p.header.lines) st.given)))

-- after the description has ended
pub ended_lines_stand : (state : Scan) (text : List ℕ) → StandsFor format_limits state text → state.parsed.header.ended ≡ true → StandsForLines format_limits state.parsed (looked_at (ended_lines text))
ended_lines_stand state text st ended =
    let lines = looked_at (ended_lines text) in
    record {
      faultless = sound_all format_limits lines (none_first (line_fault format_limits lines) (cond (has_ending lines) None (rest_fault format_limits lines (open_rest text))) st.faultless);
      within = looked_again (ended_lines text);
      given = ap (λ s. s.parsed) st.given;
    }

has_ended : (state : Scan) (text : List ℕ) → StandsFor format_limits state text → state.parsed.header.ended ≡ true → has_ending (looked_at (ended_lines text)) ≡ true
has_ended state text st ended = ap (λ s. s.parsed.header.ended) (sym st.given) ∙ ended

ended_looked : (state : Scan) (text : List ℕ) (ending : Option Ending) → StandsFor format_limits state text → state.parsed.header.ended ≡ true → looked_at (delivered_lines ending text) ≡ looked_at (ended_lines text)
ended_looked state text ending st ended = ap (λ t. looked_at (delivered_lines ending t)) (sym (append-nil text)) ∙ (ended_fixed format_limits text (has_ended state text st ended)).looked ending []

pub ended_fault : (state : Scan) (text : List ℕ) (ending : Ending) → StandsFor format_limits state text → state.parsed.header.ended ≡ true → fault_of format_limits ending text ≡ end_fault format_limits (looked_at (ended_lines text))
ended_fault state text ending st ended =
    let lines = looked_at (ended_lines text) in
    ap (fault_of format_limits ending) (sym (append-nil text)) ∙ (ended_fixed format_limits text (has_ended state text st ended)).closed ending []
    ∙ ap (λ o. option_or o (end_fault format_limits lines)) (no_fault_yet format_limits lines (ended_lines_stand state text st ended).faultless)

pub ended_answer : (r : Result Description ReadFault) (state : Scan) (text : List ℕ) (ending : Ending) → StandsFor format_limits state text → state.parsed.header.ended ≡ true
    → ((lines : List (List ℕ)) → StandsForLines format_limits state.parsed lines → Describes r (end_fault format_limits lines) (description_of format_limits lines))
    → Answers r (fault_of format_limits ending text) (description_of format_limits (looked_at (lines_of ending text)))
ended_answer r state text ending st ended describes =
    subst (λ o. Answers r o (description_of format_limits (looked_at (lines_of ending text)))) (sym (ended_fault state text ending st ended))
    (subst (λ ls. Answers r (end_fault format_limits (looked_at (ended_lines text))) (description_of format_limits ls)) (sym (ended_looked state text (Some ending) st ended))
    (describes_answer r _ _ (describes (looked_at (ended_lines text)) (ended_lines_stand state text st ended))))

pub ended_due : (state : Scan) (text : List ℕ) (ending : Option Ending) → StandsFor format_limits state text → state.parsed.header.ended ≡ true → due format_limits state.echo ending text ≡ due format_limits state.echo None text
ended_due state text ending st ended = ap (λ ls. echo_all state.echo (sound format_limits ls)) (ended_looked state text ending st ended)

-- at the end of the input
pub last_answer : (r : Result Description ReadFault) (new : Parsed) (text : List ℕ) → StandsForLines format_limits new (lines_of End text)
    → ((lines : List (List ℕ)) → StandsForLines format_limits new lines → Describes r (end_fault format_limits lines) (description_of format_limits lines))
    → Answers r (fault_of format_limits End text) (description_of format_limits (looked_at (lines_of End text)))
last_answer r new text st describes =
    let lines = lines_of End text in
    subst (λ ls. Answers r (option_or (line_fault format_limits ls) (end_fault format_limits ls)) (description_of format_limits ls)) (sym st.within)
    (subst (λ o. Answers r (option_or o (end_fault format_limits lines)) (description_of format_limits lines)) (sym (no_fault_yet format_limits lines st.faultless))
    (describes_answer r _ _ (describes lines st)))

-- where reading failed
pub failed_fault : (state : Scan) (text : List ℕ) (number : ℕ) → StandsFor format_limits state text → state.parsed.header.ended ≡ false → number ≡ state.parsed.header.lines → fault_of format_limits Failed text ≡ Some (at_line (number + 1) ReadFailed)
failed_fault state text number st going count =
    let g = going_of format_limits state text st going in
    let lines = g.cut.lines in
    let same : looked_at (ended_lines text) ≡ lines = ap looked_at (ended_cut text g.cut) ∙ g.stands.within in
    let last = Some (at_line (length lines + 1) ReadFailed) in
    ap (λ ls. option_or (line_fault format_limits ls) (last_fault format_limits Failed (open_rest text) ls)) same
    ∙ ap (λ o. option_or o (last_fault format_limits Failed (open_rest text) lines)) (no_fault_yet format_limits lines g.stands.faultless)
    ∙ ap (λ b. cond b (end_fault format_limits lines) (option_or (rest_fault format_limits lines (open_rest text)) last)) g.going
    ∙ ap (λ o. option_or o last) (ap (rest_fault format_limits lines) (rest_cut text g.cut) ∙ g.fits)
    ∙ ap (λ n. Some (at_line (n + 1) ReadFailed)) (sym (count ∙ ap (λ p. p.header.lines) g.stands.given))

pub some_kept : (rest : List ℕ) (b : Bool) (size : ℕ) → b ≡ false → b ≡ eqb size 0 → size ≡ length rest → is_empty rest ≡ false
some_kept rest b size h k e = ap (λ n. eqb n 0) (sym e) ∙ sym k ∙ h

pub ended_counts : (r : Result Description ReadFault) (state : Scan) (text : List ℕ) (count : WriteCalls) → StandsFor format_limits state text → state.parsed.header.ended ≡ true
    → ((lines : List (List ℕ)) → StandsForLines format_limits state.parsed lines → Describes r (end_fault format_limits lines) (description_of format_limits lines)) → CountsWrites count count r
ended_counts r state text count st ended describes = described_counts r _ _ count count (describes (looked_at (ended_lines text)) (ended_lines_stand state text st ended)) refl

pub last_counts : (r : Result Description ReadFault) (new : Parsed) (text : List ℕ) (old after : WriteCalls) → StandsForLines format_limits new (lines_of End text)
    → ((lines : List (List ℕ)) → StandsForLines format_limits new lines → Describes r (end_fault format_limits lines) (description_of format_limits lines)) → AllWritten old after → CountsWrites old after r
last_counts r new text old after st describes same = described_counts r _ _ old after (describes (lines_of End text) st) same
