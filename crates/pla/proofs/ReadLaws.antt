-- An input that is read piece by piece.
use Rattle.std.proofs.Common.{◌≡◌, ℕ, ◌+◌, ◌-◌, ◌*◌, ◌<◌, ◌≤◌, Bool, true, false, cond, List, [], ◌++◌, length, take, Option, Some, None, refl, ap, sym, ◌∙◌, subst, append-nil, arith}
use Rattle.std.specs.Prelude.{Result, Ok, Err, ⊤}
use Rattle.std.specs.Io.KnownBytes.{Appends, Consumes, Keeps}
use Rattle.std.proofs.lemmas.List.{length-take-le}
use Rattle.cube.specs.Limits.{format_limits}
use Rattle.pla.specs.declared.ending.Ending.{Ending}
use Rattle.pla.specs.declared.ending.Ending.TheVariants.{End}
use Rattle.pla.specs.declared.fault.ReadKind.{ReadKind}
use Rattle.pla.specs.declared.fault.ReadKind.TheVariants.{WriteFailed, OutOfMemory}
use Rattle.pla.specs.declared.fault.ReadFault.{ReadFault}
use Rattle.pla.specs.declared.echo.Echo.{Echo}
use Rattle.pla.specs.declared.calls.Counts.{Counts}
use Rattle.pla.specs.declared.calls.ReadCalls.{ReadCalls}
use Rattle.pla.specs.declared.calls.WriteCalls.{WriteCalls}
use Rattle.pla.specs.Device.{AllWritten, AppendsFront, LastFailed, LastUnwritten, NoneFailed, after_read, one_more}
use Rattle.pla.specs.Lines.{ended_lines, lines_of}
use Rattle.pla.specs.Keywords.{looked_at}
use Rattle.pla.specs.Fault.{sound, fault_of, open_fault, has_ending}
use Rattle.pla.specs.Echoes.{due, echo_all, delivered_lines}
use Rattle.pla.specs.Description.{Description, description_of}
use Rattle.pla.specs.Scan.{Scan, StandsFor}
use Rattle.pla.specs.Reads.{MatchCause, IsTold, WritesDue, WritesGrowth, CountsWrites, Answers, GoesOn, OnWhole, Meets, Reads}
use Rattle.pla.specs.Steps.{position_in, room_in}
use Rattle.pla.proofs.Moves.{appends_then, consumes_then, front_then, one_failed}
use Rattle.pla.proofs.Feeding.{appends_nothing}
use Rattle.pla.proofs.Settled.{fault_fixed, ended_fixed}
use Rattle.pla.proofs.Causes.{cause_map}
use Rattle.pla.proofs.Overlong.{rest_length, sound_count}
use Rattle.pla.proofs.StepLaws.{going_of}

-- what was read so far, and what stands for it
pub record ReadsOn (echo : Echo) (scan : Scan) (left left_after : Option (List ℕ)) (reads reads_after : ReadCalls) (taken taken_after : Option (List ℕ)) (writes writes_after : WriteCalls) : Type 0 where
  pub bytes : List ℕ
  pub consumed : Consumes left left_after bytes
  pub stands : StandsFor format_limits scan bytes
  pub same_echo : scan.echo ≡ echo
  pub reads_same : NoneFailed reads reads_after
  pub written : Appends taken taken_after (due format_limits echo None bytes)
  pub writes_same : AllWritten writes writes_after
  pub front : List ℕ
  pub piece : List ℕ
  pub bounded : (bytes ≡ front ++ piece) × (length piece ≤ 4096) × GoesOn front

goes_on : (state : Scan) (text : List ℕ) → StandsFor format_limits state text → state.parsed.header.ended ≡ false → GoesOn text
goes_on state text st going = record { open_lines = ap (λ s. s.parsed.header.ended) (sym st.given) ∙ going; faultless = st.faultless }

consumes_nothing : (left : Option (List ℕ)) → Consumes left left []
consumes_nothing None = tt
consumes_nothing (Some bytes) = refl

pub keeps_consumes : (left left_after : Option (List ℕ)) → Keeps left left_after → Consumes left left_after []
keeps_consumes None left_after h = tt
keeps_consumes (Some xs) None h = h
keeps_consumes (Some xs) (Some ys) h = sym h

-- nothing more was delivered
consumes_same : (left mid left_after : Option (List ℕ)) (bytes : List ℕ) → Consumes left mid bytes → Consumes mid left_after [] → Consumes left left_after bytes
consumes_same left mid left_after bytes h k = subst (Consumes left left_after) (append-nil bytes) (consumes_then left mid left_after bytes [] h k)

pub reads_nothing : (echo : Echo) (scan : Scan) (left : Option (List ℕ)) (reads : ReadCalls) (taken : Option (List ℕ)) (writes : WriteCalls) → StandsFor format_limits scan [] → scan.echo ≡ echo → ReadsOn echo scan left left reads reads taken taken writes writes
reads_nothing echo scan left reads taken writes st same = record {
  bytes = [];
  consumed = consumes_nothing left;
  stands = st;
  same_echo = same;
  reads_same = refl;
  written = appends_nothing taken;
  writes_same = refl;
  front = [];
  piece = [];
  bounded = (refl, omega arith, record { open_lines = refl; faultless = st.faultless });
}

-- one more piece
pub reads_piece : (echo : Echo) (scan new : Scan) (left near left_after : Option (List ℕ)) (reads reads_near reads_after : ReadCalls) (taken mid taken_after : Option (List ℕ)) (writes writes_near writes_after : WriteCalls) (piece : List ℕ)
    → ReadsOn echo scan left near reads reads_near taken mid writes writes_near → scan.parsed.header.ended ≡ false → Consumes near left_after piece → NoneFailed reads_near reads_after → length piece ≤ 4096
    → new.echo ≡ scan.echo → ((text : List ℕ) → StandsFor format_limits scan text → StandsFor format_limits new (text ++ piece))
    → ((text : List ℕ) → StandsFor format_limits scan text → (w : List ℕ) × (due format_limits scan.echo None (text ++ piece) ≡ due format_limits scan.echo None text ++ w) × Appends mid taken_after w)
    → ((text : List ℕ) → StandsFor format_limits scan text → AllWritten writes_near writes_after)
    → ReadsOn echo new left left_after reads reads_after taken taken_after writes writes_after
reads_piece echo scan new left near left_after reads reads_near reads_after taken mid taken_after writes writes_near writes_after piece on going consumed same short new_echo stands written count =
    let w = written on.bytes on.stands in
    record {
      bytes = on.bytes ++ piece;
      consumed = consumes_then left near left_after on.bytes piece on.consumed consumed;
      stands = stands on.bytes on.stands;
      same_echo = new_echo ∙ on.same_echo;
      reads_same = same ∙ on.reads_same;
      written = subst (Appends taken taken_after) (sym (subst (λ e. due format_limits e None (on.bytes ++ piece) ≡ due format_limits e None on.bytes ++ w.0) on.same_echo w.1))
          (appends_then taken mid taken_after (due format_limits echo None on.bytes) w.0 on.written w.2);
      writes_same = count on.bytes on.stands ∙ on.writes_same;
      front = on.bytes;
      piece = piece;
      bounded = (refl, short, goes_on scan on.bytes on.stands going);
    }

-- ---- the exits

-- no write failed before
counts_since : {T : Type 0} (writes near after : WriteCalls) (r : Result T ReadFault) → AllWritten writes near → CountsWrites near after r → CountsWrites writes after r
counts_since writes near after (Ok x) same h = h ∙ same
counts_since writes near after (Err f) same h =
    subst (λ (n : Counts). MatchCause f.kind ((after.counts ≡ one_failed n) × (after.broken ≡ true)) (after.counts ≡ n) (after.counts ≡ n)) same h

writes_by : (kind : ReadKind) (taken mid taken_after : Option (List ℕ)) (a w : List ℕ) → Appends taken mid a → MatchCause kind (AppendsFront mid taken_after w) (AppendsFront mid taken_after w) (Appends mid taken_after w)
    → MatchCause kind (AppendsFront taken taken_after (a ++ w)) (AppendsFront taken taken_after (a ++ w)) (Appends taken taken_after (a ++ w))
writes_by kind taken mid taken_after a w h k = cause_map kind (front_then taken mid taken_after a w h) (front_then taken mid taken_after a w h) (appends_then taken mid taken_after a w h) k

writes_on : {T : Type 0} (r : Result T ReadFault) (taken mid taken_after : Option (List ℕ)) (a w : List ℕ) → Appends taken mid a → WritesDue mid taken_after r w → WritesDue taken taken_after r (a ++ w)
writes_on (Ok x) taken mid taken_after a w h k = appends_then taken mid taken_after a w h k
writes_on (Err f) taken mid taken_after a w h k = writes_by f.kind taken mid taken_after a w h k

-- all that is due was written at the end
grown_written : {T : Type 0} (r : Result T ReadFault) (taken mid taken_after : Option (List ℕ)) (before now : List ℕ) → Appends taken mid before → WritesGrowth mid taken_after r before now → WritesDue taken taken_after r now
grown_written r taken mid taken_after before now h g = subst (WritesDue taken taken_after r) (sym g.1) (writes_on r taken mid taken_after before g.0 h g.2)

on_whole : {T : Type 0} (r : Result T ReadFault) (P : Type 0) → P → OnWhole r P
on_whole (Ok x) P h = h
on_whole (Err f) P h = always f.kind P h
  where
    always : (kind : ReadKind) (P : Type 0) → P → MatchCause kind ⊤ ⊤ P
    always WriteFailed P h = tt
    always OutOfMemory P h = tt
    always _ P h = h

-- reading met an ending
pub reads_ending : (echo : Echo) (scan : Scan) (left near left_after : Option (List ℕ)) (reads reads_near reads_after : ReadCalls) (taken mid taken_after : Option (List ℕ)) (writes writes_near writes_after : WriteCalls) (result : Result Description ReadFault) (ending : Ending)
    → ReadsOn echo scan left near reads reads_near taken mid writes writes_near → scan.parsed.header.ended ≡ false → Consumes near left_after [] → (NoneFailed reads reads_near → Meets left_after reads reads_after ending)
    → ((text : List ℕ) → StandsFor format_limits scan text → Answers result (fault_of format_limits ending text) (description_of format_limits (looked_at (lines_of ending text))))
    → ((text : List ℕ) → StandsFor format_limits scan text → WritesGrowth mid taken_after result (due format_limits scan.echo None text) (due format_limits scan.echo (Some ending) text))
    → ((text : List ℕ) → StandsFor format_limits scan text → CountsWrites writes_near writes_after result)
    → Reads echo left left_after reads reads_after taken taken_after writes writes_after result
reads_ending echo scan left near left_after reads reads_near reads_after taken mid taken_after writes writes_near writes_after result ending on going consumed met answer written count = record {
  bytes = on.bytes;
  consumed = consumes_same left near left_after on.bytes on.consumed consumed;
  ending = Some ending;
  met = met on.reads_same;
  answer = λ e is. subst (λ e. Answers result (fault_of format_limits e on.bytes) (description_of format_limits (looked_at (lines_of e on.bytes)))) (sym is) (answer on.bytes on.stands);
  written = grown_written result taken mid taken_after (due format_limits echo None on.bytes) (due format_limits echo (Some ending) on.bytes) on.written
      (subst (λ e. WritesGrowth mid taken_after result (due format_limits e None on.bytes) (due format_limits e (Some ending) on.bytes)) on.same_echo (written on.bytes on.stands));
  echoes = λ e is. on_whole result _ (ap (λ x. due format_limits echo (Some x) on.bytes) is);
  counted = counts_since writes writes_near writes_after result on.writes_same (count on.bytes on.stands);
  front = on.bytes;
  piece = [];
  bounded = (sym (append-nil on.bytes), omega arith, goes_on scan on.bytes on.stands going);
}

-- a line ended the description
pub reads_done : (echo : Echo) (scan : Scan) (left left_after : Option (List ℕ)) (reads reads_after : ReadCalls) (taken mid taken_after : Option (List ℕ)) (writes writes_near writes_after : WriteCalls) (result : Result Description ReadFault)
    → ReadsOn echo scan left left_after reads reads_after taken mid writes writes_near → scan.parsed.header.ended ≡ true
    → ((text : List ℕ) → StandsFor format_limits scan text → Answers result (fault_of format_limits End text) (description_of format_limits (looked_at (lines_of End text))))
    → ((text : List ℕ) → StandsFor format_limits scan text → WritesGrowth mid taken_after result (due format_limits scan.echo None text) (due format_limits scan.echo (Some End) text))
    → ((text : List ℕ) → StandsFor format_limits scan text → CountsWrites writes_near writes_after result)
    → Reads echo left left_after reads reads_after taken taken_after writes writes_after result
reads_done echo scan left left_after reads reads_after taken mid taken_after writes writes_near writes_after result on ended answer written count =
    let bytes = on.bytes in
    let has : has_ending (looked_at (ended_lines bytes)) ≡ true = ap (λ s. s.parsed.header.ended) (sym on.stands.given) ∙ ended in
    let fixed = ended_fixed format_limits bytes has in
    let looked : (ending : Option Ending) → looked_at (delivered_lines ending bytes) ≡ looked_at (ended_lines bytes) = λ ending. ap (λ t. looked_at (delivered_lines ending t)) (sym (append-nil bytes)) ∙ fixed.looked ending [] in
    let faults : (e : Ending) → fault_of format_limits End bytes ≡ fault_of format_limits e bytes = λ e.
    ap (fault_of format_limits End) (sym (append-nil bytes)) ∙ fixed.closed End [] ∙ sym (ap (fault_of format_limits e) (sym (append-nil bytes)) ∙ fixed.closed e []) in
    let dues : (ending : Option Ending) → due format_limits echo ending bytes ≡ due format_limits echo None bytes = λ ending. ap (λ ls. echo_all echo (sound format_limits ls)) (looked ending) in
    record {
      bytes = bytes;
      consumed = on.consumed;
      ending = None;
      met = on.reads_same;
      answer = λ e is. subst (λ o. Answers result o (description_of format_limits (looked_at (lines_of e bytes)))) (faults e)
          (subst (λ ls. Answers result (fault_of format_limits End bytes) (description_of format_limits ls)) (looked (Some End) ∙ sym (looked (Some e))) (answer bytes on.stands));
      written = subst (WritesDue taken taken_after result) (dues (Some End)) (grown_written result taken mid taken_after (due format_limits echo None bytes) (due format_limits echo (Some End) bytes) on.written
          (subst (λ e. WritesGrowth mid taken_after result (due format_limits e None bytes) (due format_limits e (Some End) bytes)) on.same_echo (written bytes on.stands)));
      echoes = λ e is. on_whole result _ (dues (Some e));
      counted = counts_since writes writes_near writes_after result on.writes_same (count bytes on.stands);
      front = on.front;
      piece = on.piece;
      bounded = on.bounded;
    }

-- the piece had a fault, or a write or memory failed
pub reads_fault : (echo : Echo) (scan : Scan) (left near left_after : Option (List ℕ)) (reads reads_near reads_after : ReadCalls) (taken mid taken_after : Option (List ℕ)) (writes writes_near writes_after : WriteCalls) (piece : List ℕ) (f : ReadFault)
    → ReadsOn echo scan left near reads reads_near taken mid writes writes_near → scan.parsed.header.ended ≡ false → Consumes near left_after piece → NoneFailed reads_near reads_after → length piece ≤ 4096
    → ((text : List ℕ) → StandsFor format_limits scan text → IsTold (open_fault format_limits (text ++ piece)) f)
    → ((text : List ℕ) → StandsFor format_limits scan text → (w : List ℕ) × (due format_limits scan.echo None (text ++ piece) ≡ due format_limits scan.echo None text ++ w)
    × MatchCause f.kind (AppendsFront mid taken_after w) (AppendsFront mid taken_after w) (Appends mid taken_after w))
    → ((text : List ℕ) → StandsFor format_limits scan text → MatchCause f.kind (LastUnwritten writes_near writes_after) (AllWritten writes_near writes_after) (AllWritten writes_near writes_after))
    → Reads echo left left_after reads reads_after taken taken_after writes writes_after (Err f)
reads_fault echo scan left near left_after reads reads_near reads_after taken mid taken_after writes writes_near writes_after piece f on going consumed same short told written count =
    let bytes = on.bytes ++ piece in
    record {
      bytes = bytes;
      consumed = consumes_then left near left_after on.bytes piece on.consumed consumed;
      ending = None;
      met = same ∙ on.reads_same;
      answer = λ e is. cause_map f.kind (λ h. h) (λ h. h) (λ h. ap (fault_of format_limits e) (sym (append-nil bytes)) ∙ (fault_fixed format_limits bytes f h).closed e []) (told on.bytes on.stands);
      written = grown_written {T = Description} (Err f) taken mid taken_after (due format_limits echo None on.bytes) (due format_limits echo None bytes) on.written
          (subst (λ e. WritesGrowth {T = Description} mid taken_after (Err f) (due format_limits e None on.bytes) (due format_limits e None bytes)) on.same_echo (written on.bytes on.stands));
      echoes = λ e is. cause_map f.kind (λ h. tt) (λ h. tt) (λ h. ap (due format_limits echo (Some e)) (sym (append-nil bytes)) ∙ (fault_fixed format_limits bytes f h).echoes echo (Some e) []) (told on.bytes on.stands);
      counted = subst (λ (n : Counts). MatchCause f.kind ((writes_after.counts ≡ one_failed n) × (writes_after.broken ≡ true)) (writes_after.counts ≡ n) (writes_after.counts ≡ n)) on.writes_same (count on.bytes on.stands);
      front = on.bytes;
      piece = piece;
      bounded = (refl, short, goes_on scan on.bytes on.stands going);
    }

-- ---- reading comes to an end

room_left : (old new : ℕ) (ended : Bool) → old < 16777217 * 131073 + 1 → (ended ≡ false → old + 1 ≤ new) → cond ended 0 (16777217 * 131073 + 1 - new) < 16777217 * 131073 + 1 - old
room_left old new true near on = omega arith
room_left old new false near on = let far : old + 1 ≤ new = on refl in omega arith

pub room_falls : (scan new : Scan) (text piece : List ℕ) → StandsFor format_limits scan text → scan.parsed.header.ended ≡ false → 0 < length piece
    → ((t : List ℕ) → StandsFor format_limits scan t → new.parsed.header.ended ≡ false → position_in scan + length piece ≤ position_in new) → room_in new < room_in scan
room_falls scan new text piece st going some onward =
    let g = going_of format_limits scan text st going in
    let count : scan.parsed.header.lines ≡ length g.cut.lines = ap (λ p. p.header.lines) g.stands.given in
    let few : length g.cut.lines ≤ 16777216 = sound_few g.cut.lines g.stands.faultless in
    let kept : length scan.rest ≡ length g.cut.rest = ap length g.kept in
    let short : length g.cut.rest ≤ 131072 = rest_length format_limits g.cut.lines g.cut.rest g.fits in
    subst (λ b. room_in new < cond b 0 (16777217 * 131073 + 1 - position_in scan)) (sym going)
    (room_left (position_in scan) (position_in new) new.parsed.header.ended (omega arith) (λ still. let far : position_in scan + length piece ≤ position_in new = onward text st still in omega arith))
  where
    sound_few : (lines : List (List ℕ)) → sound format_limits lines ≡ lines → length lines ≤ 16777216
    sound_few lines h = let few : 0 + length lines ≤ 16777216 = sound_count format_limits [] lines (omega arith) h in omega arith

pub piece_short : (n : ℕ) (xs : List ℕ) → n ≤ length xs → length xs ≡ 4096 → length (take n xs) ≤ 4096
piece_short n xs l e = omega (arith, length-take-le n xs l)

pub piece_room : (xs : List ℕ) → length xs ≡ 4096 → 0 < length xs
piece_room xs e = omega arith

-- a read that gave no byte
pub end_consumes : (left left_after : Option (List ℕ)) (n : ℕ) (xs : List ℕ) → n ≡ 0 → Consumes left left_after (take n xs) → Consumes left left_after []
end_consumes left left_after n xs e h = subst (λ k. Consumes left left_after (take k xs)) e h

-- a read that failed
pub failed_count : (reads near after : ReadCalls) → NoneFailed reads near → after ≡ after_read true near → LastFailed reads after
failed_count reads near after e h = (ap (λ calls. calls.failures) h ∙ ap one_more e, ap (λ calls. calls.broken) h)
