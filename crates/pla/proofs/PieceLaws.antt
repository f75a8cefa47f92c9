-- A piece that was fed in parts.
use Rattle.std.proofs.Common.{◌≡◌, ℕ, ◌+◌, ◌≤◌, Bool, true, false, cond, List, [], ◌∷◌, ◌++◌, length, Option, None, refl, ap, sym, ◌∙◌, subst, append_assoc, append-nil, length-append, arith}
use Rattle.std.specs.Io.KnownBytes.{Appends}
use Rattle.cube.specs.Limits.{format_limits}
use Rattle.pla.specs.declared.fault.ReadKind.{ReadKind}
use Rattle.pla.specs.declared.fault.ReadKind.TheVariants.{WriteFailed, OutOfMemory}
use Rattle.pla.specs.declared.fault.ReadFault.{ReadFault}
use Rattle.pla.specs.declared.calls.Counts.{Counts}
use Rattle.pla.specs.declared.calls.WriteCalls.{WriteCalls}
use Rattle.pla.specs.Device.{AllWritten, AppendsFront, LastUnwritten}
use Rattle.pla.specs.Lines.{ended_lines, open_rest}
use Rattle.pla.specs.Keywords.{looked_at}
use Rattle.pla.specs.Fault.{sound, rest_kind, open_fault, has_ending}
use Rattle.pla.specs.Echoes.{due, echo_all}
use Rattle.pla.specs.Scan.{Scan, parsed_of, StandsFor}
use Rattle.pla.specs.Reads.{MatchCause, IsTold}
use Rattle.pla.specs.Steps.{NoFeed, position_in}
use Rattle.pla.proofs.Moves.{appends_then, front_then, front_before, one_failed}
use Rattle.pla.proofs.Settled.{fault_fixed, ended_fixed}
use Rattle.pla.proofs.Causes.{cause_map}
use Rattle.pla.proofs.StepLaws.{going_of, rest_taken, rest_due}
use Rattle.pla.proofs.Feeding.{due_grows, appends_nothing}

-- the front of a piece was fed, and the rest comes next
pub record Fed (old new : Scan) (piece rest : List ℕ) (taken taken_after : Option (List ℕ)) (writes writes_after : WriteCalls) : Type 0 where
  pub front : List ℕ
  pub whole : piece ≡ front ++ rest
  pub echo : new.echo ≡ old.echo
  pub stands : (text : List ℕ) → StandsFor format_limits old text → StandsFor format_limits new (text ++ front)
  pub written : (text : List ℕ) → StandsFor format_limits old text → (w : List ℕ) × (due format_limits old.echo None (text ++ front) ≡ due format_limits old.echo None text ++ w) × Appends taken taken_after w
  pub count : (text : List ℕ) → StandsFor format_limits old text → AllWritten writes writes_after
  pub onward : (text : List ℕ) → StandsFor format_limits old text → new.parsed.header.ended ≡ false → position_in old + length front ≤ position_in new

-- a piece was fed whole
pub record FedWhole (old new : Scan) (piece : List ℕ) (taken taken_after : Option (List ℕ)) (writes writes_after : WriteCalls) : Type 0 where
  pub echo : new.echo ≡ old.echo
  pub stands : (text : List ℕ) → StandsFor format_limits old text → StandsFor format_limits new (text ++ piece)
  pub written : (text : List ℕ) → StandsFor format_limits old text → (w : List ℕ) × (due format_limits old.echo None (text ++ piece) ≡ due format_limits old.echo None text ++ w) × Appends taken taken_after w
  pub count : (text : List ℕ) → StandsFor format_limits old text → AllWritten writes writes_after
  pub onward : (text : List ℕ) → StandsFor format_limits old text → new.parsed.header.ended ≡ false → position_in old + length piece ≤ position_in new

pub fed_nothing : (state : Scan) (piece : List ℕ) (taken : Option (List ℕ)) (writes : WriteCalls) → Fed state state piece piece taken taken writes writes
fed_nothing state piece taken writes = record {
  front = [];
  whole = refl;
  echo = refl;
  stands = λ text st. subst (StandsFor format_limits state) (sym (append-nil text)) st;
  written = λ text st. ([], ap (due format_limits state.echo None) (append-nil text) ∙ sym (append-nil (due format_limits state.echo None text)), appends_nothing taken);
  count = λ text st. refl;
  onward = λ text st going. omega arith;
}

-- a line and its line feed
pub line_and_rest : (front line rest : List ℕ) → front ++ (line ++ 10 ∷ rest) ≡ (front ++ (line ++ 10 ∷ [])) ++ rest
line_and_rest front line rest = ap (λ t. front ++ t) (sym (append_assoc line (10 ∷ []) rest)) ∙ sym (append_assoc front (line ++ 10 ∷ []) rest)

-- one more line was fed
pub fed_line : (old mid new : Scan) (piece rest line after : List ℕ) (taken near taken_after : Option (List ℕ)) (writes writes_near writes_after : WriteCalls)
    → Fed old mid piece rest taken near writes writes_near → mid.parsed.header.ended ≡ false → rest ≡ line ++ 10 ∷ after → new.echo ≡ mid.echo
    → ((text : List ℕ) → StandsFor format_limits mid text → StandsFor format_limits new (text ++ (line ++ 10 ∷ [])))
    → ((text : List ℕ) → StandsFor format_limits mid text → (w : List ℕ) × (due format_limits mid.echo None (text ++ (line ++ 10 ∷ [])) ≡ due format_limits mid.echo None text ++ w) × Appends near taken_after w)
    → ((text : List ℕ) → StandsFor format_limits mid text → AllWritten writes_near writes_after)
    → ((text : List ℕ) → StandsFor format_limits mid text → position_in mid + length line + 1 ≤ position_in new)
    → Fed old new piece after taken taken_after writes writes_after
fed_line old mid new piece rest line after taken near taken_after writes writes_near writes_after fed going cut echo stands written count onward = record {
  front = fed.front ++ (line ++ 10 ∷ []);
  whole = fed.whole ∙ ap (λ r. fed.front ++ r) cut ∙ line_and_rest fed.front line after;
  echo = echo ∙ fed.echo;
  stands = λ text st. subst (StandsFor format_limits new) (append_assoc text fed.front (line ++ 10 ∷ [])) (stands (text ++ fed.front) (fed.stands text st));
  written = λ text st.
      let w = fed.written text st in
      let v = written (text ++ fed.front) (fed.stands text st) in (
        w.0 ++ v.0,
        ap (due format_limits old.echo None) (sym (append_assoc text fed.front (line ++ 10 ∷ [])))
            ∙ subst (λ e. due format_limits e None ((text ++ fed.front) ++ (line ++ 10 ∷ [])) ≡ due format_limits e None (text ++ fed.front) ++ v.0) fed.echo v.1
            ∙ ap (λ t. t ++ v.0) w.1 ∙ append_assoc (due format_limits old.echo None text) w.0 v.0,
        appends_then taken near taken_after w.0 v.0 w.2 v.2,
      );
  count = λ text st. count (text ++ fed.front) (fed.stands text st) ∙ fed.count text st;
  onward = λ text st still.
      let here : position_in mid + length line + 1 ≤ position_in new = onward (text ++ fed.front) (fed.stands text st) in
      let there : position_in old + length fed.front ≤ position_in mid = fed.onward text st going in
      let size : length (fed.front ++ (line ++ 10 ∷ [])) ≡ length fed.front + (length line + 1) = length-append fed.front (line ++ 10 ∷ []) ∙ ap (λ n. length fed.front + n) (length-append line (10 ∷ [])) in
      omega arith;
}

-- ---- a fault in a piece

pub told_on : (f : ReadFault) (text more : List ℕ) → IsTold (open_fault format_limits text) f → IsTold (open_fault format_limits (text ++ more)) f
told_on f text more h = cause_map f.kind (λ e. e) (λ e. e) (λ e. (fault_fixed format_limits text f e).still more) h

whole_text : (text front part after : List ℕ) → ((text ++ front) ++ part) ++ after ≡ text ++ (front ++ (part ++ after))
whole_text text front part after = append_assoc (text ++ front) part after ∙ append_assoc text front (part ++ after)

-- the fault stays when the rest of the piece follows
pub fed_fault : (f : ReadFault) (old mid : Scan) (piece rest part after : List ℕ) (taken near : Option (List ℕ)) (writes writes_near : WriteCalls) (text : List ℕ)
    → Fed old mid piece rest taken near writes writes_near → rest ≡ part ++ after → StandsFor format_limits old text
    → ((text : List ℕ) → StandsFor format_limits mid text → IsTold (open_fault format_limits (text ++ part)) f) → IsTold (open_fault format_limits (text ++ piece)) f
fed_fault f old mid piece rest part after taken near writes writes_near text fed cut st told =
    subst (λ t. IsTold (open_fault format_limits t) f) (whole_text text fed.front part after ∙ ap (λ p. text ++ p) (ap (λ r. fed.front ++ r) (sym cut) ∙ sym fed.whole))
    (told_on f ((text ++ fed.front) ++ part) after (told (text ++ fed.front) (fed.stands text st)))

written_on : {X : Type 0} (W M : Type 0) (kind : ReadKind) (taken near taken_after : Option (List ℕ)) (before mid now later w v : List ℕ) → mid ≡ before ++ w → Appends taken near w → now ≡ mid ++ v → (u : List ℕ) × (later ≡ now ++ u) → (X → later ≡ now)
    → MatchCause kind W M X → MatchCause kind (AppendsFront near taken_after v) (AppendsFront near taken_after v) (Appends near taken_after v)
    → (w : List ℕ) × (later ≡ before ++ w) × MatchCause kind (AppendsFront taken taken_after w) (AppendsFront taken taken_after w) (Appends taken taken_after w)
written_on W M WriteFailed taken near taken_after before mid now later w v a b c grows same h k = (
  (w ++ v) ++ grows.0,
  grows.1 ∙ ap (λ t. t ++ grows.0) (c ∙ ap (λ t. t ++ v) a ∙ append_assoc before w v) ∙ append_assoc before (w ++ v) grows.0,
  front_before taken taken_after (w ++ v) grows.0 (front_then taken near taken_after w v b k),
)
written_on W M OutOfMemory taken near taken_after before mid now later w v a b c grows same h k = (
  (w ++ v) ++ grows.0,
  grows.1 ∙ ap (λ t. t ++ grows.0) (c ∙ ap (λ t. t ++ v) a ∙ append_assoc before w v) ∙ append_assoc before (w ++ v) grows.0,
  front_before taken taken_after (w ++ v) grows.0 (front_then taken near taken_after w v b k),
)
written_on W M _ taken near taken_after before mid now later w v a b c grows same h k =
    (w ++ v, same h ∙ c ∙ ap (λ t. t ++ v) a ∙ append_assoc before w v, appends_then taken near taken_after w v b k)

pub fed_written : (f : ReadFault) (old mid : Scan) (piece rest part after : List ℕ) (taken near taken_after : Option (List ℕ)) (writes writes_near : WriteCalls) (text : List ℕ)
    → Fed old mid piece rest taken near writes writes_near → rest ≡ part ++ after → StandsFor format_limits old text
    → ((text : List ℕ) → StandsFor format_limits mid text → IsTold (open_fault format_limits (text ++ part)) f)
    → ((text : List ℕ) → StandsFor format_limits mid text → (w : List ℕ) × (due format_limits mid.echo None (text ++ part) ≡ due format_limits mid.echo None text ++ w)
    × MatchCause f.kind (AppendsFront near taken_after w) (AppendsFront near taken_after w) (Appends near taken_after w))
    → (w : List ℕ) × (due format_limits old.echo None (text ++ piece) ≡ due format_limits old.echo None text ++ w)
    × MatchCause f.kind (AppendsFront taken taken_after w) (AppendsFront taken taken_after w) (Appends taken taken_after w)
fed_written f old mid piece rest part after taken near taken_after writes writes_near text fed cut st told written =
    let w = fed.written text st in
    let v = written (text ++ fed.front) (fed.stands text st) in
    let here = (text ++ fed.front) ++ part in
    let all : here ++ after ≡ text ++ piece = whole_text text fed.front part after ∙ ap (λ p. text ++ p) (ap (λ r. fed.front ++ r) (sym cut) ∙ sym fed.whole) in
    let grows = due_grows format_limits old.echo None here after in
    written_on _ _ f.kind taken near taken_after (due format_limits old.echo None text) (due format_limits old.echo None (text ++ fed.front)) (due format_limits old.echo None here) (due format_limits old.echo None (text ++ piece)) w.0 v.0
    w.1 w.2 (subst (λ e. due format_limits e None here ≡ due format_limits e None (text ++ fed.front) ++ v.0) fed.echo v.1)
    (grows.0, ap (due format_limits old.echo None) (sym all) ∙ grows.1)
    (λ e. ap (due format_limits old.echo None) (sym all) ∙ (fault_fixed format_limits here f e).echoes old.echo None after)
    (told (text ++ fed.front) (fed.stands text st)) v.2

pub fed_count : (f : ReadFault) (old mid : Scan) (piece rest : List ℕ) (taken near : Option (List ℕ)) (writes writes_near writes_after : WriteCalls) (text : List ℕ)
    → Fed old mid piece rest taken near writes writes_near → StandsFor format_limits old text
    → ((text : List ℕ) → StandsFor format_limits mid text → MatchCause f.kind (LastUnwritten writes_near writes_after) (AllWritten writes_near writes_after) (AllWritten writes_near writes_after))
    → MatchCause f.kind (LastUnwritten writes writes_after) (AllWritten writes writes_after) (AllWritten writes writes_after)
fed_count f old mid piece rest taken near writes writes_near writes_after text fed st counts =
    subst (λ (n : Counts). MatchCause f.kind ((writes_after.counts ≡ one_failed n) × (writes_after.broken ≡ true)) (writes_after.counts ≡ n) (writes_after.counts ≡ n)) (fed.count text st) (counts (text ++ fed.front) (fed.stands text st))

-- ---- the end of a piece

-- what stands behind the last line feed was kept
pub fed_rest : (old mid new : Scan) (piece rest : List ℕ) (taken near : Option (List ℕ)) (writes writes_near : WriteCalls)
    → Fed old mid piece rest taken near writes writes_near → mid.parsed.header.ended ≡ false → NoFeed rest → new ≡ record { echo = mid.echo; parsed = mid.parsed; rest = mid.rest ++ rest }
    → rest_kind format_limits mid.parsed.header.lines (mid.rest ++ rest) ≡ None → FedWhole old new piece taken near writes writes_near
fed_rest old mid new piece rest taken near writes writes_near fed going none kept fits = record {
  echo = ap (λ s. s.echo) kept ∙ fed.echo;
  stands = λ text st. let g = going_of format_limits mid (text ++ fed.front) (fed.stands text st) going in
      subst (StandsFor format_limits new) (append_assoc text fed.front rest ∙ ap (λ p. text ++ p) (sym fed.whole))
      (rest_taken format_limits mid new (text ++ fed.front) rest g none (ap (λ s. s.parsed) kept) (ap (λ s. s.rest) kept) fits);
  written = λ text st. let g = going_of format_limits mid (text ++ fed.front) (fed.stands text st) going in let w = fed.written text st in
      (w.0, ap (due format_limits old.echo None) (ap (λ p. text ++ p) fed.whole ∙ sym (append_assoc text fed.front rest)) ∙ rest_due format_limits mid old.echo (text ++ fed.front) rest g none ∙ w.1, w.2);
  count = fed.count;
  onward = λ text st still.
      let there : position_in old + length fed.front ≤ position_in mid = fed.onward text st going in
      let size : length piece ≡ length fed.front + length rest = ap length fed.whole ∙ length-append fed.front rest in
      let lines : new.parsed.header.lines ≡ mid.parsed.header.lines = ap (λ s. s.parsed.header.lines) kept in
      let more : length new.rest ≡ length mid.rest + length rest = ap (λ s. length s.rest) kept ∙ length-append mid.rest rest in
      omega arith;
}

-- after the description has ended, the state stands for the text whatever follows
pub stands_ended : (state : Scan) (text more : List ℕ) → StandsFor format_limits state text → state.parsed.header.ended ≡ true → StandsFor format_limits state (text ++ more)
stands_ended state text more st ended =
    let lines = looked_at (ended_lines text) in
    let has : has_ending lines ≡ true = ap (λ s. s.parsed.header.ended) (sym st.given) ∙ ended in
    let same = (ended_fixed format_limits text has).looked None more in
    record {
      faultless = (ended_fixed format_limits text has).still more ∙ st.faultless;
      given = st.given ∙ ap (λ r. record { echo = state.echo; parsed = parsed_of format_limits lines; rest = r }) (ap (λ b. cond b [] (open_rest text)) has ∙ sym (ap (λ b. cond b [] (open_rest (text ++ more))) has))
          ∙ ap (λ ls. record { echo = state.echo; parsed = parsed_of format_limits ls; rest = cond (has_ending ls) [] (open_rest (text ++ more)) }) (sym same);
    }

pub fed_ended : (old mid : Scan) (piece rest : List ℕ) (taken near : Option (List ℕ)) (writes writes_near : WriteCalls)
    → Fed old mid piece rest taken near writes writes_near → mid.parsed.header.ended ≡ true → FedWhole old mid piece taken near writes writes_near
fed_ended old mid piece rest taken near writes writes_near fed ended = record {
  echo = fed.echo;
  stands = λ text st. subst (StandsFor format_limits mid) (append_assoc text fed.front rest ∙ ap (λ p. text ++ p) (sym fed.whole)) (stands_ended mid (text ++ fed.front) rest (fed.stands text st) ended);
  written = λ text st. let w = fed.written text st in
      let has : has_ending (looked_at (ended_lines (text ++ fed.front))) ≡ true = ap (λ s. s.parsed.header.ended) (sym (fed.stands text st).given) ∙ ended in
      (w.0, ap (due format_limits old.echo None) (ap (λ p. text ++ p) fed.whole ∙ sym (append_assoc text fed.front rest)) ∙ ap (λ ls. echo_all old.echo (sound format_limits ls)) ((ended_fixed format_limits (text ++ fed.front) has).looked None rest) ∙ w.1, w.2);
  count = fed.count;
  onward = λ text st still. absurd (no_both mid.parsed.header.ended ended still);
}
  where
    no_both : (b : Bool) → b ≡ true → b ≡ false → ⊥
    no_both b h k = cc
