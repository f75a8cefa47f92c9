-- What a device reports: the bytes that it has left or has taken, and what came of the calls that
-- were made to it.
use Rattle.std.specs.Prelude.{◌≡◌, ℕ, ◌+◌, ◌-◌, ◌^◌, Bool, true, false, if◌then◌else◌, min, List, ◌++◌, Option, Result, is_err, MatchResult}
use Rattle.std.specs.Io.KnownBytes.{Appends}
use Rattle.pla.specs.declared.calls.ReadCalls.{ReadCalls}
use Rattle.pla.specs.declared.calls.WriteCalls.{WriteCalls}

-- a count one higher, which stays at the last value of a u64; no code can look at the count of a
-- device, so that nothing depends on it
abbrev pub one_more : ℕ → ℕ
one_more count = min (count + 1) (2 ^ 64 - 1)

-- a count of failures after one more call
abbrev pub failures_after : Bool → ℕ → ℕ
failures_after failed count = if failed then one_more count else count

-- ---- one more call, which failed or went well

abbrev pub after_read : Bool → ReadCalls → ReadCalls
after_read failed calls = record {
  failures = failures_after failed calls.failures;
  broken = failed;
}

abbrev pub after_write : Bool → WriteCalls → WriteCalls
after_write failed calls = record {
  counts = record calls.counts { failures = failures_after failed calls.counts.failures };
  broken = failed;
  flushed = false;
}

abbrev pub after_flush : Bool → WriteCalls → WriteCalls
after_flush failed calls = record calls {
  counts = record calls.counts {
    flushes = one_more calls.counts.flushes;
    failed_flushes = failures_after failed calls.counts.failed_flushes;
  };
  flushed = true;
}

-- what a device reports of a call, by its result
abbrev pub TellsRead : {T E : Type 0} → ReadCalls → ReadCalls → Result T E → Type 0
TellsRead before after r = after ≡ after_read (is_err r) before

abbrev pub TellsWrite : {T E : Type 0} → WriteCalls → WriteCalls → Result T E → Type 0
TellsWrite before after r = after ≡ after_write (is_err r) before

abbrev pub TellsFlush : {T E : Type 0} → WriteCalls → WriteCalls → Result T E → Type 0
TellsFlush before after r = after ≡ after_flush (is_err r) before

-- ---- calls in a row

-- no read failed
abbrev pub NoneFailed : ReadCalls → ReadCalls → Type 0
NoneFailed before after = after.failures ≡ before.failures

-- one read failed, and none came after it
abbrev pub LastFailed : ReadCalls → ReadCalls → Type 0
LastFailed before after = (after.failures ≡ one_more before.failures) × (after.broken ≡ true)

-- no write failed, and no flush was asked for
abbrev pub AllWritten : WriteCalls → WriteCalls → Type 0
AllWritten before after = after.counts ≡ before.counts

-- one write failed, and none came after it; no flush was asked for
abbrev pub LastUnwritten : WriteCalls → WriteCalls → Type 0
LastUnwritten before after =
    (after.counts ≡ (after_write true before).counts) × (after.broken ≡ true)

-- known bytes grow by a prefix of the text
abbrev pub AppendsFront : Option (List ℕ) → Option (List ℕ) → List ℕ → Type 0
AppendsFront old new text = (front : List ℕ) × (rest : List ℕ) × (text ≡ front ++ rest)
    × Appends old new front

-- the whole text was taken at `Ok`, and a prefix of it at `Err`
abbrev pub Writes : {T E : Type 0} → Option (List ℕ) → Option (List ℕ) → Result T E
    → List ℕ → Type 0
Writes old new r text = MatchResult r (λ _. Appends old new text) (λ _. AppendsFront old new text)

-- at `Ok` no write failed, and at `Err` the last one did; no flush was asked for
abbrev pub TellsFailure : {T E : Type 0} → WriteCalls → WriteCalls → Result T E → Type 0
TellsFailure before after r =
    MatchResult r (λ _. AllWritten before after) (λ _. LastUnwritten before after)

-- whatever was being written comes out with the text after it
abbrev pub Continues : {T E : Type 0} → Option (List ℕ) → Result T E → Option (List ℕ)
    → Result T E → List ℕ → Type 0
Continues taken done new r text = (old : Option (List ℕ)) (front : List ℕ)
    → Writes old taken done front → Writes old new r (front ++ text)

-- whether a write failed since any earlier call is passed on
abbrev pub CountsOn : {T E : Type 0} → WriteCalls → Result T E → WriteCalls → Result T E → Type 0
CountsOn calls done new r = (before : WriteCalls) → TellsFailure before calls done
    → TellsFailure before new r

-- a text was put together: at `Ok` all of it was taken but for what is pending, and at `Err` a
-- front of it
abbrev pub Puts : {T E : Type 0} → Option (List ℕ) → Option (List ℕ) → List ℕ
    → Result T E → List ℕ → Type 0
Puts old taken pending done text =
    MatchResult done (λ _. (sent : List ℕ) × (text ≡ sent ++ pending) × Appends old taken sent)
    (λ _. AppendsFront old taken text)

-- whatever was being put together comes out with the text after it
abbrev pub PutsOn : {T E : Type 0} → Option (List ℕ) → List ℕ → Result T E
    → Option (List ℕ) → List ℕ → Result T E → List ℕ → Type 0
PutsOn taken pending done new left r text = (old : Option (List ℕ)) (front : List ℕ)
    → Puts old taken pending done front → Puts old new left r (front ++ text)
