-- What an output took, from one step to the next.
use Rattle.std.proofs.Common.{◌≡◌, ◌∙◌, ℕ, refl, sym, ap, subst, inl, inr, List, [], Option, Some, None, Result, Ok, Err, append-nil}
use Rattle.std.specs.Io.KnownBytes.{Appends, Keeps}
use Rattle.pla.specs.declared.calls.WriteCalls.{WriteCalls}
use Rattle.pla.specs.Device.{AllWritten, AppendsFront, LastUnwritten, TellsFailure, Writes}
use Rattle.espresso.specs.Run.{WroteOrFailed, trace}
use Rattle.pla.proofs.Moves.{one_failed}

-- and then nothing more
pub appends_kept : (old mid new : Option (List ℕ)) (a : List ℕ) → Appends old mid a → Keeps mid new → Appends old new a
appends_kept None mid new a h k = tt
appends_kept (Some xs) None new a h k = absurd h
appends_kept (Some xs) (Some ys) None a h k = absurd k
appends_kept (Some xs) (Some ys) (Some zs) a h k = k ∙ h

-- an output that is as it was took nothing
pub appends_nothing : (old : Option (List ℕ)) → Appends old old []
appends_nothing None = tt
appends_nothing (Some xs) = sym (append-nil xs)

-- the whole of a text is a beginning of it
pub front_whole : (old new : Option (List ℕ)) (a : List ℕ) → Appends old new a → AppendsFront old new a
front_whole old new a h = (a, [], sym (append-nil a), h)

-- a beginning, and then nothing more
pub front_kept : (old mid new : Option (List ℕ)) (a : List ℕ) → AppendsFront old mid a → Keeps mid new → AppendsFront old new a
front_kept old mid new a h k = (h.0, h.1, h.2, appends_kept old mid new h.0 h.3 k)

-- an output that is as it was took a beginning of each text
pub front_nothing : (old new : Option (List ℕ)) (a : List ℕ) → new ≡ old → AppendsFront old new a
front_nothing old new a same = ([], a, refl, subst (λ t. Appends old t []) (sym same) (appends_nothing old))

-- a failure behind calls of which none failed
pub failed_since : (before mid after : WriteCalls) → AllWritten before mid → LastUnwritten mid after → LastUnwritten before after
failed_since before mid after same h = (h.0 ∙ ap one_failed same, h.1)

-- a message was written as this text, or a write of it failed
pub wrote_or_failed : {T E : Type 0} (old new : Option (List ℕ)) (before after : WriteCalls) (r : Result T E) (text message : List ℕ)
    → text ≡ message → Writes old new r text → TellsFailure before after r → WroteOrFailed (trace old new before after) message
wrote_or_failed old new before after r text message same written told = subst (WroteOrFailed (trace old new before after)) same (either r written told)
  where
    either : {T E : Type 0} (r : Result T E) → Writes old new r text → TellsFailure before after r → WroteOrFailed (trace old new before after) text
    either (Ok x) written told = inl (written, told)
    either (Err e) written told = inr (written, told)
