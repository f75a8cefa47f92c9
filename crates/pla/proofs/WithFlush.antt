-- What a step did whose echoes were buffered, once the flush of these has answered.
use Rattle.std.proofs.Common.{◌≡◌, ℕ, List, [], ◌++◌, Option, Some, refl, sym, ◌∙◌, subst, append-nil}
use Rattle.std.specs.Prelude.{Result, Ok, Err}
use Rattle.std.specs.Io.KnownBytes.{Appends}
use Rattle.pla.specs.declared.fault.ReadKind.{ReadKind}
use Rattle.pla.specs.declared.fault.ReadKind.TheVariants.{WriteFailed, OutOfMemory}
use Rattle.pla.specs.declared.fault.ReadFault.{ReadFault}
use Rattle.pla.specs.Device.{AppendsFront, Writes}
use Rattle.pla.specs.Reads.{MatchCause, WritesDue, WritesGrowth}
use Rattle.pla.specs.Steps.{result_after_flush, buffered_kind}
use Rattle.pla.proofs.Causes.{cause_map}
use Rattle.pla.proofs.Moves.{front_before}

-- ---- by the cause

cause_buffered : (A B C : Type 0) (kind : ReadKind) → MatchCause kind B B C → MatchCause (buffered_kind kind) A B C
cause_buffered A B C WriteFailed h = h
cause_buffered A B C OutOfMemory h = h
cause_buffered A B C _ h = h

cause_any : (P : Type 0) (kind : ReadKind) → MatchCause kind P P P → P
cause_any P WriteFailed h = h
cause_any P OutOfMemory h = h
cause_any P _ h = h

-- ---- the clauses of a step

-- what was buffered is a front of what was due
buffered_front : {T : Type 0} (r : Result T ReadFault) (buffered w : List ℕ) → WritesDue (Some []) (Some buffered) r w → (rest : List ℕ) × (w ≡ buffered ++ rest)
buffered_front (Ok x) buffered w p = ([], sym p ∙ sym (append-nil buffered))
buffered_front (Err f) buffered w p =
    let some : AppendsFront (Some []) (Some buffered) w → (rest : List ℕ) × (w ≡ buffered ++ rest) = λ a. (a.1, a.2 ∙ subst (λ x. a.0 ++ a.1 ≡ x ++ a.1) (sym a.3) refl) in
    cause_any ((rest : List ℕ) × (w ≡ buffered ++ rest)) f.kind (cause_map f.kind some some (λ a. ([], sym a ∙ sym (append-nil buffered))) p)

front_of : (old new : Option (List ℕ)) (buffered rest w : List ℕ) → w ≡ buffered ++ rest → AppendsFront old new buffered → AppendsFront old new w
front_of old new buffered rest w is a = subst (AppendsFront old new) (sym is) (front_before old new buffered rest a)

whole_front : (old new : Option (List ℕ)) (buffered w : List ℕ) → AppendsFront (Some []) (Some buffered) w → Appends old new buffered → AppendsFront old new w
whole_front old new buffered w a p = (a.0, a.1, a.2, subst (Appends old new) a.3 p)

flushed_due : {T U E : Type 0} (old new : Option (List ℕ)) (buffered w : List ℕ) (r : Result T ReadFault) (h : Result U E) → WritesDue (Some []) (Some buffered) r w → Writes old new h buffered → WritesDue old new (result_after_flush r h) w
flushed_due old new buffered w r (Err e) p k = let f = buffered_front r buffered w p in front_of old new buffered f.0 w f.1 k
flushed_due old new buffered w (Ok x) (Ok u) p k = subst (Appends old new) p k
flushed_due old new buffered w (Err f) (Ok u) p k =
    cause_buffered (AppendsFront old new w) (AppendsFront old new w) (Appends old new w) f.kind (cause_map f.kind (λ a. whole_front old new buffered w a k) (λ a. whole_front old new buffered w a k) (λ a. subst (Appends old new) a k) p)

pub flushed_growth : {T U E : Type 0} (old new : Option (List ℕ)) (empty buffered before now : List ℕ) (r : Result T ReadFault) (h : Result U E) → empty ≡ []
    → WritesGrowth (Some empty) (Some buffered) r before now → Writes old new h buffered → WritesGrowth old new (result_after_flush r h) before now
flushed_growth old new empty buffered before now r h none g k =
    (g.0, g.1, flushed_due old new buffered g.0 r h (subst (λ (e : List ℕ). WritesDue (Some e) (Some buffered) r g.0) none g.2) k)
