-- What is put together before it is written.
use Rattle.std.proofs.Common.{◌≡◌, ℕ, ◌+◌, ◌≤◌, List, [], ◌++◌, take, drop, length, Option, Some, None, ap, sym, ◌∙◌, subst, append_assoc, append-nil, length-append, arith}
use Rattle.std.proofs.lemmas.List.{take-append-drop, length-take-le, take_at}
use Rattle.std.specs.Prelude.{Result, Ok, Err, OnErr, IsErr}
use Rattle.std.specs.Io.KnownBytes.{Appends}
use Rattle.pla.specs.Device.{AppendsFront, Writes, Continues, Puts, PutsOn}
use Rattle.pla.proofs.Moves.{front_before}

-- nothing is pending
pub puts_writes : {T E : Type 0} (old taken : Option (List ℕ)) (pending text : List ℕ) (done : Result T E) → pending ≡ [] → Puts old taken pending done text → Writes old taken done text
puts_writes old taken pending text (Ok x) none h = subst (Appends old taken) (sym (h.1 ∙ ap (λ p. h.0 ++ p) none ∙ append-nil h.0)) h.2
puts_writes old taken pending text (Err e) none h = h

writes_puts : {T E : Type 0} (old taken : Option (List ℕ)) (pending text : List ℕ) (done : Result T E) → pending ≡ [] → Writes old taken done text → Puts old taken pending done text
writes_puts old taken pending text (Ok x) none h = (text, sym (ap (λ p. text ++ p) none ∙ append-nil text), h)
writes_puts old taken pending text (Err e) none h = h

-- a text was written past an empty batch
pub puts_past : {T E : Type 0} (taken new : Option (List ℕ)) (pending left bytes : List ℕ) (done r : Result T E) → pending ≡ [] → left ≡ [] → Continues taken done new r bytes → PutsOn taken pending done new left r bytes
puts_past taken new pending left bytes done r none empty k = λ old front h. writes_puts old new left (front ++ bytes) r empty (k old front (puts_writes old taken pending front done none h))

-- what was pending was written
pub puts_flushed : {T E : Type 0} (taken new : Option (List ℕ)) (pending left : List ℕ) (done r : Result T E) → left ≡ [] → OnErr done (r ≡ done) → OnErr done (new ≡ taken) → Continues taken done new r pending → PutsOn taken pending done new left r []
puts_flushed taken new pending left (Ok x) (Ok y) empty failed untouched k = λ old front h. (front, ap (λ l. front ++ l) (sym empty), subst (Appends old new) (sym h.1) (k old h.0 h.2))
puts_flushed taken new pending left (Ok x) (Err e) empty failed untouched k = λ old front h. front_before old new front [] (subst (AppendsFront old new) (sym h.1) (k old h.0 h.2))
puts_flushed taken new pending left (Err f) (Ok y) empty failed untouched k = cc
puts_flushed taken new pending left (Err f) (Err e) empty failed untouched k = λ old front h. front_before old new front [] (subst (λ t. AppendsFront old t front) (sym untouched) h)

-- a text was kept
pub puts_kept : {T E : Type 0} (taken : Option (List ℕ)) (pending left bytes : List ℕ) (done : Result T E) → left ≡ pending ++ bytes → PutsOn taken pending done taken left done bytes
puts_kept taken pending left bytes (Ok x) is = λ old front h. (h.0, ap (λ t. t ++ bytes) h.1 ∙ append_assoc h.0 pending bytes ∙ ap (λ t. h.0 ++ t) (sym is), h.2)
puts_kept taken pending left bytes (Err e) is = λ old front h. front_before old taken front bytes h

-- before anything was put
pub puts_first : {T E : Type 0} (taken : Option (List ℕ)) (pending : List ℕ) (done : Result T E) (x : T) → done ≡ Ok x → pending ≡ [] → Puts taken taken pending done []
puts_first taken pending (Err e) x is none = cc
puts_first taken pending (Ok y) x is none = ([], sym none, nothing taken)
  where
    nothing : (known : Option (List ℕ)) → Appends known known []
    nothing None = tt
    nothing (Some bytes) = sym (append-nil bytes)

-- after a failure nothing more is written, whatever was to come
pub puts_failed : {T E : Type 0} (taken : Option (List ℕ)) (pending : List ℕ) (done : Result T E) (new : Option (List ℕ)) (left : List ℕ) (r : Result T E) (a b : List ℕ)
    → IsErr r → PutsOn taken pending done new left r a → PutsOn taken pending done new left r (a ++ b)
puts_failed taken pending done new left (Ok x) a b e h = cc
puts_failed taken pending done new left (Err x) a b e h = λ old front w. subst (AppendsFront old new) (append_assoc front a b) (front_before old new (front ++ a) b (h old front w))

-- a text behind one that changed nothing
pub puts_after : {T E : Type 0} (taken mid new : Option (List ℕ)) (pending near left b : List ℕ) (done m r : Result T E) → PutsOn taken pending done mid near m [] → PutsOn mid near m new left r b → PutsOn taken pending done new left r b
puts_after taken mid new pending near left b done m r h k = λ old front w. subst (λ t. Puts old new left r (t ++ b)) (append-nil front) (k old (front ++ []) (h old front w))

-- a text behind another
pub puts_then : {T E : Type 0} (taken mid new : Option (List ℕ)) (pending near left a b : List ℕ) (done m r : Result T E) → PutsOn taken pending done mid near m a → PutsOn mid near m new left r b → PutsOn taken pending done new left r (a ++ b)
puts_then taken mid new pending near left a b done m r h k = λ old front w. subst (Puts old new left r) (append_assoc front a b) (k old (front ++ a) (h old front w))

-- a text with nothing behind it
pub puts_last : {T E : Type 0} (taken new : Option (List ℕ)) (pending left : List ℕ) (done r : Result T E) (a : List ℕ) → PutsOn taken pending done new left r a → PutsOn taken pending done new left r (a ++ [])
puts_last taken new pending left done r a h = subst (PutsOn taken pending done new left r) (sym (append-nil a)) h

-- bytes put behind those that are used
pub used_more : (old bytes row rest text : List ℕ) (used count : ℕ) → used ≤ length bytes → count ≤ length row → take used bytes ≡ old → take count row ≡ text
    → take (used + count) (take used bytes ++ (row ++ rest)) ≡ old ++ text
used_more old bytes row rest text used count within fits is same =
    let at = used + count in
    let front = take used bytes ++ take count row in
    let long : length front ≡ at = omega (arith, length-append (take used bytes) (take count row), length-take-le used bytes within, length-take-le count row fits) in
    ap (λ r. take at (take used bytes ++ (r ++ rest))) (sym (take-append-drop count row))
    ∙ ap (λ t. take at (take used bytes ++ t)) (append_assoc (take count row) (drop count row) rest)
    ∙ ap (take at) (sym (append_assoc (take used bytes) (take count row) (drop count row ++ rest)))
    ∙ take_at front (drop count row ++ rest) at long
    ∙ ap (λ t. t ++ take count row) is ∙ ap (λ t. old ++ t) same
