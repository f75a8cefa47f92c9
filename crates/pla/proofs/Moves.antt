-- What several calls in a row did to the known bytes.
use Rattle.std.proofs.Common.{◌≡◌, ℕ, ◌-◌, List, ◌++◌, take, drop, length, Option, Some, None, ap, sym, ◌∙◌, append_assoc}
use Rattle.std.specs.Io.KnownBytes.{Appends, Consumes}
use Rattle.std.proofs.lemmas.List.{take-append-drop, length-drop}
use Rattle.std.proofs.Math.Seq.{take-length}
use Rattle.std.specs.Prelude.{Result, Ok, Err}
use Rattle.pla.specs.declared.calls.Counts.{Counts}
use Rattle.pla.specs.Device.{AppendsFront, Writes, one_more}

-- one more failed write
abbrev pub one_failed : Counts → Counts
one_failed counts = record counts { failures = one_more counts.failures }

-- two texts were taken, one after the other
pub appends_then : (old mid new : Option (List ℕ)) (a b : List ℕ) → Appends old mid a → Appends mid new b → Appends old new (a ++ b)
appends_then None mid new a b h k = tt
appends_then (Some x) None new a b h k = absurd h
appends_then (Some x) (Some y) None a b h k = absurd k
appends_then (Some x) (Some y) (Some z) a b h k = k ∙ ap (λ w. w ++ b) h ∙ append_assoc x a b

-- two texts were delivered, one after the other
pub consumes_then : (old mid new : Option (List ℕ)) (a b : List ℕ) → Consumes old mid a → Consumes mid new b → Consumes old new (a ++ b)
consumes_then None mid new a b h k = tt
consumes_then (Some x) None new a b h k = absurd h
consumes_then (Some x) (Some y) None a b h k = absurd k
consumes_then (Some x) (Some y) (Some z) a b h k = h ∙ ap (λ w. a ++ w) k ∙ sym (append_assoc a b z)

-- one more part of a text was taken
pub front_more : (text front rest : List ℕ) (n : ℕ) → text ≡ front ++ rest → text ≡ (front ++ take n rest) ++ drop n rest
front_more text front rest n h = h ∙ ap (λ w. front ++ w) (sym (take-append-drop n rest)) ∙ sym (append_assoc front (take n rest) (drop n rest))

-- a text was taken, and then a front of another
pub front_then : (old mid new : Option (List ℕ)) (a b : List ℕ) → Appends old mid a → AppendsFront mid new b → AppendsFront old new (a ++ b)
front_then old mid new a b h k = (a ++ k.0, k.1, ap (λ w. a ++ w) k.2 ∙ sym (append_assoc a k.0 k.1), appends_then old mid new a k.0 h k.3)

-- a front of a text is one of each longer text
pub front_before : (old new : Option (List ℕ)) (a b : List ℕ) → AppendsFront old new a → AppendsFront old new (a ++ b)
front_before old new a b k = (k.0, k.1 ++ b, ap (λ w. w ++ b) k.2 ∙ append_assoc k.0 k.1 b, k.3)

-- a list from n on, as a slice of it is seen
pub drop_is : (n : ℕ) (xs : List ℕ) → drop n xs ≡ take (length xs - n) (drop n xs)
drop_is n xs = sym (ap (λ m. take m (drop n xs)) (sym (length-drop n xs)) ∙ take-length (drop n xs))

-- a text after one that was taken whole
pub writes_then : {T E : Type 0} (r : Result T E) (old mid new : Option (List ℕ)) (a b : List ℕ) → Appends old mid a → Writes mid new r b → Writes old new r (a ++ b)
writes_then (Ok x) old mid new a b h k = appends_then old mid new a b h k
writes_then (Err e) old mid new a b h k = front_then old mid new a b h k

-- a text behind one whose writing went well
pub then_ok : {T E : Type 0} (done r : Result T E) (x : T) (old mid new : Option (List ℕ)) (a b : List ℕ) → done ≡ Ok x → Writes old mid done a → Writes mid new r b → Writes old new r (a ++ b)
then_ok (Ok y) r x old mid new a b e h k = writes_then r old mid new a b h k
then_ok (Err f) r x old mid new a b e h k = cc

-- a text behind one whose writing failed
pub then_err : {T E : Type 0} (done : Result T E) (f : E) (old mid : Option (List ℕ)) (a b : List ℕ) → done ≡ Err f → Writes old mid done a → AppendsFront old mid (a ++ b)
then_err (Ok y) f old mid a b e h = cc
then_err (Err g) f old mid a b e h = front_before old mid a b h
