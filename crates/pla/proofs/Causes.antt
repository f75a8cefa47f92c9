-- What holds of a fault by its cause.
use Rattle.std.proofs.Common.{◌≡◌, ℕ, Bool, true, false, cond, List, [], ◌∷◌, Some, None, refl, ap, sym, ◌∙◌, find}
use Rattle.std.specs.Prelude.{◌&&◌, option_map, is_none, nat_lt}
use Rattle.std.specs.List.{list_all}
use Rattle.cube.specs.Limits.{Limits}
use Rattle.pla.specs.declared.fault.ReadKind.{ReadKind}
use Rattle.pla.specs.declared.fault.ReadKind.TheVariants.{ShapeMissing, UnfinishedRow, WriteFailed, OutOfMemory}
use Rattle.pla.specs.Header.{Header, size_in}
use Rattle.pla.specs.Fault.{tests, fault_in, end_kind}
use Rattle.pla.specs.Reads.{MatchCause}

pub cause_map : {W M T W' M' T' : Type 0} (kind : ReadKind) → (W → W') → (M → M') → (T → T') → MatchCause kind W M T → MatchCause kind W' M' T'
cause_map WriteFailed w m t h = w h
cause_map OutOfMemory w m t h = m h
cause_map _ w m t h = t h

-- whether the text, and no write or memory, is the cause
abbrev pub is_own : ReadKind → Bool
is_own WriteFailed = false
is_own OutOfMemory = false
is_own _ = true

pub own_cause : {T : Type 0} (kind : ReadKind) (W M : Type 0) → is_own kind ≡ true → T → MatchCause kind W M T
own_cause WriteFailed W M h t = cc
own_cause OutOfMemory W M h t = cc
own_cause _ W M h t = t

found_step : (t : Bool × ReadKind) (ts : List (Bool × ReadKind)) (kind : ReadKind) → (list_all (λ (t : Bool × ReadKind). is_own t.1) ts ≡ true → option_map (λ (t : Bool × ReadKind). t.1) (find (λ (t : Bool × ReadKind). t.0) ts) ≡ Some kind → is_own kind ≡ true)
    → (b o : Bool) → is_own t.1 ≡ o → (o && list_all (λ (t : Bool × ReadKind). is_own t.1) ts) ≡ true → option_map (λ (t : Bool × ReadKind). t.1) (cond b (Some t) (find (λ (t : Bool × ReadKind). t.0) ts)) ≡ Some kind → is_own kind ≡ true
found_step t ts kind ih b false same h e = cc
found_step t ts kind ih true true same h e = let is : t.1 ≡ kind = cc in ap is_own (sym is) ∙ same
found_step t ts kind ih false true same h e = ih h e

found_own : (ts : List (Bool × ReadKind)) (kind : ReadKind) → list_all (λ (t : Bool × ReadKind). is_own t.1) ts ≡ true → option_map (λ (t : Bool × ReadKind). t.1) (find (λ (t : Bool × ReadKind). t.0) ts) ≡ Some kind → is_own kind ≡ true
found_own [] kind h e = cc
found_own (t ∷ ts) kind h e = found_step t ts kind (found_own ts kind) t.0 (is_own t.1) refl h e

-- the faults of a line are the text's own
pub line_own : (limits : Limits) (h : Header) (line : List ℕ) (kind : ReadKind) → fault_in limits h line ≡ Some kind → is_own kind ≡ true
unfolding fault_in
line_own limits h line kind e = found_own (tests limits h line) kind refl e

picked_own : (a b : Bool) (j k kind : ReadKind) → is_own j ≡ true → is_own k ≡ true → cond a (Some j) (cond b (Some k) None) ≡ Some kind → is_own kind ≡ true
picked_own true b j k kind hj hk e = let is : j ≡ kind = cc in ap is_own (sym is) ∙ hj
picked_own false true j k kind hj hk e = let is : k ≡ kind = cc in ap is_own (sym is) ∙ hk
picked_own false false j k kind hj hk e = cc

-- the faults of the end of the description and of a rest are the text's own
pub end_own : (h : Header) (kind : ReadKind) → end_kind h ≡ Some kind → is_own kind ≡ true
end_own h kind e = picked_own (is_none (size_in h)) (nat_lt 0 h.unfinished) ShapeMissing UnfinishedRow kind refl refl e
