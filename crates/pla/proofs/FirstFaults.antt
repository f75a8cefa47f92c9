-- The first line with a fault, and the lines before it.
use Rattle.std.proofs.Common.{◌≡◌, ℕ, ◌+◌, Bool, true, false, cond, List, [], ◌∷◌, ◌++◌, length, Option, Some, None, refl, ap, sym, ◌∙◌, append_assoc, append-nil, ◌⊎◌, inl, inr}
use Rattle.std.specs.Prelude.{is_some, slice_get, option_map, option_and_then}
use Rattle.cube.specs.Limits.{Limits}
use Rattle.pla.specs.declared.fault.ReadKind.{ReadKind}
use Rattle.pla.specs.declared.fault.ReadFault.{ReadFault}
use Rattle.pla.specs.Fault.{sound, sound_after, fault_on, line_fault, at_line}

sound_step : {K : Type 0} (fault : List (List ℕ) → List ℕ → Option K) (before : List (List ℕ)) (line : List ℕ) (lines more : List (List ℕ)) (b : Bool)
    → cond b [] (line ∷ sound_after fault (before ++ line ∷ []) lines) ≡ line ∷ lines
    → (sound_after fault (before ++ line ∷ []) lines ≡ lines → sound_after fault (before ++ line ∷ []) (lines ++ more) ≡ lines ++ sound_after fault ((before ++ line ∷ []) ++ lines) more)
    → cond b [] (line ∷ sound_after fault (before ++ line ∷ []) (lines ++ more)) ≡ line ∷ (lines ++ sound_after fault (before ++ (line ∷ lines)) more)
sound_step fault before line lines more true k ih = cc
sound_step fault before line lines more false k ih = let rest : sound_after fault (before ++ line ∷ []) lines ≡ lines = cc in
    ap (λ ls. line ∷ ls) (ih rest ∙ ap (λ b. lines ++ sound_after fault b more) (append_assoc before (line ∷ []) lines))

-- more lines after lines that have no fault
pub sound_more : {K : Type 0} (fault : List (List ℕ) → List ℕ → Option K) (before lines more : List (List ℕ)) →
    sound_after fault before lines ≡ lines → sound_after fault before (lines ++ more) ≡ lines ++ sound_after fault (before ++ lines) more
sound_more fault before [] more h = ap (λ b. sound_after fault b more) (sym (append-nil before))
sound_more fault before (line ∷ lines) more h = sound_step fault before line lines more (is_some (fault before line)) h (sound_more fault (before ++ line ∷ []) lines more)

-- lines without a fault, then one with a fault
pub record FirstFault {K : Type 0} (fault : List (List ℕ) → List ℕ → Option K) (before lines : List (List ℕ)) : Type 0 where
  pub front : List (List ℕ)
  pub line : List ℕ
  pub after : List (List ℕ)
  pub kind : K
  pub whole : lines ≡ front ++ line ∷ after
  pub sane : sound_after fault before front ≡ front
  pub here : fault (before ++ front) line ≡ Some kind

split_step : {K : Type 0} (fault : List (List ℕ) → List ℕ → Option K) (before : List (List ℕ)) (line : List ℕ) (lines : List (List ℕ)) (o : Option K) → fault before line ≡ o
    → (sound_after fault (before ++ line ∷ []) lines ≡ lines) ⊎ FirstFault fault (before ++ line ∷ []) lines
    → (cond (is_some o) [] (line ∷ sound_after fault (before ++ line ∷ []) lines) ≡ line ∷ lines) ⊎ FirstFault fault before (line ∷ lines)
split_step fault before line lines (Some k) e h = inr (record { front = []; line = line; after = lines; kind = k; whole = refl; sane = refl; here = ap (λ b. fault b line) (append-nil before) ∙ e })
split_step fault before line lines None e (inl h) = inl (ap (λ ls. line ∷ ls) h)
split_step fault before line lines None e (inr f) = inr (record {
  front = line ∷ f.front;
  line = f.line;
  after = f.after;
  kind = f.kind;
  whole = ap (λ ls. line ∷ ls) f.whole;
  sane = ap (λ o. cond (is_some o) [] (line ∷ sound_after fault (before ++ line ∷ []) f.front)) e ∙ ap (λ ls. line ∷ ls) f.sane;
  here = ap (λ b. fault b f.line) (sym (append_assoc before (line ∷ []) f.front)) ∙ f.here;
})

pub split_sound : {K : Type 0} (fault : List (List ℕ) → List ℕ → Option K) (before lines : List (List ℕ)) → (sound_after fault before lines ≡ lines) ⊎ FirstFault fault before lines
split_sound fault before [] = inl refl
split_sound fault before (line ∷ lines) = split_step fault before line lines (fault before line) refl (split_sound fault (before ++ line ∷ []) lines)

get_at : (lines more : List (List ℕ)) (line : List ℕ) → slice_get (lines ++ line ∷ more) (length lines) ≡ Some line
get_at [] more line = refl
get_at (l ∷ lines) more line = get_at lines more line

get_end : (lines : List (List ℕ)) → slice_get lines (length lines) ≡ None
get_end [] = refl
get_end (l ∷ lines) = get_end lines

pub sound_here : (limits : Limits) → (lines more : List (List ℕ)) (line : List ℕ) (kind : ReadKind) → sound limits lines ≡ lines → fault_on limits lines line ≡ Some kind → sound limits (lines ++ line ∷ more) ≡ lines
sound_here limits lines more line kind h k =
    sound_more (fault_on limits) [] lines (line ∷ more) h ∙ ap (λ o. lines ++ cond (is_some o) [] (line ∷ sound_after (fault_on limits) (lines ++ line ∷ []) more)) k ∙ append-nil lines

-- the first line with a fault, after lines without one
pub fault_here : (limits : Limits) → (lines more : List (List ℕ)) (line : List ℕ) (kind : ReadKind) → sound limits lines ≡ lines → fault_on limits lines line ≡ Some kind → line_fault limits (lines ++ line ∷ more) ≡ Some (at_line (length lines + 1) kind)
fault_here limits lines more line kind h k =
    let before : sound limits (lines ++ line ∷ more) ≡ lines = sound_more (fault_on limits) [] lines (line ∷ more) h ∙ ap (λ o. lines ++ cond (is_some o) [] (line ∷ sound_after (fault_on limits) (lines ++ line ∷ []) more)) k ∙ append-nil lines in
    ap (λ b. option_and_then (λ l. option_map (at_line (length b + 1)) (fault_on limits b l)) (slice_get (lines ++ line ∷ more) (length b))) before
    ∙ ap (option_and_then (λ l. option_map (at_line (length lines + 1)) (fault_on limits lines l))) (get_at lines more line)
    ∙ ap (option_map (at_line (length lines + 1))) k

pub no_fault_yet : (limits : Limits) → (lines : List (List ℕ)) → sound limits lines ≡ lines → line_fault limits lines ≡ None
no_fault_yet limits lines h =
    ap (λ b. option_and_then (λ l. option_map (at_line (length b + 1)) (fault_on limits b l)) (slice_get lines (length b))) h
    ∙ ap (option_and_then (λ l. option_map (at_line (length lines + 1)) (fault_on limits lines l))) (get_end lines)

-- whatever stands behind the first line with a fault
pub faulty_front : (limits : Limits) → (lines more : List (List ℕ)) (f : ReadFault) → line_fault limits lines ≡ Some f → (line_fault limits (lines ++ more) ≡ Some f) × (sound limits (lines ++ more) ≡ sound limits lines)
faulty_front limits lines more f h = by_split (split_sound (fault_on limits) [] lines)
  where
    by_split : (sound limits lines ≡ lines) ⊎ FirstFault (fault_on limits) [] lines → (line_fault limits (lines ++ more) ≡ Some f) × (sound limits (lines ++ more) ≡ sound limits lines)
    by_split (inl s) = let none = no_fault_yet limits lines s in cc
    by_split (inr s) =
        let whole : lines ++ more ≡ s.front ++ s.line ∷ (s.after ++ more) = ap (λ ls. ls ++ more) s.whole ∙ append_assoc s.front (s.line ∷ s.after) more in
        let same : Some (at_line (length s.front + 1) s.kind) ≡ Some f = sym (fault_here limits s.front s.after s.line s.kind s.sane s.here) ∙ ap (line_fault limits) (sym s.whole) ∙ h in (
          ap (line_fault limits) whole ∙ fault_here limits s.front (s.after ++ more) s.line s.kind s.sane s.here ∙ same,
          ap (sound limits) whole ∙ sound_here limits s.front (s.after ++ more) s.line s.kind s.sane s.here ∙ sym (sound_here limits s.front s.after s.line s.kind s.sane s.here) ∙ ap (sound limits) (sym s.whole),
        )

-- lines in which no fault was found
pub sound_all : (limits : Limits) (lines : List (List ℕ)) → line_fault limits lines ≡ None → sound limits lines ≡ lines
sound_all limits lines h = by_split (split_sound (fault_on limits) [] lines)
  where
    by_split : (sound limits lines ≡ lines) ⊎ FirstFault (fault_on limits) [] lines → sound limits lines ≡ lines
    by_split (inl s) = s
    by_split (inr s) = let found = fault_here limits s.front s.after s.line s.kind s.sane s.here in let whole = ap (line_fault limits) s.whole in cc
