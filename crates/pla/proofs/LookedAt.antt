-- Lines, looked at one after another.
use Rattle.std.proofs.Common.{◌≡◌, Bool, true, false, cond, List, [], ◌∷◌, ◌++◌, refl, ap, sym, ◌∙◌, append-nil, ℕ}
use Rattle.std.specs.Prelude.{◌||◌}
use Rattle.std.specs.List.{list_any}
use Rattle.pla.specs.Keywords.{looked_at, is_ending}
use Rattle.pla.specs.Fault.{has_ending}

looked_step : (line : List ℕ) (lines more : List (List ℕ)) (b c : Bool) → list_any is_ending lines ≡ c → (b || c) ≡ false → (list_any is_ending lines ≡ false → looked_at (lines ++ more) ≡ lines ++ looked_at more)
    → line ∷ cond b [] (looked_at (lines ++ more)) ≡ line ∷ (lines ++ looked_at more)
looked_step line lines more true c e k ih = cc
looked_step line lines more false c e k ih = ap (λ ls. line ∷ ls) (ih (e ∙ k))

-- looking on after lines none of which ends the description
pub looked_more : (lines more : List (List ℕ)) → list_any is_ending lines ≡ false → looked_at (lines ++ more) ≡ lines ++ looked_at more
looked_more [] more h = refl
looked_more (line ∷ lines) more h = looked_step line lines more (is_ending line) (list_any is_ending lines) refl h (looked_more lines more)

grows_step : (line : List ℕ) (lines more : List (List ℕ)) (b : Bool) → is_ending line ≡ b → (new : List (List ℕ)) × (looked_at (lines ++ more) ≡ looked_at lines ++ new)
    → (new : List (List ℕ)) × (cond b [] (looked_at (lines ++ more)) ≡ cond b [] (looked_at lines) ++ new)
grows_step line lines more true e h = ([], refl)
grows_step line lines more false e h = h

-- more lines put off none that were looked at
pub looked_grows : (lines more : List (List ℕ)) → (new : List (List ℕ)) × (looked_at (lines ++ more) ≡ looked_at lines ++ new)
looked_grows [] more = (looked_at more, refl)
looked_grows (line ∷ lines) more = let h = grows_step line lines more (is_ending line) refl (looked_grows lines more) in (h.0, ap (λ ls. line ∷ ls) h.1)

stay_step : (lines more : List (List ℕ)) (b : Bool) → (b || has_ending lines) ≡ true → (has_ending lines ≡ true → looked_at (lines ++ more) ≡ looked_at lines)
    → cond b [] (looked_at (lines ++ more)) ≡ cond b [] (looked_at lines)
stay_step lines more true e ih = refl
stay_step lines more false e ih = ih e

-- nothing is looked at after a line that ends the description
pub looked_stays : (lines more : List (List ℕ)) → has_ending lines ≡ true → looked_at (lines ++ more) ≡ looked_at lines
looked_stays [] more h = cc
looked_stays (line ∷ lines) more h = ap (λ ls. line ∷ ls) (stay_step lines more (is_ending line) h (looked_stays lines more))

has_step : (lines : List (List ℕ)) (b : Bool) → has_ending (looked_at lines) ≡ has_ending lines → (b || has_ending (cond b [] (looked_at lines))) ≡ (b || has_ending lines)
has_step lines true h = refl
has_step lines false h = h

pub has_looked : (lines : List (List ℕ)) → has_ending (looked_at lines) ≡ has_ending lines
has_looked [] = refl
has_looked (line ∷ lines) = has_step lines (is_ending line) (has_looked lines)

pub looked_all : (lines : List (List ℕ)) → has_ending lines ≡ false → looked_at lines ≡ lines
looked_all lines h = ap looked_at (sym (append-nil lines)) ∙ looked_more lines [] h ∙ append-nil lines

again_step : (lines : List (List ℕ)) (b : Bool) → looked_at (looked_at lines) ≡ looked_at lines → cond b [] (looked_at (cond b [] (looked_at lines))) ≡ cond b [] (looked_at lines)
again_step lines true h = refl
again_step lines false h = h

pub looked_again : (lines : List (List ℕ)) → looked_at (looked_at lines) ≡ looked_at lines
looked_again [] = refl
looked_again (line ∷ lines) = ap (λ ls. line ∷ ls) (again_step lines (is_ending line) (looked_again lines))
