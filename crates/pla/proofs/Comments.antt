-- Where a keyword line's comment begins.
use Rattle.std.proofs.Common.{◌≡◌, ℕ, suc, ◌<◌, ◌≤◌, Bool, true, false, cond, List, [], ◌∷◌, ◌++◌, take, drop, length, get_or, refl, ap, sym, ◌∙◌, append_assoc, arith, eqb, drop-cons, eq-eqb, ne_eqb}
use Rattle.std.specs.Prelude.{◌&&◌}
use Rattle.std.proofs.Math.Seq.{take-suc}
use Rattle.std.proofs.lemmas.List.{length-drop, take-append-drop}
use Rattle.pla.specs.Lines.{is_blank, keyword_code}

begins : List ℕ → ℕ → Bool
begins line p = is_blank (get_or line p 0) && eqb (get_or line (suc p) 0) 35

two : (line : List ℕ) (p : ℕ) → suc p < length line → drop p line ≡ get_or line p 0 ∷ get_or line (suc p) 0 ∷ drop (suc (suc p)) line
two line p l = drop-cons line p 0 (omega arith) ∙ ap (λ r. get_or line p 0 ∷ r) (drop-cons line (suc p) 0 l)

pub not_here : (line : List ℕ) (p q : ℕ) → q ≡ suc p → suc p < length line → (is_blank (get_or line p 0) && eqb (get_or line (suc p) 0) 35) ≡ false
    → keyword_code line ≡ take p line ++ keyword_code (drop p line) → keyword_code line ≡ take q line ++ keyword_code (drop q line)
not_here line p q e l t inv =
    let a = get_or line p 0 in
    let b = get_or line (suc p) 0 in
    let r = drop (suc (suc p)) line in
    let here : keyword_code (drop p line) ≡ a ∷ keyword_code (drop (suc p) line) =
    ap keyword_code (two line p l) ∙ ap (λ x. cond x (a ∷ []) (a ∷ keyword_code (b ∷ r))) t ∙ ap (λ s. a ∷ keyword_code s) (sym (drop-cons line (suc p) 0 l)) in
    inv ∙ ap (λ s. take p line ++ s) here ∙ sym (append_assoc (take p line) (a ∷ []) (keyword_code (drop (suc p) line)))
    ∙ ap (λ s. s ++ keyword_code (drop (suc p) line)) (sym (take-suc line p 0 (omega arith)))
    ∙ ap (λ k. take k line ++ keyword_code (drop k line)) (sym e)

pub here : (line : List ℕ) (p q : ℕ) → q ≡ suc p → suc p < length line → (is_blank (get_or line p 0) && eqb (get_or line (suc p) 0) 35) ≡ true
    → keyword_code line ≡ take p line ++ keyword_code (drop p line) → keyword_code line ≡ take q line
here line p q e l t inv =
    let a = get_or line p 0 in
    let b = get_or line (suc p) 0 in
    let r = drop (suc (suc p)) line in
    inv ∙ ap (λ s. take p line ++ s) (ap keyword_code (two line p l) ∙ ap (λ x. cond x (a ∷ []) (a ∷ keyword_code (b ∷ r))) t)
    ∙ sym (take-suc line p 0 (omega arith)) ∙ ap (λ k. take k line) (sym e)

pub nowhere : (line : List ℕ) (p : ℕ) → length line ≤ suc p → keyword_code line ≡ take p line ++ keyword_code (drop p line) → keyword_code line ≡ line
nowhere line p l inv = inv ∙ ap (λ s. take p line ++ s) (short (drop p line) (omega (arith, length-drop p line))) ∙ take-append-drop p line
  where
    short : (xs : List ℕ) → length xs ≤ 1 → keyword_code xs ≡ xs
    short [] h = refl
    short (x ∷ []) h = refl
    short (x ∷ y ∷ xs) h = absurd (omega arith)

pub no_hash : (b : Bool) (x y : ℕ) → x ≡ y → (y ≡ 35 → ⊥) → (b && eqb x 35) ≡ false
no_hash true x y e h = ne_eqb x 35 (λ k. h (sym e ∙ k))
no_hash false x y e h = refl

pub hash : (b : Bool) (x y : ℕ) → x ≡ y → b ≡ true → y ≡ 35 → (b && eqb x 35) ≡ true
hash true x y e t h = eq-eqb x 35 (e ∙ h)
hash false x y e t h = cc
