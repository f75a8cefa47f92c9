-- A symbol put at an input of a cube, and a bit put at an input of a point.
use Rattle.std.proofs.Common.{◌≡◌, ℕ, zero, suc, ◌<◌, Bool, true, false, ◌&&◌, List, [], ◌∷◌, length, get_or, set, refl, ap, sym, ◌∙◌, arith}
use Rattle.std.proofs.lemmas.Bool.{and_right}
use Rattle.std.proofs.lemmas.List.{set-get_or}
use Rattle.cube.specs.declared.symbol.Symbol.{Symbol}
use Rattle.cube.specs.declared.symbol.Symbol.TheVariants.{Dash}
use Rattle.cube.specs.Pattern.{agrees, matches}

and_swap : (a b c : Bool) → (a && (b && c)) ≡ (b && (a && c))
and_swap true true c = refl
and_swap true false c = refl
and_swap false true c = refl
and_swap false false c = refl

pub matches-set_symbol : (s : List Symbol) (p : List Bool) (i : ℕ) (t : Symbol) → i < length s
    → matches (set s i t) p ≡ (agrees t (get_or p i false) && matches (set s i Dash) p)
matches-set_symbol [] p i t l = absurd (omega arith)
matches-set_symbol (s ∷ ss) [] zero t l = sym (and_right (agrees t false) false refl)
matches-set_symbol (s ∷ ss) [] (suc i) t l = sym (and_right (agrees t false) false refl)
matches-set_symbol (s ∷ ss) (x ∷ p) zero t l = refl
matches-set_symbol (s ∷ ss) (x ∷ p) (suc i) t l =
    ap (λ b. agrees s x && b) (matches-set_symbol ss p i t (omega arith))
    ∙ and_swap (agrees s x) (agrees t (get_or p i false)) (matches (set ss i Dash) p)

pub matches-set_bit : (s : List Symbol) (p : List Bool) (i : ℕ) (b : Bool) → i < length s
    → matches s (set p i b) ≡ (agrees (get_or s i Dash) b && matches (set s i Dash) p)
matches-set_bit [] p i b l = absurd (omega arith)
matches-set_bit (s ∷ ss) [] zero b l = sym (and_right (agrees s b) false refl)
matches-set_bit (s ∷ ss) [] (suc i) b l = sym (and_right (agrees (get_or ss i Dash) b) false refl)
matches-set_bit (s ∷ ss) (x ∷ p) zero b l = refl
matches-set_bit (s ∷ ss) (x ∷ p) (suc i) b l =
    ap (λ c. agrees s x && c) (matches-set_bit ss p i b (omega arith))
    ∙ and_swap (agrees s x) (agrees (get_or ss i Dash) b) (matches (set ss i Dash) p)

pub matches-own : (s : List Symbol) (p : List Bool) (i : ℕ) → i < length s
    → matches s p ≡ (agrees (get_or s i Dash) (get_or p i false) && matches (set s i Dash) p)
matches-own s p i l = ap (λ z. matches z p) (sym (set-get_or s i Dash)) ∙ matches-set_symbol s p i (get_or s i Dash) l
