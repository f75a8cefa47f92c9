-- A point mixed of two, and cubes that look at the one alone.
use Rattle.std.proofs.Common.{◌≡◌, ℕ, suc, Bool, true, false, not, ◌&&◌, cond, List, [], ◌∷◌, length, get_or, refl, ap, ap₂, sym, ◌∙◌, arith, inl, inr}
use Rattle.std.specs.List.{Contains}
use Rattle.std.proofs.lemmas.Bool.{and_parts, and_from, cases_Bool, false≢true}
use Rattle.cube.specs.declared.symbol.Symbol.{Symbol}
use Rattle.cube.specs.declared.symbol.Symbol.TheVariants.{Dash, Zero, One}
use Rattle.cube.specs.Pattern.{agrees, matches}
use Rattle.cube.specs.Cube.{Cube}
use Rattle.cube.proofs.Members.{list_any_none}
use Rattle.rows.specs.Marks.{is_symbol}
use Rattle.rows.specs.Parts.{has_literal}

-- the bits of xs where the test holds, and elsewhere those of ys
abbrev pub mixed : (ℕ → Bool) → List Bool → List Bool → List Bool
mixed u [] ys = []
mixed u (x ∷ xs) [] = x ∷ mixed (λ k. u (suc k)) xs []
mixed u (x ∷ xs) (y ∷ ys) = cond (u 0) x y ∷ mixed (λ k. u (suc k)) xs ys

agrees_left : (s : Symbol) (b x y : Bool) → (b ≡ false → s ≡ Dash) → agrees s (cond b x y) ≡ agrees s x
agrees_left s true x y h = refl
agrees_left s false x y h = ap (λ t. agrees t y) (h refl) ∙ sym (ap (λ t. agrees t x) (h refl))

agrees_right : (s : Symbol) (b x y : Bool) → (b ≡ true → s ≡ Dash) → agrees s (cond b x y) ≡ agrees s y
agrees_right s false x y h = refl
agrees_right s true x y h = ap (λ t. agrees t x) (h refl) ∙ sym (ap (λ t. agrees t y) (h refl))

agrees_both : (s : Symbol) (b x y : Bool) → agrees s x ≡ true → agrees s y ≡ true → agrees s (cond b x y) ≡ true
agrees_both s true x y h k = h
agrees_both s false x y h k = k

-- a row that matches both points
pub matches-mixed : (ss : List Symbol) (u : ℕ → Bool) (xs ys : List Bool) → matches ss xs ≡ true → matches ss ys ≡ true → matches ss (mixed u xs ys) ≡ true
matches-mixed [] u [] ys h k = refl
matches-mixed [] u (x ∷ xs) ys h k = absurd (false≢true h)
matches-mixed (s ∷ ss) u [] ys h k = absurd (false≢true h)
matches-mixed (s ∷ ss) u (x ∷ xs) [] h k = absurd (false≢true k)
matches-mixed (s ∷ ss) u (x ∷ xs) (y ∷ ys) h k =
    let one = and_parts (agrees s x) (matches ss xs) h in
    let two = and_parts (agrees s y) (matches ss ys) k in
    and_from (agrees s (cond (u 0) x y)) (matches ss (mixed (λ n. u (suc n)) xs ys))
    (agrees_both s (u 0) x y one.0 two.0) (matches-mixed ss (λ n. u (suc n)) xs ys one.1 two.1)

-- a row that has literals only where the test holds
pub matches-mixed_left : (ss : List Symbol) (u : ℕ → Bool) (xs ys : List Bool) → length xs ≡ length ys → ((k : ℕ) → u k ≡ false → get_or ss k Dash ≡ Dash)
    → matches ss (mixed u xs ys) ≡ matches ss xs
matches-mixed_left [] u [] ys e h = refl
matches-mixed_left [] u (x ∷ xs) [] e h = absurd (omega arith)
matches-mixed_left [] u (x ∷ xs) (y ∷ ys) e h = refl
matches-mixed_left (s ∷ ss) u [] ys e h = refl
matches-mixed_left (s ∷ ss) u (x ∷ xs) [] e h = absurd (omega arith)
matches-mixed_left (s ∷ ss) u (x ∷ xs) (y ∷ ys) e h =
    ap₂ (λ a b. a && b) (agrees_left s (u 0) x y (h 0)) (matches-mixed_left ss (λ n. u (suc n)) xs ys (omega arith) (λ k. h (suc k)))

-- a row that has literals only where it does not
pub matches-mixed_right : (ss : List Symbol) (u : ℕ → Bool) (xs ys : List Bool) → length xs ≡ length ys → ((k : ℕ) → u k ≡ true → get_or ss k Dash ≡ Dash)
    → matches ss (mixed u xs ys) ≡ matches ss ys
matches-mixed_right [] u [] [] e h = refl
matches-mixed_right [] u [] (y ∷ ys) e h = absurd (omega arith)
matches-mixed_right [] u (x ∷ xs) [] e h = absurd (omega arith)
matches-mixed_right [] u (x ∷ xs) (y ∷ ys) e h = refl
matches-mixed_right (s ∷ ss) u [] [] e h = refl
matches-mixed_right (s ∷ ss) u [] (y ∷ ys) e h = absurd (omega arith)
matches-mixed_right (s ∷ ss) u (x ∷ xs) [] e h = absurd (omega arith)
matches-mixed_right (s ∷ ss) u (x ∷ xs) (y ∷ ys) e h =
    ap₂ (λ a b. a && b) (agrees_right s (u 0) x y (h 0)) (matches-mixed_right ss (λ n. u (suc n)) xs ys (omega arith) (λ k. h (suc k)))

pub length-mixed : (u : ℕ → Bool) (xs ys : List Bool) → length (mixed u xs ys) ≡ length xs
length-mixed u [] ys = refl
length-mixed u (x ∷ xs) [] = ap suc (length-mixed (λ n. u (suc n)) xs [])
length-mixed u (x ∷ xs) (y ∷ ys) = ap suc (length-mixed (λ n. u (suc n)) xs ys)

symbol_free : (s : Symbol) → not (is_symbol Dash s) ≡ false → s ≡ Dash
symbol_free Dash h = refl
symbol_free Zero h = absurd (false≢true (sym h))
symbol_free One h = absurd (false≢true (sym h))

-- a cube of a list has `-` where no cube of it has a literal
pub dash_of_member : (k : ℕ) (cubes : List Cube) (c : Cube) → has_literal k cubes ≡ false → Contains cubes c → get_or c.symbols k Dash ≡ Dash
dash_of_member k cubes c none' member = elim (cases_Bool (not (is_symbol Dash (get_or c.symbols k Dash)))) [
  | inl on ↦ absurd (list_any_none (λ (d : Cube). not (is_symbol Dash (get_or d.symbols k Dash))) cubes c none' member on)
  | inr off ↦ symbol_free (get_or c.symbols k Dash) off
]
