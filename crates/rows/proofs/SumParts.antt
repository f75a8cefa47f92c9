-- The parts of a list by the symbol at an input: their places, and the inputs at which they have a
-- literal.
use Rattle.std.proofs.Common.{◌≡◌, ◌≢◌, ℕ, zero, suc, ◌<◌, ◌≤◌, Bool, true, false, not, ◌&&◌, ◌||◌, cond, List, [], ◌∷◌, ◌++◌, length, get_or, set, refl, ap, sym, subst, ◌∙◌, arith, inl, inr}
use Rattle.std.proofs.lemmas.Bool.{or_parts, or_from, cases_eq, cases_lt, false≢true}
use Rattle.std.proofs.lemmas.List.{get_or-set_same, get_or-set_other, get_or_past}
use Rattle.std.proofs.lemmas.List.Folds.{list_any-append}
use Rattle.std.proofs.lemmas.List.Elements.{All-head, All-tail, All-cons}
use Rattle.cube.specs.declared.symbol.Symbol.{Symbol}
use Rattle.cube.specs.declared.symbol.Symbol.TheVariants.{Dash, Zero, One}
use Rattle.cube.specs.Size.{Size}
use Rattle.cube.specs.Pattern.{agrees}
use Rattle.cube.specs.Cube.{Cube, Place, holds, IsCube, with_symbol}
use Rattle.cube.specs.Sum.{IsMaximal}
use Rattle.rows.specs.Places.{places}
use Rattle.rows.specs.Cubes.{AreCubes}
use Rattle.rows.specs.Complete.{literal, put, cofactor_at}
use Rattle.rows.specs.Marks.{is_symbol}
use Rattle.rows.specs.Parts.{part, has_literal, live}
use Rattle.rows.specs.Reduced.{Frees}
use Rattle.rows.proofs.SumSplit.{holds-put, IsCube-with_symbol, maximal_dash, with_symbol-own}

or_assoc : (a b c : Bool) → ((a || b) || c) ≡ (a || (b || c))
or_assoc true b c = refl
or_assoc false b c = refl

or_swap : (a b c : Bool) → (a || (b || c)) ≡ (b || (a || c))
or_swap true true c = refl
or_swap true false c = refl
or_swap false b c = refl

pub AreCubes-part : (size : Size) (i : ℕ) (t : Symbol) (cs : List Cube) → AreCubes size cs → AreCubes size (part i t cs)
AreCubes-part size i t [] cubes = cubes
AreCubes-part size i t (c ∷ cs) cubes = go (is_symbol t (get_or c.symbols i Dash)) (AreCubes-part size i t cs (All-tail (IsCube size) c cs cubes))
  where
    go : (b : Bool) → AreCubes size (part i t cs) → AreCubes size (cond b (with_symbol c i Dash ∷ part i t cs) (part i t cs))
    go true h = All-cons (IsCube size) (with_symbol c i Dash) (part i t cs) (IsCube-with_symbol size c i Dash (All-head (IsCube size) c cs cubes)) h
    go false h = h

-- ---- the places of the parts

module _ (size : Size) (i : ℕ) (lt : i < size.inputs) where
  place_of : (c : Cube) (b : Bool) (p : Place) → IsCube size c → holds c (put i b p) ≡ (agrees (get_or c.symbols i Dash) b && holds (with_symbol c i Dash) p)
  place_of c b p cube = let inside : i < length c.symbols = omega (arith, cube.has_size.0) in holds-put c i b p inside

  pub places-cofactor_at : (b : Bool) (cs : List Cube) (p : Place) → AreCubes size cs
      → (places (part i Dash cs) p || places (part i (literal b) cs) p) ≡ cofactor_at i b (places cs) p
  places-cofactor_at b [] p cubes = refl
  places-cofactor_at b (c ∷ cs) p cubes =
      go b (get_or c.symbols i Dash) (holds c (put i b p)) (place_of c b p (All-head (IsCube size) c cs cubes))
      (places-cofactor_at b cs p (All-tail (IsCube size) c cs cubes))
    where
      freed : Cube
      freed = with_symbol c i Dash

      go : (b : Bool) (s : Symbol) (x : Bool) → x ≡ (agrees s b && holds (with_symbol c i Dash) p)
          → (places (part i Dash cs) p || places (part i (literal b) cs) p) ≡ cofactor_at i b (places cs) p
          → (places (cond (is_symbol Dash s) (with_symbol c i Dash ∷ part i Dash cs) (part i Dash cs)) p
          || places (cond (is_symbol (literal b) s) (with_symbol c i Dash ∷ part i (literal b) cs) (part i (literal b) cs)) p) ≡ (x || cofactor_at i b (places cs) p)
      go true Dash x e h =
          or_assoc (holds (with_symbol c i Dash) p) (places (part i Dash cs) p) (places (part i One cs) p)
          ∙ ap (λ y. holds (with_symbol c i Dash) p || y) h ∙ ap (λ y. y || cofactor_at i true (places cs) p) (sym e)
      go true One x e h =
          or_swap (places (part i Dash cs) p) (holds (with_symbol c i Dash) p) (places (part i One cs) p)
          ∙ ap (λ y. holds (with_symbol c i Dash) p || y) h ∙ ap (λ y. y || cofactor_at i true (places cs) p) (sym e)
      go true Zero x e h = h ∙ ap (λ y. y || cofactor_at i true (places cs) p) (sym e)
      go false Dash x e h =
          or_assoc (holds (with_symbol c i Dash) p) (places (part i Dash cs) p) (places (part i Zero cs) p)
          ∙ ap (λ y. holds (with_symbol c i Dash) p || y) h ∙ ap (λ y. y || cofactor_at i false (places cs) p) (sym e)
      go false Zero x e h =
          or_swap (places (part i Dash cs) p) (holds (with_symbol c i Dash) p) (places (part i Zero cs) p)
          ∙ ap (λ y. holds (with_symbol c i Dash) p || y) h ∙ ap (λ y. y || cofactor_at i false (places cs) p) (sym e)
      go false One x e h = h ∙ ap (λ y. y || cofactor_at i false (places cs) p) (sym e)

-- ---- the inputs with a literal

pub has_literal-append : (k : ℕ) (cs ds : List Cube) → has_literal k (cs ++ ds) ≡ (has_literal k cs || has_literal k ds)
has_literal-append k cs ds = list_any-append (λ (c : Cube). not (is_symbol Dash (get_or c.symbols k Dash))) cs ds

-- a literal elsewhere stays
pub has_literal-part : (i k : ℕ) (t : Symbol) (cs : List Cube) → k ≢ i → has_literal k cs ≡ false → has_literal k (part i t cs) ≡ false
has_literal-part i k t [] ne h = refl
has_literal-part i k t (c ∷ cs) ne h =
    let both = or_parts (not (is_symbol Dash (get_or c.symbols k Dash))) (has_literal k cs) h in
    go both.0 (has_literal-part i k t cs ne both.1) (is_symbol t (get_or c.symbols i Dash))
  where
    go : not (is_symbol Dash (get_or c.symbols k Dash)) ≡ false → has_literal k (part i t cs) ≡ false → (b : Bool)
        → has_literal k (cond b (with_symbol c i Dash ∷ part i t cs) (part i t cs)) ≡ false
    go e more true = or_from (not (is_symbol Dash (get_or (set c.symbols i Dash) k Dash))) (has_literal k (part i t cs))
        (ap (λ s. not (is_symbol Dash s)) (get_or-set_other c.symbols i k Dash Dash ne) ∙ e) more
    go e more false = more

-- none is left at i
pub has_literal-freed : (size : Size) (i : ℕ) (t : Symbol) (cs : List Cube) → i < size.inputs → AreCubes size cs → has_literal i (part i t cs) ≡ false
has_literal-freed size i t [] lt cubes = refl
has_literal-freed size i t (c ∷ cs) lt cubes =
    go (All-head (IsCube size) c cs cubes) (has_literal-freed size i t cs lt (All-tail (IsCube size) c cs cubes)) (is_symbol t (get_or c.symbols i Dash))
  where
    go : IsCube size c → has_literal i (part i t cs) ≡ false → (b : Bool)
        → has_literal i (cond b (with_symbol c i Dash ∷ part i t cs) (part i t cs)) ≡ false
    go cube more true =
        let inside : i < length c.symbols = omega (arith, cube.has_size.0) in
        or_from (not (is_symbol Dash (get_or (set c.symbols i Dash) i Dash))) (has_literal i (part i t cs))
        (ap (λ s. not (is_symbol Dash s)) (get_or-set_same c.symbols i Dash Dash inside)) more
    go cube more false = more

pub Frees-part : (size : Size) (i : ℕ) (t : Symbol) (cs : List Cube) → i < size.inputs → AreCubes size cs → Frees i cs (part i t cs)
Frees-part size i t cs lt cubes = record {
  there = has_literal-freed size i t cs lt cubes;
  others = λ k ne h. has_literal-part i k t cs ne h;
}

pub Frees-append : (i : ℕ) (cs ds es : List Cube) → Frees i cs ds → Frees i cs es → Frees i cs (ds ++ es)
Frees-append i cs ds es f g = record {
  there = has_literal-append i ds es ∙ or_from (has_literal i ds) (has_literal i es) f.there g.there;
  others = λ k ne h. has_literal-append k ds es ∙ or_from (has_literal k ds) (has_literal k es) (f.others k ne h) (g.others k ne h);
}

pub Frees-less : (i : ℕ) (cs ds es : List Cube) → ((k : ℕ) → has_literal k ds ≡ false → has_literal k es ≡ false) → Frees i cs ds → Frees i cs es
Frees-less i cs ds es less f = record { there = less i f.there; others = λ k ne h. less k (f.others k ne h) }

pub cond-le : (x y : Bool) → (x ≡ false → y ≡ false) → cond y 1 0 ≤ cond x 1 0
cond-le true true h = omega arith
cond-le true false h = omega arith
cond-le false true h = absurd (false≢true (sym (h refl)))
cond-le false false h = omega arith

-- how many inputs have a literal in two lists that have none where two others have none
module _ (cs ds es fs : List Cube) (none_later : (k : ℕ) → (has_literal k cs || has_literal k ds) ≡ false → (has_literal k es || has_literal k fs) ≡ false) where
  pub live-at_most : (n : ℕ) → live n es fs ≤ live n cs ds
  live-at_most zero = omega arith
  live-at_most (suc n) =
      omega (arith, live-at_most n, cond-le (has_literal n cs || has_literal n ds) (has_literal n es || has_literal n fs) (none_later n))

-- the same, where one is gone
module _ (i : ℕ) (cs ds es fs : List Cube) (none_later : (k : ℕ) → (has_literal k cs || has_literal k ds) ≡ false → (has_literal k es || has_literal k fs) ≡ false)
    (gone : (has_literal i es || has_literal i fs) ≡ false) where
  pub live-below : (n : ℕ) → i < n → (has_literal i cs || has_literal i ds) ≡ true → live n es fs < live n cs ds
  live-below zero lt on = absurd (omega arith)
  live-below (suc n) lt on = elim (cases_eq i n) [
    | inl e ↦
        let was : ◌≡◌ {A = ℕ} (cond (has_literal n cs || has_literal n ds) 1 0) 1 =
        ap (λ x. cond x 1 0) (ap (λ x. has_literal x cs || has_literal x ds) (sym e) ∙ on) in
        let is : ◌≡◌ {A = ℕ} (cond (has_literal n es || has_literal n fs) 1 0) 0 =
        ap (λ x. cond x 1 0) (ap (λ x. has_literal x es || has_literal x fs) (sym e) ∙ gone) in
        omega (arith, live-at_most cs ds es fs none_later n, was, is)
    | inr ne ↦
        let below : i < n = omega arith in
        omega (arith, live-below n below on, cond-le (has_literal n cs || has_literal n ds) (has_literal n es || has_literal n fs) (none_later n))
  ]

module _ (i : ℕ) (cs ds es fs : List Cube) (minuend : Frees i cs es) (subtrahend : Frees i ds fs) where
  none_later : (k : ℕ) → (has_literal k cs || has_literal k ds) ≡ false → (has_literal k es || has_literal k fs) ≡ false
  none_later k h = elim (cases_eq k i) [
    | inl e ↦ subst (λ x. (has_literal x es || has_literal x fs) ≡ false) (sym e) (or_from (has_literal i es) (has_literal i fs) minuend.there subtrahend.there)
    | inr ne ↦
        let both = or_parts (has_literal k cs) (has_literal k ds) h in
        or_from (has_literal k es) (has_literal k fs) (minuend.others k ne both.0) (subtrahend.others k ne both.1)
  ]

  pub live-less : (n : ℕ) → i < n → (has_literal i cs || has_literal i ds) ≡ true → live n es fs < live n cs ds
  live-less = live-below i cs ds es fs none_later (or_from (has_literal i es) (has_literal i fs) minuend.there subtrahend.there)

-- ---- meets

-- a cube that holds what is in two cubes has a literal only where one of them has
pub meet-dash : (size : Size) (a b c : Cube) (k : ℕ) → IsCube size a → IsCube size b → IsCube size c
    → ((p : Place) → holds c p ≡ (holds a p && holds b p))
    → get_or a.symbols k Dash ≡ Dash → get_or b.symbols k Dash ≡ Dash → get_or c.symbols k Dash ≡ Dash
meet-dash size a b c k cube_a cube_b cube_c meets da db = elim (cases_lt k size.inputs) [
  | inl lt ↦
      let self : IsMaximal size (holds c) c = record { is_cube = cube_c; within = λ p h. h; largest = λ d _ below _. below } in
      maximal_dash size k lt (holds c) (λ p x.
      meets (put k x p)
      ∙ ap (λ y. y && holds b (put k x p)) (unmoved a cube_a lt da p x)
      ∙ ap (λ y. holds a p && y) (unmoved b cube_b lt db p x) ∙ sym (meets p)) c self
  | inr past ↦ let out : length c.symbols ≤ k = omega (arith, cube_c.has_size.0) in get_or_past c.symbols k Dash out
]
  where
    unmoved : (d : Cube) → IsCube size d → k < size.inputs → get_or d.symbols k Dash ≡ Dash → (p : Place) (x : Bool) → holds d (put k x p) ≡ holds d p
    unmoved d cube lt dash p x =
        let inside : k < length d.symbols = omega (arith, cube.has_size.0) in
        holds-put d k x p inside ∙ ap (λ s. agrees s x && holds (with_symbol d k Dash) p) dash ∙ ap (λ e. holds e p) (with_symbol-own d k Dash dash)
