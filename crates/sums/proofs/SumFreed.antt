-- The cubes that agree with a value of an input, and all of them, without their literals there.
use Rattle.std.proofs.Common.{◌≡◌, ◌≢◌, ℕ, ◌+◌, ◌<◌, Bool, true, false, not, ◌&&◌, ◌||◌, cond, List, [], ◌∷◌, ◌++◌, ◌≤◌, length, drop, get_or, set, refl, ap, sym, subst, ◌∙◌, arith}
use Rattle.std.proofs.lemmas.Bool.{or_parts, or_from}
use Rattle.std.proofs.Math.ListN.{drop_of_length-le}
use Rattle.std.proofs.lemmas.List.{append-nil, append_assoc, drop_more, get_or-set_same, get_or-set_other}
use Rattle.std.proofs.lemmas.List.Elements.{All-head, All-tail, All-cons}
use Rattle.cube.specs.declared.symbol.Symbol.{Symbol}
use Rattle.cube.specs.declared.symbol.Symbol.TheVariants.{Dash, Zero, One}
use Rattle.cube.specs.Size.{Size}
use Rattle.cube.specs.Pattern.{agrees}
use Rattle.cube.specs.Cube.{Cube, Place, holds, IsCube, with_symbol}
use Rattle.rows.specs.Places.{places}
use Rattle.rows.specs.Cubes.{AreCubes}
use Rattle.rows.specs.Complete.{put, cofactor_at, smoothing_at}
use Rattle.rows.specs.Marks.{is_symbol}
use Rattle.rows.specs.Parts.{freed, has_literal}
use Rattle.rows.specs.Reduced.{Frees, IsBranch}
use Rattle.rows.proofs.SumSplit.{holds-put, IsCube-with_symbol}

-- in a loop over a list: a row that passes the test, one that does not, and the end
module _ (i : ℕ) (test : Symbol → Bool) (cs kept : List Cube) (k : ℕ) (row : Cube) (lt : k < length cs) (at : row ≡ get_or cs k row)
    (e : kept ++ freed i test (drop k cs) ≡ freed i test cs) where
  abbrev rest : List Cube
  rest = freed i test (drop (k + 1) cs)

  freed_at : (b : Bool) → test (get_or row.symbols i Dash) ≡ b → kept ++ cond b (with_symbol row i Dash ∷ rest) rest ≡ freed i test cs
  freed_at b is =
      ap (λ t. kept ++ cond t (with_symbol row i Dash ∷ rest) rest) (sym is)
      ∙ ap (λ c. kept ++ freed i test (c ∷ drop (k + 1) cs)) at ∙ ap (λ l. kept ++ freed i test l) (sym (drop_more cs k row lt)) ∙ e

  pub freed-kept : (next : List Cube) → test (get_or row.symbols i Dash) ≡ true → next ≡ kept ++ with_symbol row i Dash ∷ [] → next ++ rest ≡ freed i test cs
  freed-kept next on is = ap (λ l. l ++ rest) is ∙ append_assoc kept (with_symbol row i Dash ∷ []) rest ∙ freed_at true on

  pub freed-left_out : test (get_or row.symbols i Dash) ≡ false → kept ++ rest ≡ freed i test cs
  freed-left_out off = freed_at false off

pub freed-done : (i : ℕ) (test : Symbol → Bool) (cs kept : List Cube) (k : ℕ) → length cs ≤ k → kept ++ freed i test (drop k cs) ≡ freed i test cs → kept ≡ freed i test cs
freed-done i test cs kept k past e = sym (append-nil kept) ∙ ap (λ l. kept ++ freed i test l) (sym (drop_of_length-le cs past)) ∙ e

module _ (size : Size) (i : ℕ) (lt : i < size.inputs) (test : Symbol → Bool) where
  AreCubes-freed : (cs : List Cube) → AreCubes size cs → AreCubes size (freed i test cs)
  AreCubes-freed [] cubes = cubes
  AreCubes-freed (c ∷ cs) cubes = go (test (get_or c.symbols i Dash)) (AreCubes-freed cs (All-tail (IsCube size) c cs cubes))
    where
      go : (b : Bool) → AreCubes size (freed i test cs) → AreCubes size (cond b (with_symbol c i Dash ∷ freed i test cs) (freed i test cs))
      go true h = All-cons (IsCube size) (with_symbol c i Dash) (freed i test cs) (IsCube-with_symbol size c i Dash (All-head (IsCube size) c cs cubes)) h
      go false h = h

  -- a literal elsewhere stays
  has_literal-other : (k : ℕ) (cs : List Cube) → k ≢ i → has_literal k cs ≡ false → has_literal k (freed i test cs) ≡ false
  has_literal-other k [] ne h = refl
  has_literal-other k (c ∷ cs) ne h =
      let both = or_parts (not (is_symbol Dash (get_or c.symbols k Dash))) (has_literal k cs) h in
      go both.0 (has_literal-other k cs ne both.1) (test (get_or c.symbols i Dash))
    where
      go : not (is_symbol Dash (get_or c.symbols k Dash)) ≡ false → has_literal k (freed i test cs) ≡ false → (b : Bool)
          → has_literal k (cond b (with_symbol c i Dash ∷ freed i test cs) (freed i test cs)) ≡ false
      go e more true = or_from (not (is_symbol Dash (get_or (set c.symbols i Dash) k Dash))) (has_literal k (freed i test cs))
          (ap (λ s. not (is_symbol Dash s)) (get_or-set_other c.symbols i k Dash Dash ne) ∙ e) more
      go e more false = more

  -- none is left at i
  has_literal-there : (cs : List Cube) → AreCubes size cs → has_literal i (freed i test cs) ≡ false
  has_literal-there [] cubes = refl
  has_literal-there (c ∷ cs) cubes =
      go (All-head (IsCube size) c cs cubes) (has_literal-there cs (All-tail (IsCube size) c cs cubes)) (test (get_or c.symbols i Dash))
    where
      go : IsCube size c → has_literal i (freed i test cs) ≡ false → (b : Bool)
          → has_literal i (cond b (with_symbol c i Dash ∷ freed i test cs) (freed i test cs)) ≡ false
      go cube more true =
          let inside : i < length c.symbols = omega (arith, cube.has_size.0) in
          or_from (not (is_symbol Dash (get_or (set c.symbols i Dash) i Dash))) (has_literal i (freed i test cs))
          (ap (λ s. not (is_symbol Dash s)) (get_or-set_same c.symbols i Dash Dash inside)) more
      go cube more false = more

  Frees-freed : (cs : List Cube) → AreCubes size cs → Frees i cs (freed i test cs)
  Frees-freed cs cubes = record {
    there = has_literal-there cs cubes;
    others = λ k ne h. has_literal-other k cs ne h;
  }

module _ (size : Size) (i : ℕ) (lt : i < size.inputs) where
  place_of : (c : Cube) (b : Bool) (p : Place) → IsCube size c → holds c (put i b p) ≡ (agrees (get_or c.symbols i Dash) b && holds (with_symbol c i Dash) p)
  place_of c b p cube = let inside : i < length c.symbols = omega (arith, cube.has_size.0) in holds-put c i b p inside

  places-value : (b : Bool) (cs : List Cube) (p : Place) → AreCubes size cs → places (freed i (λ s. agrees s b) cs) p ≡ cofactor_at i b (places cs) p
  places-value b [] p cubes = refl
  places-value b (c ∷ cs) p cubes =
      go (agrees (get_or c.symbols i Dash) b) (holds c (put i b p)) (place_of c b p (All-head (IsCube size) c cs cubes))
      (places-value b cs p (All-tail (IsCube size) c cs cubes))
    where
      go : (a x : Bool) → x ≡ (a && holds (with_symbol c i Dash) p) → places (freed i (λ s. agrees s b) cs) p ≡ cofactor_at i b (places cs) p
          → places (cond a (with_symbol c i Dash ∷ freed i (λ s. agrees s b) cs) (freed i (λ s. agrees s b) cs)) p ≡ (x || cofactor_at i b (places cs) p)
      go true x e h = ap (λ y. holds (with_symbol c i Dash) p || y) h ∙ ap (λ y. y || cofactor_at i b (places cs) p) (sym e)
      go false x e h = h ∙ ap (λ y. y || cofactor_at i b (places cs) p) (sym e)

  places-either : (cs : List Cube) (p : Place) → AreCubes size cs → places (freed i (λ s. true) cs) p ≡ smoothing_at i (places cs) p
  places-either [] p cubes = refl
  places-either (c ∷ cs) p cubes =
      ap (λ y. holds (with_symbol c i Dash) p || y) (places-either cs p (All-tail (IsCube size) c cs cubes))
      ∙ go (get_or c.symbols i Dash) (holds (with_symbol c i Dash) p) (cofactor_at i false (places cs) p) (cofactor_at i true (places cs) p)
      ∙ ap (λ y. (y || cofactor_at i false (places cs) p) || ((agrees (get_or c.symbols i Dash) true && holds (with_symbol c i Dash) p) || cofactor_at i true (places cs) p))
      (sym (place_of c false p (All-head (IsCube size) c cs cubes)))
      ∙ ap (λ y. (holds c (put i false p) || cofactor_at i false (places cs) p) || (y || cofactor_at i true (places cs) p))
      (sym (place_of c true p (All-head (IsCube size) c cs cubes)))
    where
      go : (s : Symbol) (h l r : Bool) → (h || (l || r)) ≡ (((agrees s false && h) || l) || ((agrees s true && h) || r))
      go Dash true l r = refl
      go Dash false l r = refl
      go Zero true l r = refl
      go Zero false l r = refl
      go One true true r = refl
      go One true false r = refl
      go One false l r = refl

  pub IsBranch-value : (b : Bool) (cs branch : List Cube) → AreCubes size cs → branch ≡ freed i (λ s. agrees s b) cs → IsBranch size i cs (cofactor_at i b (places cs)) branch
  IsBranch-value b cs branch cubes is = subst (IsBranch size i cs (cofactor_at i b (places cs))) (sym is) (record {
    are_cubes = AreCubes-freed size i lt (λ s. agrees s b) cs cubes;
    places = λ p. places-value b cs p cubes;
    frees = Frees-freed size i lt (λ s. agrees s b) cs cubes;
  })

  pub IsBranch-either : (cs branch : List Cube) → AreCubes size cs → branch ≡ freed i (λ s. true) cs → IsBranch size i cs (smoothing_at i (places cs)) branch
  IsBranch-either cs branch cubes is = subst (IsBranch size i cs (smoothing_at i (places cs))) (sym is) (record {
    are_cubes = AreCubes-freed size i lt (λ s. true) cs cubes;
    places = λ p. places-either cs p cubes;
    frees = Frees-freed size i lt (λ s. true) cs cubes;
  })
