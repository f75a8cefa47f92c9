-- The meets of two lists, taken in turn.
use Rattle.std.proofs.Common.{◌≡◌, ℕ, ◌+◌, ◌<◌, Bool, true, false, not, ◌&&◌, ◌||◌, List, [], ◌∷◌, ◌++◌, length, get_or, take, refl, ap, sym, subst, ◌∙◌, All, append-nil}
use Rattle.std.proofs.Math.Bool.{or-false}
use Rattle.std.proofs.lemmas.Bool.{or_parts, or_from, false≢true}
use Rattle.std.proofs.lemmas.List.{take_more}
use Rattle.std.proofs.lemmas.List.Folds.{list_any-append}
use Rattle.std.proofs.lemmas.List.Elements.{All-cons, All-append, All-nil}
use Rattle.cube.specs.declared.symbol.Symbol.{Symbol}
use Rattle.cube.specs.declared.symbol.Symbol.TheVariants.{Dash, Zero, One}
use Rattle.cube.specs.Size.{Size}
use Rattle.cube.specs.Cube.{Cube, Place, holds, IsCube, IsDisjoint, SameSize}
use Rattle.rows.specs.Cubes.{AreCubes}
use Rattle.rows.specs.Places.{places}
use Rattle.rows.specs.Marks.{is_symbol}
use Rattle.rows.specs.Parts.{has_literal}
use Rattle.rows.specs.Reduced.{IsMeets}
use Rattle.rows.proofs.SumParts.{has_literal-append, meet-dash}

and_or : (a b c : Bool) → ((a && b) || (a && c)) ≡ (a && (b || c))
and_or true b c = refl
and_or false b c = refl

or_and : (a b c : Bool) → ((a && c) || (b && c)) ≡ ((a || b) && c)
or_and true true true = refl
or_and true true false = refl
or_and true false true = refl
or_and true false false = refl
or_and false b c = refl

pub places-append : (cs ds : List Cube) (p : Place) → places (cs ++ ds) p ≡ (places cs p || places ds p)
places-append cs ds p = list_any-append (λ (c : Cube). holds c p) cs ds

module _ (size : Size) where
  pub IsMeets-none : (others : List Cube) → IsMeets size [] others []
  IsMeets-none others = record { are_cubes = All-nil (IsCube size); places = λ p. refl; literals = λ k h g. refl }

  pub IsMeets-rows : (rows rows' others meets meets' : List Cube) → IsMeets size rows others meets → IsMeets size rows' others meets'
      → IsMeets size (rows ++ rows') others (meets ++ meets')
  IsMeets-rows rows rows' others meets meets' a b = record {
    are_cubes = All-append (IsCube size) meets meets' a.are_cubes b.are_cubes;
    places = λ p.
        places-append meets meets' p ∙ ap (λ x. x || places meets' p) (a.places p) ∙ ap (λ x. (places rows p && places others p) || x) (b.places p)
        ∙ or_and (places rows p) (places rows' p) (places others p) ∙ ap (λ x. x && places others p) (sym (places-append rows rows' p));
    literals = λ k h g.
        let two = or_parts (has_literal k rows) (has_literal k rows') (sym (has_literal-append k rows rows') ∙ h) in
        has_literal-append k meets meets' ∙ or_from (has_literal k meets) (has_literal k meets') (a.literals k two.0 g) (b.literals k two.1 g);
  }

  pub IsMeets-others : (rows others others' meets meets' : List Cube) → IsMeets size rows others meets → IsMeets size rows others' meets'
      → IsMeets size rows (others ++ others') (meets ++ meets')
  IsMeets-others rows others others' meets meets' a b = record {
    are_cubes = All-append (IsCube size) meets meets' a.are_cubes b.are_cubes;
    places = λ p.
        places-append meets meets' p ∙ ap (λ x. x || places meets' p) (a.places p) ∙ ap (λ x. (places rows p && places others p) || x) (b.places p)
        ∙ and_or (places rows p) (places others p) (places others' p) ∙ ap (λ x. places rows p && x) (sym (places-append others others' p));
    literals = λ k h g.
        let two = or_parts (has_literal k others) (has_literal k others') (sym (has_literal-append k others others') ∙ g) in
        has_literal-append k meets meets' ∙ or_from (has_literal k meets) (has_literal k meets') (a.literals k h two.0) (b.literals k h two.1);
  }

  -- of one cube with one other
  pub IsMeets-one : (a b m : Cube) → IsCube size a → IsCube size b → IsCube size m → ((p : Place) → holds m p ≡ (holds a p && holds b p))
      → IsMeets size (a ∷ []) (b ∷ []) (m ∷ [])
  IsMeets-one a b m cube_a cube_b cube_m both = record {
    are_cubes = All-cons (IsCube size) m [] cube_m (All-nil (IsCube size));
    places = λ p. or-false (holds m p) ∙ both p ∙ ap (λ x. x && holds b p) (sym (or-false (holds a p))) ∙ ap (λ x. (holds a p || false) && x) (sym (or-false (holds b p)));
    literals = λ k h g.
        let da = dash_of (get_or a.symbols k Dash) (sym (or-false (not (is_symbol Dash (get_or a.symbols k Dash)))) ∙ h) in
        let db = dash_of (get_or b.symbols k Dash) (sym (or-false (not (is_symbol Dash (get_or b.symbols k Dash)))) ∙ g) in
        or-false (not (is_symbol Dash (get_or m.symbols k Dash)))
        ∙ ap (λ s. not (is_symbol Dash s)) (meet-dash size a b m k cube_a cube_b cube_m both da db);
  }
    where
      dash_of : (s : Symbol) → not (is_symbol Dash s) ≡ false → s ≡ Dash
      dash_of Dash h = refl
      dash_of Zero h = absurd (false≢true (sym h))
      dash_of One h = absurd (false≢true (sym h))

  pub IsMeets-disjoint : (a b : Cube) → IsDisjoint (holds a) (holds b) → IsMeets size (a ∷ []) (b ∷ []) []
  IsMeets-disjoint a b apart = record {
    are_cubes = All-nil (IsCube size);
    places = λ p.
        sym (ap (λ x. x && (holds b p || false)) (or-false (holds a p)) ∙ ap (λ x. holds a p && x) (or-false (holds b p))
        ∙ never (holds a p) (holds b p) (apart p));
    literals = λ k h g. refl;
  }
    where
      never : (x y : Bool) → (x ≡ true → y ≡ true → ⊥) → (x && y) ≡ false
      never true true h = absurd (h refl refl)
      never true false h = refl
      never false y h = refl

-- ---- the loop over the others

module _ (size : Size) (row : Cube) (others : List Cube) (i : ℕ) (other : Cube) (cube : IsCube size row) (cubes : AreCubes size others)
    (lt : i < length others) (at : other ≡ get_or others i other) where
  other_cube : IsCube size other
  other_cube = subst (IsCube size) (sym at) (cubes i other lt)

  more_others : take (i + 1) others ≡ take i others ++ other ∷ []
  more_others = take_more others i other lt ∙ ap (λ c. take i others ++ c ∷ []) (sym at)

  pub IsMeets-more : (meets new : List Cube) → IsMeets size (row ∷ []) (take i others) meets → IsMeets size (row ∷ []) (other ∷ []) new
      → IsMeets size (row ∷ []) (take (i + 1) others) (meets ++ new)
  IsMeets-more meets new a b =
      subst (λ l. IsMeets size (row ∷ []) l (meets ++ new)) (sym more_others) (IsMeets-others size (row ∷ []) (take i others) (other ∷ []) meets new a b)

  pub IsMeets-found : (meets : List Cube) (m : Cube) → IsMeets size (row ∷ []) (take i others) meets → (cube_m : (s : Size) → (length m.symbols ≡ s.inputs) × (length m.outputs ≡ s.outputs) → IsCube s m)
      → SameSize m row → ((p : Place) → holds m p ≡ (holds row p && holds other p)) → IsMeets size (row ∷ []) (take (i + 1) others) (meets ++ m ∷ [])
  IsMeets-found meets m a cube_m same both =
      IsMeets-more meets (m ∷ []) a (IsMeets-one size row other m cube other_cube
      (cube_m size (same.0 ∙ cube.has_size.0, same.1 ∙ cube.has_size.1)) both)

  pub IsMeets-not_found : (meets : List Cube) → IsMeets size (row ∷ []) (take i others) meets → IsDisjoint (holds row) (holds other)
      → IsMeets size (row ∷ []) (take (i + 1) others) meets
  IsMeets-not_found meets a apart =
      subst (IsMeets size (row ∷ []) (take (i + 1) others)) (append-nil meets) (IsMeets-more meets [] a (IsMeets-disjoint size row other apart))

-- a cube of one size is one of any size that it has
pub IsCube-of_size : (s : Size) (c : Cube) → IsCube s c → (t : Size) → (length c.symbols ≡ t.inputs) × (length c.outputs ≡ t.outputs) → IsCube t c
IsCube-of_size s c cube t e = record { has_size = (e.0, e.1); some_output = cube.some_output }

module _ (size : Size) (rows others : List Cube) (i : ℕ) (row : Cube) (rows_cubes : AreCubes size rows) (others_cubes : AreCubes size others)
    (lt : i < length rows) (at : row ≡ get_or rows i row) where
  row_cube : IsCube size row
  row_cube = subst (IsCube size) (sym at) (rows_cubes i row lt)

  pub other_sizes : All (λ c. SameSize row c) others
  other_sizes k d k_lt =
      let other = others_cubes k d k_lt in
      (row_cube.has_size.0 ∙ sym other.has_size.0, row_cube.has_size.1 ∙ sym other.has_size.1)

  pub IsMeets-more_rows : (all all' : List Cube) → IsMeets size (take i rows) others all
      → ((s : Size) → IsCube s row → AreCubes s others → (meets : List Cube) × (all' ≡ all ++ meets) × IsMeets s (row ∷ []) others meets)
      → IsMeets size (take (i + 1) rows) others all'
  IsMeets-more_rows all all' before new =
      let r = new size row_cube others_cubes in
      let more : take (i + 1) rows ≡ take i rows ++ row ∷ [] = take_more rows i row lt ∙ ap (λ c. take i rows ++ c ∷ []) (sym at) in
      subst (λ l. IsMeets size (take (i + 1) rows) others l) (sym r.1)
      (subst (λ l. IsMeets size l others (all ++ r.0)) (sym more) (IsMeets-rows size (take i rows) (row ∷ []) others all r.0 before r.2))
