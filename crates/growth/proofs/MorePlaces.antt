-- The places of a list with one cube more.
use Rattle.std.proofs.Common.{◌≡◌, ℕ, ◌+◌, ◌<◌, Bool, false, ◌||◌, List, [], ◌∷◌, ◌++◌, length, take, get_or, ap, sym, ◌∙◌}
use Rattle.std.proofs.Math.Bool.{or-false}
use Rattle.std.proofs.lemmas.List.{take_more}
use Rattle.cube.specs.Cube.{Cube, Place, holds}
use Rattle.cover.specs.Places.{places}
use Rattle.cover.proofs.SumMeets.{places-append}

pub places_pushed : (rows : List Cube) (row : Cube) (p : Place) → places (rows ++ row ∷ []) p ≡ (places rows p || holds row p)
places_pushed rows row p = places-append rows (row ∷ []) p ∙ ap (λ b. places rows p || b) (or-false (holds row p))

pub more_places : (rows : List Cube) (i : ℕ) (row : Cube) → i < length rows → row ≡ get_or rows i row → (p : Place) → places (take (i + 1) rows) p ≡ (places (take i rows) p || holds row p)
more_places rows i row lt at p = ap (λ l. places l p) (take_more rows i row lt ∙ ap (λ y. take i rows ++ y ∷ []) (sym at)) ∙ places_pushed (take i rows) row p

-- one more row of a list that is looked at from another place
module _ (rows : List Cube) (i : ℕ) (row : Cube) (lt : i < length rows) (at : row ≡ get_or rows i row) (p q : Place) (old new : List Cube) (before : places old p ≡ places (take i rows) q) where
  pub row_added : (held : Bool) → held ≡ holds row q → places new p ≡ (places old p || held) → places new p ≡ places (take (i + 1) rows) q
  row_added held e is = is ∙ ap (λ b. places old p || b) e ∙ ap (λ b. b || holds row q) before ∙ sym (more_places rows i row lt at q)

  pub row_left : holds row q ≡ false → places old p ≡ places (take (i + 1) rows) q
  row_left off = before ∙ sym (or-false (places (take i rows) q)) ∙ ap (λ b. places (take i rows) q || b) (sym off) ∙ sym (more_places rows i row lt at q)
