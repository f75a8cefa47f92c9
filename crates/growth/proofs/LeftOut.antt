-- A part that is narrowed so that rows leave it out.
use Rattle.std.proofs.Common.{◌≡◌, ℕ, ◌+◌, ◌<◌, inl, inr, List, length, take, get_or, ap, sym, ◌∙◌}
use Rattle.std.specs.Borrow.{Bor}
use Rattle.std.proofs.lemmas.Bool.{or_cases}
use Rattle.cube.specs.Cube.{Cube, IsSubset, IsDisjoint, holds}
use Rattle.rows.specs.Places.{places, behind}
use Rattle.rows.proofs.Lists.{behind-more}
use Rattle.growth.proofs.MorePlaces.{places_pushed}

pub left_out_more : (rows : List (Bor Cube)) (i : ℕ) (row : Bor Cube) (old new : Cube) → i < length rows → row ≡ get_or rows i row → IsDisjoint (holds old) (places (behind (take i rows)))
    → IsSubset (holds new) (holds old) → IsDisjoint (holds row.now) (holds new) → IsDisjoint (holds new) (places (behind (take (i + 1) rows)))
left_out_more rows i row old new lt at before within apart p here held =
    let more = ap (λ l. places l p) (behind-more rows i row lt at) ∙ places_pushed (behind (take i rows)) row.now p in
    elim (or_cases (places (behind (take i rows)) p) (holds row.now p) (sym more ∙ held)) [
      | inl was ↦ before p (within p here) was
      | inr now ↦ apart p now here
    ]
