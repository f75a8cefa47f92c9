use Rattle.std.proofs.Common.{◌≡◌, ℕ, ◌<◌, ◌∙◌, ◌++◌, ◌∷◌, [], Bool, List, not, length, map, get_or, ap, sym}
use Rattle.std.proofs.lemmas.List.{get_or-map}
use Rattle.cube.specs.Cube.{Cube, holds}
use Rattle.cube.specs.Sum.{is_subset}
use Rattle.rows.specs.Marks.{cube_at}
use Rattle.rows.specs.Places.{places}
use Rattle.rows.proofs.Chosen.{kept_or_not, all_kept}
use Rattle.rows.proofs.ContainmentLemmas.{cube_at-self}
use Rattle.cover.specs.NotHeld.{is_not_held}
use Rattle.cover.proofs.complete_sums.rows_not_held.Goals as goal
use Rattle.cover.proofs.complete_sums.rows_not_held.Goals.{then-not-index+in_ok-try_clone+in_ok-push, else-not-index}

-- the answer for a row is that of its test
answer_of : (test : Cube → Bool) (rows : List Cube) (answers : List Bool) (k : ℕ) (b : Bool) (row : Cube) → k < length rows → answers ≡ map test rows → b ≡ get_or answers k b → row ≡ get_or rows k row → b ≡ test row
answer_of test rows answers k b row lt e at_b at_row = at_b ∙ ap (λ l. get_or l k b) e ∙ get_or-map test rows k row b lt ∙ ap test (sym at_row)

pub loop-k-preserved : goal.loop-k-preserved
loop-k-preserved c =
    let list = c.args.list.now in
    let rows = c.args.rows.now in
    let k = c.loop-k.k in
    let lt : k < length rows = c.loop-k-test.true in
    let held : Cube → Bool = λ d. is_subset list.size (holds d) (places list.cubes) in
    let says : (row : Cube) → row ≡ get_or rows k row → not c.index.result.now ≡ is_not_held list.size (places list.cubes) row =
    λ row at. ap not (answer_of held rows c.in_ok-are_held.are_held.items k c.index.result.now row lt c.in_ok-are_held.ensures c.index.ensures at) in
    elim c.if-not-index.branch [
      | then-not-index+in_ok-try_clone+in_ok-push w ↦
          let row = w.index-rows-k.result in
          let at : row ≡ get_or rows k row = w.index-rows-k.is in
          ap (λ v. v.items) w.kept-is
          ∙ (kept_or_not _ rows k row row lt at c.loop-k.kept.items c.loop-k.invariant _ (says row at)).0 _ (ap not w.if-not-index.true)
          (w.in_ok-push.ensures.items ∙ ap (λ x. c.loop-k.kept.items ++ x ∷ []) w.in_ok-try_clone.ensures.value)
      | else-not-index w ↦
          let at = cube_at-self rows k lt in
          ap (λ v. v.items) w.kept-is
          ∙ (kept_or_not _ rows k (cube_at rows k) (cube_at rows k) lt at c.loop-k.kept.items c.loop-k.invariant _ (says (cube_at rows k) at)).1 (ap not w.if-not-index.false)
    ]

pub returns : goal.returns
returns c = all_kept _ c.args.rows.now c.loop-k.k c.loop-k.kept.items c.loop-k-test.false c.loop-k.invariant
