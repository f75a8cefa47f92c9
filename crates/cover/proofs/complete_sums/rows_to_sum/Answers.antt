use Rattle.std.proofs.Common.{◌≡◌, ◌∙◌, true, false, ◌||◌, List, [], ◌∷◌, ◌++◌, ap, sym}
use Rattle.cube.specs.Size.{Size}
use Rattle.cube.specs.Cube.{Cube}
use Rattle.cube.specs.Sum.{complete_sum}
use Rattle.rows.specs.Places.{places, holds_all, universal}
use Rattle.rows.proofs.Everywhere.{holds_all-universal}
use Rattle.sums.proofs.SumEnds.{complete_sum-agree, universal-holds}
use Rattle.cover.proofs.complete_sums.rows_to_sum.Goals as goal

-- a list that holds everything has the sum of the universal cube
sum_of_everything : (size : Size) (none' rows cubes : List Cube) (c : Cube) → none' ≡ [] → rows ≡ none' ++ c ∷ [] → c ≡ universal size
    → holds_all size (places cubes) ≡ true → complete_sum size (places rows) ≡ complete_sum size (places cubes)
sum_of_everything size none' rows cubes c e is univ all =
    complete_sum-agree size (places rows) (places cubes)
    (λ p place.
    let held = universal-holds size p place in
    ap (λ l. places l p) (is ∙ ap (λ l. l ++ c ∷ []) e ∙ ap (λ d. d ∷ []) univ)
    ∙ ap (λ x. x || false) held ∙ sym ((holds_all-universal size (places cubes)).0 all p held))

pub returns-clause-sum : goal.returns-clause-sum
returns-clause-sum c =
    sum_of_everything c.args.list.now.size c.new-rows.result.items c.push.new.self.items c.args.list.now.cubes c.in_ok-everything.everything
    c.new-rows.ensures.items c.in_ok-push.ensures.items (c.in_ok-everything.ensures.value ∙ ap universal c.shape.ensures.size)
    (c.in_ok-holds_everything.ensures c.if-not-branch.false)
