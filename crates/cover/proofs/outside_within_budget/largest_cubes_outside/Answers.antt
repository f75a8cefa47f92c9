use Rattle.std.proofs.Common.{◌≡◌, ◌∙◌, ◌++◌, ◌∷◌, [], vec_len, ap, subst}
use Rattle.cube.specs.Cube.{difference}
use Rattle.cube.specs.Sum.{complete_sum}
use Rattle.rows.specs.Cubes.{Cubes, AreCubes}
use Rattle.rows.specs.Places.{places}
use Rattle.regions.proofs.Reasons.{none_left}
use Rattle.sums.proofs.OffSets.{places-rest, IsRest-whole}
use Rattle.cover.proofs.outside_within_budget.largest_cubes_outside.Goals as goal

pub returns-then-is_empty : goal.returns-then-is_empty
returns-then-is_empty c =
    let region = c.args.region.now in
    let own : c.push_copy.new.rows.items ≡ region ∷ [] = c.in_ok-push_copy.ensures ∙ ap (λ l. l ++ c.args.region.now ∷ []) c.new-own.ensures.items in
    IsRest-whole c.args.shape region c.args.rows.items c.push_copy.new.rows.items c.requires.region
    (none_left c.args.rows.items (vec_len c.args.rows) c.is_empty.result c.args.rows.ok.0 c.is_empty.ensures c.if-is_empty.true) own

pub returns : goal.returns
returns c =
    let size = c.args.shape in
    let own : c.push_copy.new.rows.items ≡ c.args.region.now ∷ [] = c.in_ok-push_copy.ensures ∙ ap (λ l. l ++ c.args.region.now ∷ []) c.new-own.ensures.items in
    let is : c.into_cubes.result.items ≡ complete_sum size (difference (places c.push_copy.new.rows.items) (places c.args.rows.items)) =
    c.into_cubes.ensures.value ∙ ap (λ l. l.cubes) c.in_ok-difference.ensures
    ∙ ap (λ (l : Cubes). complete_sum l.size (difference (places l.cubes) (places c.from_cubes-rows.result.cubes))) c.from_cubes-list.ensures
    ∙ ap (λ (l : Cubes). complete_sum size (difference (places c.push_copy.new.rows.items) (places l.cubes))) c.from_cubes-rows.ensures in
    record {
      are_cubes = subst (λ z. AreCubes z c.into_cubes.result.items) (ap (λ (l : Cubes). l.size) c.in_ok-difference.ensures ∙ ap (λ (l : Cubes). l.size) c.from_cubes-list.ensures) c.into_cubes.ensures.cubes;
      places = places-rest size c.args.region.now c.push_copy.new.rows.items c.args.rows.items c.into_cubes.result.items own is;
    }
