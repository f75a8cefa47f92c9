use Rattle.std.proofs.Common.{◌≡◌, ◌∙◌, true, ap, sym, subst}
use Rattle.std.proofs.lemmas.Bool.{true≢false}
use Rattle.std.specs.List.{Contains}
use Rattle.std.proofs.lemmas.Result.{IfOk-weaker}
use Rattle.cube.specs.Limits.{IsWithinLimits, format_limits}
use Rattle.cube.proofs.Members.{Contains-nil}
use Rattle.covering.specs.Cover.{IsLeast}
use Rattle.minimum.specs.Points.{function_of, point_table}
use Rattle.minimum.proofs.PickedPoints.{dominating_sorted, dominating_sizes}
use Rattle.minimum.proofs.PointTables.{are_point_rows, chosen_member}
use Rattle.minimum.proofs.points.rounds.cover_of_points.Goals.{then-is_least+in_ok-numbers, else-is_least+in_ok-near+in_ok-numbers-2}
use Rattle.minimum.proofs.points.rounds.cover_of_points.Goals as goal

pub point_table-requires-clause-sizes : goal.point_table-requires-clause-sizes
point_table-requires-clause-sizes g c =
    let points = c.args.points.now in
    let sorted = c.in_ok-columns.columns.cubes in
    dominating_sizes c.args.choice g.sets points sorted (dominating_sorted c.args.choice (function_of g.sets) points c.args.columns.now.cubes sorted c.in_ok-columns.ensures.cubes c.requires.1.0)

pub point_table-requires-clause-outputs : goal.point_table-requires-clause-outputs
point_table-requires-clause-outputs g c x there =
    let w = c.requires.1.0.wanted x there in
    w.is_cube.has_size.1 ∙ sym (ap (λ z. z.outputs) (c.in_ok-columns.ensures.size ∙ c.requires.1.1.0))

pub point_table-requires-clause-rows : goal.point_table-requires-clause-rows
point_table-requires-clause-rows g c =
    let points = c.args.points.now in
    let sorted = c.in_ok-columns.columns.cubes in
    are_point_rows c.args.choice g.sets points sorted c.requires.0 c.in_ok-columns.ensures.rising
    (dominating_sorted c.args.choice (function_of g.sets) points c.args.columns.now.cubes sorted c.in_ok-columns.ensures.cubes c.requires.1.0)

pub returns-clause-least : goal.returns-clause-least
returns-clause-least g c =
    let points = c.args.points.now in
    let sorted = c.in_ok-columns.columns.cubes in
    let numbers = c.deref-2.result.now in
    let found = c.if-is_least.numbers.items in
    let least : c.args.is_least ≡ true → IsLeast c.args.choice c.in_ok-table.table found = λ asked. elim c.if-is_least.branch [
      | then-is_least+in_ok-numbers w ↦ subst (λ v. IsLeast c.args.choice c.in_ok-table.table v.items) (sym w.numbers-is) w.in_ok-numbers.ensures
      | else-is_least+in_ok-near+in_ok-numbers-2 w ↦ absurd (true≢false (sym asked ∙ w.if-is_least.false))
    ] in
    IfOk-weaker c.cubes_at.result _ _
    (λ list h asked. record {
      columns = sorted;
      rising = c.in_ok-columns.ensures.rising;
      are_dominating = dominating_sorted c.args.choice (function_of g.sets) points c.args.columns.now.cubes sorted c.in_ok-columns.ensures.cubes c.requires.1.0;
      outside = λ d x none' there. absurd (Contains-nil d none');
      numbers = numbers;
      least = subst (IsLeast c.args.choice (point_table points sorted)) (sym c.deref-2.ensures.value)
          (subst (λ t. IsLeast c.args.choice t found) c.in_ok-table.ensures (least asked));
      cubes = ap (λ l. l.cubes) h;
    })
    c.cubes_at.ensures

pub point_table-requires-clause-limits : goal.point_table-requires-clause-limits
point_table-requires-clause-limits g c = subst (IsWithinLimits format_limits) (sym (c.in_ok-columns.ensures.size ∙ c.requires.1.1.0)) c.requires.1.1.1

pub returns-clause-columns : goal.returns-clause-columns
returns-clause-columns g c =
    IfOk-weaker c.cubes_at.result _ _
    (λ list h d member. (c.in_ok-columns.ensures.cubes d).1 (chosen_member c.in_ok-columns.columns.cubes c.deref-2.result.now d (subst (λ l. Contains l d) (ap (λ l. l.cubes) h) member)))
    c.cubes_at.ensures
