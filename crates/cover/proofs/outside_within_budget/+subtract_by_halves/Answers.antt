use Rattle.std.proofs.Common.{◌<◌, length, ap, arith}
use Rattle.std.proofs.lemmas.Option.{MatchOption-at_some}
use Rattle.std.proofs.lemmas.List.{length-take, length-drop}
use Rattle.std.proofs.lemmas.List.Elements.{All-same, All-take, All-drop}
use Rattle.cube.specs.Cube.{Cube, IsCube}
use Rattle.sums.proofs.OffSets.{IsRest-apart, IsRest-parts}
use Rattle.cover.proofs.outside_within_budget.+subtract_by_halves.Goals as goal

pub returns-then-branch : goal.returns-then-branch
returns-then-branch t c =
    IsRest-apart c.args.shape c.args.rows.now c.args.others.now c.in_ok-clone_cubes.field-0.items c.requires.rows c.in_ok-clone_cubes.ensures (c.in_ok-are_disjoint.ensures.0 c.if-branch.true)

pub subtract_by_halves-requires : goal.subtract_by_halves-requires
subtract_by_halves-requires t c =
    let rows = c.args.rows.now in
    let front = c.split_at.ensures.front in
    let shorter : length c.split_at.result.0.now < length rows = omega (arith, ap length front, length-take {A = Cube}) in (
      omega arith,
      (All-same (IsCube c.args.shape) c.split_at.result.0.now _ front (All-take (IsCube c.args.shape) _ rows c.requires.rows), c.requires.others),
    )

pub subtract_by_halves-requires-2 : goal.subtract_by_halves-requires-2
subtract_by_halves-requires-2 t c =
    let rows = c.args.rows.now in
    let back = c.split_at.ensures.back in
    let shorter : length c.split_at.result.1.now < length rows = omega (arith, ap length back, length-drop {A = Cube}) in (
      omega arith,
      (All-same (IsCube c.args.shape) c.split_at.result.1.now _ back (All-drop (IsCube c.args.shape) _ rows c.requires.rows), c.requires.others),
    )

pub returns : goal.returns
returns t c =
    IsRest-parts c.args.shape c.args.rows.now c.args.others.now c.split_at.result.0.now c.split_at.result.1.now _ c.in-Some.first.items c.in-Some-2.second.items c.in_ok-rows_of_both.field-0.items
    c.split_at.ensures.front c.split_at.ensures.back c.in_ok-rows_of_both.ensures
    (MatchOption-at_some _ _ c.in-Some.first c.in-Some.is c.in_ok-first.ensures) (MatchOption-at_some _ _ c.in-Some-2.second c.in-Some-2.is c.in_ok-second.ensures)
