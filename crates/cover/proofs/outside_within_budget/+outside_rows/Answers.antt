use Rattle.std.proofs.Common.{◌<◌, sym, subst, arith, length}
use Rattle.std.proofs.lemmas.Option.{slice_get_within, IfSome_then, MatchOption-at_some}
use Rattle.std.proofs.lemmas.Result.{IfOk-weaker}
use Rattle.cube.specs.declared.symbol.Symbol.TheVariants.{Dash, Zero, One}
use Rattle.cube.specs.Cube.{IsCube, holds}
use Rattle.rows.specs.Cubes.{AreCubes}
use Rattle.sums.specs.Outside.{AreNear}
use Rattle.rows.proofs.SumSplit.{IsCube-with_symbol}
use Rattle.rows.proofs.Regions.{fewer_dashes, zero_literal, one_literal}
use Rattle.sums.proofs.OffSets.{IsRest-near, IsRest-near_found, IsRest-halves}
use Rattle.cover.proofs.outside_within_budget.+outside_rows.Goals as goal

pub outside_rows-returns-in_default : goal.outside_rows-returns-in_default
outside_rows-returns-in_default t c = IsRest-near c.args.shape c.args.region.now c.args.rows.now c.in_ok-rows.rows.items c.in_ok-largest_cubes_outside.field-0.items (c.in_ok-rows.ensures c.args.shape c.requires.rows) c.in_ok-largest_cubes_outside.ensures

pub outside_rows-outside_halves-requires : goal.outside_rows-outside_halves-requires
outside_rows-outside_halves-requires t c =
    let near = subst (AreCubes c.args.shape) (sym c.deref-2.ensures.value) (c.in_ok-rows.ensures c.args.shape c.requires.rows).are_cubes in
    (omega arith, (c.requires.region, (near, c.in-Some.ensures)))

pub outside_rows-returns : goal.outside_rows-returns
outside_rows-returns t c =
    IfOk-weaker c.outside_halves.result _ _
    (λ o found. IsRest-near_found c.args.shape c.args.region.now c.args.rows.now c.deref-2.result.now (λ v. v.items) _ o
    (subst (λ l. AreNear c.args.shape (holds c.args.region.now) c.args.rows.now l) (sym c.deref-2.ensures.value) (c.in_ok-rows.ensures c.args.shape c.requires.rows))
    found)
    c.outside_halves.ensures

pub outside_halves-with_symbol-requires : goal.outside_halves-with_symbol-requires
outside_halves-with_symbol-requires t c = slice_get_within c.args.region.now.symbols c.args.i Dash c.requires.input

pub outside_halves-outside_rows-requires : goal.outside_halves-outside_rows-requires
outside_halves-outside_rows-requires t c =
    let less = fewer_dashes c.args.region.now c.args.i Zero c.in_ok-low.low c.requires.input zero_literal c.in_ok-low.ensures.value in (
      omega arith,
      (subst (IsCube c.args.shape) (sym c.in_ok-low.ensures.value) (IsCube-with_symbol c.args.shape c.args.region.now c.args.i Zero c.requires.region), c.requires.rows),
    )

pub outside_halves-with_symbol-requires-2 : goal.outside_halves-with_symbol-requires-2
outside_halves-with_symbol-requires-2 t c = slice_get_within c.args.region.now.symbols c.args.i Dash c.requires.input

pub outside_halves-outside_rows-requires-2 : goal.outside_halves-outside_rows-requires-2
outside_halves-outside_rows-requires-2 t c =
    let less = fewer_dashes c.args.region.now c.args.i One c.in_ok-high.high c.requires.input one_literal c.in_ok-high.ensures.value in (
      omega arith,
      (subst (IsCube c.args.shape) (sym c.in_ok-high.ensures.value) (IsCube-with_symbol c.args.shape c.args.region.now c.args.i One c.requires.region), c.requires.rows),
    )

pub outside_halves-merge_halves-requires : goal.outside_halves-merge_halves-requires
outside_halves-merge_halves-requires t c =
    let size = c.args.shape in
    let joined = IsRest-halves size c.args.region.now c.in_ok-low.low c.in_ok-high.high c.args.i c.args.rows.now c.in-Some.cubes.items c.in-Some-2.more.items c.in_ok-halves.halves.items
    c.requires.input c.in_ok-low.ensures.value c.in_ok-high.ensures.value c.in_ok-halves.ensures
    (MatchOption-at_some _ _ c.in-Some.cubes c.in-Some.is c.in_ok-cubes.ensures)
    (MatchOption-at_some _ _ c.in-Some-2.more c.in-Some-2.is c.in_ok-more.ensures) in
    let lt : c.args.i < length c.args.region.now.symbols = slice_get_within c.args.region.now.symbols c.args.i Dash c.requires.input in
    (size, omega (arith, c.requires.region.has_size.0, lt), c.requires.region.has_size, c.requires.rows, joined.are_cubes)

pub outside_halves-returns : goal.outside_halves-returns
outside_halves-returns t c =
    let size = c.args.shape in
    let joined = IsRest-halves size c.args.region.now c.in_ok-low.low c.in_ok-high.high c.args.i c.args.rows.now c.in-Some.cubes.items c.in-Some-2.more.items c.in_ok-halves.halves.items
    c.requires.input c.in_ok-low.ensures.value c.in_ok-high.ensures.value c.in_ok-halves.ensures
    (MatchOption-at_some _ _ c.in-Some.cubes c.in-Some.is c.in_ok-cubes.ensures)
    (MatchOption-at_some _ _ c.in-Some-2.more c.in-Some-2.is c.in_ok-more.ensures) in
    IfOk-weaker c.merge_halves.result _ _ (λ o found. IfSome_then o found (λ v h. h size joined)) c.merge_halves.ensures
