use Rattle.std.proofs.Common.{◌∙◌, ◌++◌, ap, arith, sym, subst}
use Rattle.std.specs.Option.{option_to_list}
use Rattle.std.proofs.lemmas.List.Elements.{All-pop}
use Rattle.std.proofs.lemmas.Option.{MatchOption-at_none}
use Rattle.cube.specs.Cube.{IsCube}
use Rattle.rows.specs.Cubes.{AreCubes}
use Rattle.cover.proofs.MergedRows.{AddsRest, AddsRest-all, AddsRest-more, AddsRest-none}
use Rattle.rows.proofs.SumRows.{nothing_left}
use Rattle.cover.proofs.merging.add_rows.Goals as goal

pub loop-row-init : goal.loop-row-init
loop-row-init c =
    let old = c.args.all.now.rows in
    let more = c.args.more.rows.cubes in (
      subst (λ l. AddsRest old more l old) (sym c.into_cubes-waiting.ensures.value) (AddsRest-none old more),
      subst (λ z. AreCubes z c.into_cubes-waiting.result.items) c.requires.size c.into_cubes-waiting.ensures.cubes,
    )

pub loop-row-preserved : goal.loop-row-preserved
loop-row-preserved c =
    let old = c.args.all.now.rows in
    let waiting = c.loop-row.waiting.items in
    let left = c.pop.new.self.items in (
      AddsRest-more old c.args.more.rows.cubes waiting left c.in-Some.row c.loop-row.all.rows c.add_or_merge.new.self.rows c.loop-row.invariant.0
          (c.pop.ensures.items ∙ ap (λ o. left ++ option_to_list o) c.in-Some.is) c.in_ok-add_or_merge.ensures,
      (All-pop (IsCube old.size) waiting left c.pop.result c.pop.ensures.items c.loop-row.invariant.1).0,
    )

pub returns : goal.returns
returns c =
    let old = c.args.all.now.rows in
    let more = c.args.more.rows.cubes in
    let waiting = c.loop-row.waiting.items in
    let none' = MatchOption-at_none _ _ c.in_default.is c.pop.ensures.cases in
    AddsRest-all old more c.loop-row.all.rows
    (subst (λ l. AddsRest old more l c.loop-row.all.rows) (nothing_left waiting (omega (arith, none'.0, c.loop-row.waiting.ok.0))) c.loop-row.invariant.0)
