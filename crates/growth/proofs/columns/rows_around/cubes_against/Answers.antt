use Rattle.std.proofs.Common.{◌∷◌, ◌∙◌, [], ap, sym, subst, get_or}
use Rattle.std.proofs.Math.ListN.{get_or-map}
use Rattle.std.specs.List.{All}
use Rattle.std.proofs.lemmas.List.Elements.{All-append, All-cons, All-nil}
use Rattle.cube.specs.declared.symbol.Symbol.TheVariants.{Dash}
use Rattle.cube.specs.Cube.{IsCube, size_of}
use Rattle.cube.specs.Sharp.{opposite}
use Rattle.cover.proofs.OverRegion.{size_of-is}
use Rattle.growth.specs.Dominating.{IsAgainst}
use Rattle.growth.proofs.columns.rows_around.cubes_against.Goals as goal

pub loop-j-preserved : goal.loop-j-preserved
loop-j-preserved c =
    let y = c.args.point.now in
    let size = size_of y in
    let cube = c.in_ok-cube_with_symbols.field-0 in
    let symbols = c.in_ok-cube_with_symbols.ensures.symbols ∙ c.deref.ensures.value ∙ c.in_ok-symbols.ensures in
    let own : IsAgainst size y cube = record {
      is_cube = subst (λ n. IsCube n cube) (sym (size_of-is y c.shape-shape.result c.shape-shape.ensures.size)) c.in_ok-cube_with_symbols.ensures.cube;
      symbols = λ i. ap (λ l. get_or l i Dash) symbols ∙ get_or-map opposite y.symbols i Dash;
    } in
    subst (All (IsAgainst size y)) (sym c.in_ok-push.ensures.items) (All-append (IsAgainst size y) c.loop-j.cubes.items (cube ∷ []) c.loop-j.invariant (All-cons (IsAgainst size y) cube [] own (All-nil (IsAgainst size y))))
