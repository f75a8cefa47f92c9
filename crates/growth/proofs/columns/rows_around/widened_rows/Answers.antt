use Rattle.std.proofs.Common.{◌∷◌, [], sym, subst}
use Rattle.std.specs.List.{Contains, All}
use Rattle.std.proofs.lemmas.List.Elements.{All-append, All-cons, All-nil}
use Rattle.cube.specs.Cube.{IsCube}
use Rattle.cover.specs.Cubes.{AreCubes}
use Rattle.cover.proofs.OverRegion.{size_of-is}
use Rattle.growth.specs.Dominating.{IsAgainst, IsWidened}
use Rattle.growth.proofs.RowsAround.{around_next}
use Rattle.growth.proofs.columns.rows_around.widened_rows.Goals as goal

pub loop-row-preserved : goal.loop-row-preserved
loop-row-preserved c =
    let off = c.args.off.now in
    let size = off.size in
    let y = c.args.point.now in
    let rows = c.as_slice-row-items.result.now in
    let k = c.loop-row.row-index in
    let row = c.row-item.result in
    let at = c.row-item.is in
    let lt = c.loop-row-test.true in
    let old = c.loop-row.rows.items in
    let wide = c.in_ok-widened.field-0 in
    let is = c.in_ok-push.ensures.items in
    let row_is : IsCube size row = subst (IsCube size) (sym at) (c.as_slice-row-items.ensures.cubes k row lt) in
    let against : All (IsAgainst size y) c.deref.result.now = subst (All (IsAgainst size y)) (sym c.deref.ensures.value)
    (subst (λ n. All (IsAgainst n y) c.in_ok-against.against.items) (size_of-is y size c.requires.has_size) c.in_ok-against.ensures) in
    let widened : IsWidened size y row wide = c.in_ok-widened.ensures size y row_is c.requires against in
    let member : Contains off.cubes row = subst (λ l. Contains l row) c.as_slice-row-items.ensures.value (k, lt, sym at) in
    record {
      cubes = subst (AreCubes size) (sym is) (All-append (IsCube size) old (wide ∷ []) c.loop-row.invariant.cubes (All-cons (IsCube size) wide [] widened.is_cube (All-nil (IsCube size))));
      around = around_next off y rows k row wide old c.push.new.self.items lt at member widened is c.loop-row.invariant.around;
    }
