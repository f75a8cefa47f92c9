use Rattle.std.proofs.Common.{◌≡◌, ◌&&◌, ◌||◌, false, get_or, sym, subst, ◌∙◌, Some, IfSome}
use Rattle.std.proofs.lemmas.Bool.{false≢true}
use Rattle.std.proofs.lemmas.List.{take_all}
use Rattle.cube.specs.Pattern.{matches}
use Rattle.cube.specs.Cube.{Cube, Place, IsCube, SameSize, holds}
use Rattle.growth.specs.Growth.{AreReached}
use Rattle.growth.proofs.Reached.{reached_none, reached_left, reached_already, reached_stacked, more_output}
use Rattle.growth.proofs.reached_outputs.outputs_at.Goals as goal
use Rattle.growth.proofs.reached_outputs.outputs_at.Goals.{in-Some+then-has_outputs_beyond, in-Some+else-has_outputs_beyond, in_default}

pub loop-row-init : goal.loop-row-init
loop-row-init c = reached_none c.args.region c.args.rows.now.cubes

pub output_consensus-requires : goal.output_consensus-requires
output_consensus-requires c =
    let row = c.row-item.result in
    let is_cube = subst (IsCube c.args.rows.now.size) (sym c.row-item.is) (c.as_slice-row-items.ensures.cubes c.loop-row.row-index row c.loop-row-test.true) in
    let size = c.loop-row.invariant.size in
    (size.0 ∙ c.requires.0 ∙ sym is_cube.has_size.0, size.1 ∙ c.requires.1 ∙ sym is_cube.has_size.1)

pub loop-row-preserved : goal.loop-row-preserved
loop-row-preserved c =
    let region = c.args.region in
    let rows = c.as_slice-row-items.result.now in
    let k = c.loop-row.row-index in
    let lt = c.loop-row-test.true in
    let row = c.row-item.result in
    let at = c.row-item.is in
    let here = c.loop-row.here in
    let found = c.in_ok-both.field-0 in
    let long : (both : Cube) → found ≡ Some both → SameSize both here = λ both is. subst (λ o. IfSome o (λ d. SameSize d here)) is c.in_ok-both.ensures.size in
    let stacked : (both : Cube) → found ≡ Some both → (p : Place) → holds both p ≡ ((matches here.symbols p.point && matches row.symbols p.point) && (get_or here.outputs p.output false || get_or row.outputs p.output false)) =
    λ both is. subst (λ o. IfSome o (λ d. (p : Place) → holds d p ≡ ((matches here.symbols p.point && matches row.symbols p.point)
    && (get_or here.outputs p.output false || get_or row.outputs p.output false)))) is c.in_ok-both.ensures.places in
    elim c.match-branch-2.branch [
      | in-Some+then-has_outputs_beyond w ↦ (
          let both = w.in-Some.both in
          let size = long both w.in-Some.is in
          subst (AreReached region _) (sym w.here-is) (reached_stacked region here rows k row lt at c.loop-row.invariant both size
          (more_output both here size (w.has_outputs_beyond.ensures.0 w.if-has_outputs_beyond.true)) (stacked both w.in-Some.is)))
      | in-Some+else-has_outputs_beyond w ↦ (
          let both = w.in-Some.both in
          subst (AreReached region _) (sym w.here-is) (reached_already region here rows k row lt at c.loop-row.invariant both (long both w.in-Some.is) (stacked both w.in-Some.is)
          (λ more. false≢true (sym w.if-has_outputs_beyond.false ∙ w.has_outputs_beyond.ensures.1 more))))
      | in_default w ↦
          subst (AreReached region _) (sym w.here-is) (reached_left region here rows k row lt at c.loop-row.invariant (rw w.in_default.is at c.in_ok-both.ensures.none))
    ]

pub returns : goal.returns
returns c =
    let rows = c.as_slice-row-items.result.now in
    subst (λ l. AreReached c.args.region l c.loop-row.here) (take_all c.loop-row.row-index rows c.loop-row-test.false ∙ c.as_slice-row-items.ensures.value) c.loop-row.invariant
