use Rattle.std.proofs.Common.{◌∙◌}
use Rattle.regions.proofs.Halves.{held_at, narrowed_by}
use Rattle.regions.proofs.region.learned.holds_by_hints.Goals as goal

pub returns-then-contains : goal.returns-then-contains
returns-then-contains c =
    λ _. c.loop-hint.invariant.1 (λ p h. held_at c.args.known.now _ c.in-Some.row.now c.in-Some.ensures.lookup.3.0 c.in-Some.ensures.lookup.1 p (c.contains.ensures.0 c.if-contains.true p h))

pub loop-hint-preserved : goal.loop-hint-preserved
loop-hint-preserved c =
    let size = c.remove_held_half.ensures.size in
    let before = c.loop-hint.invariant.0 in (
      (size.0 ∙ before.0, size.1 ∙ before.1),
      narrowed_by c.args.known.now _ c.in-Some.row.now c.args.cube.now c.loop-hint.region c.remove_held_half.new.region c.in-Some.ensures.lookup.3.0 c.in-Some.ensures.lookup.1
          (c.remove_held_half.ensures.held c.if-not-remove_held_half.false) c.loop-hint.invariant.1,
    )
