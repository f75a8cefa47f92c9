use Rattle.std.proofs.Common.{◌+◌, [], sym, subst, All, take, Contains}
use Rattle.std.proofs.lemmas.List.{take_all}
use Rattle.cube.specs.Cube.{Cube, SameSize, IsSubset, holds}
use Rattle.rows.specs.Reduced.{IsAbsorbed}
use Rattle.sums.proofs.SumAbsorb.{IsAbsorbed-none, IsAbsorbed-kept, IsAbsorbed-left_out, kept_sizes}
use Rattle.sums.proofs.absorb.absorb_sorted.Goals as goal
use Rattle.sums.proofs.absorb.absorb_sorted.Goals.{then-not-lies_in_some+in_ok-push_copy, else-not-lies_in_some}

pub loop-row-init : goal.loop-row-init
loop-row-init c = subst (IsAbsorbed []) (sym c.new-kept.ensures.items) IsAbsorbed-none

pub lies_in_some-requires : goal.lies_in_some-requires
lies_in_some-requires c =
    subst (All (λ d. SameSize d c.row-item.result)) (sym c.deref.ensures.value)
    (kept_sizes c.requires.cubes.size c.args.rows.now c.loop-row.row-index c.row-item.result c.loop-row.kept.items c.requires.cubes.are_cubes c.loop-row-test.true c.row-item.is c.loop-row.invariant)

pub loop-row-preserved : goal.loop-row-preserved
loop-row-preserved c =
    let rows = c.args.rows.now in
    elim c.if-not-lies_in_some.branch [
      | then-not-lies_in_some+in_ok-push_copy w ↦
          let P : Cube → Type 0 = λ d. IsSubset (holds c.row-item.result) (holds d) → ⊥ in
          subst (λ v. IsAbsorbed (take (c.loop-row.row-index + 1) rows) v.items) (sym w.kept-is)
          (IsAbsorbed-kept rows c.loop-row.row-index c.row-item.result c.loop-row.kept.items c.requires.rising c.loop-row-test.true c.row-item.is c.loop-row.invariant
          w.push_copy.new.rows.items (subst (All P) c.deref.ensures.value (c.lies_in_some.ensures.open w.if-not-lies_in_some.true))
          w.in_ok-push_copy.ensures)
      | else-not-lies_in_some w ↦
          let r = c.lies_in_some.ensures.absorbed w.if-not-lies_in_some.false in
          subst (λ v. IsAbsorbed (take (c.loop-row.row-index + 1) rows) v.items) (sym w.kept-is)
          (IsAbsorbed-left_out rows c.loop-row.row-index c.row-item.result c.loop-row.kept.items c.requires.rising c.loop-row-test.true c.row-item.is c.loop-row.invariant
          (r.0, subst (λ l. Contains l r.0) c.deref.ensures.value r.1, r.2))
    ]

pub returns : goal.returns
returns c = subst (λ l. IsAbsorbed l c.loop-row.kept.items) (take_all c.loop-row.row-index c.args.rows.now c.loop-row-test.false) c.loop-row.invariant
