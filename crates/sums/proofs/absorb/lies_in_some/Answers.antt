use Rattle.std.proofs.Common.{◌∙◌, All, sym, subst, arith}
use Rattle.std.proofs.lemmas.Bool.{false≢true}
use Rattle.std.proofs.lemmas.List.{take_all}
use Rattle.std.proofs.lemmas.List.Elements.{All-more}
use Rattle.cube.specs.Cube.{Cube, IsSubset, holds}
use Rattle.sums.proofs.absorb.lies_in_some.Goals as goal

pub returns-then-contains-clause-absorbed : goal.returns-then-contains-clause-absorbed
returns-then-contains-clause-absorbed c = λ _.
    (c.old-item.result, (c.loop-old.old-index, c.loop-old-test.true, sym c.old-item.is), c.contains.ensures.0 c.if-contains.true)

pub loop-old-preserved : goal.loop-old-preserved
loop-old-preserved c =
    let P : Cube → Type 0 = λ d. IsSubset (holds c.args.row.now) (holds d) → ⊥ in
    All-more P c.args.kept.now c.loop-old.old-index c.old-item.result c.loop-old-test.true c.loop-old.invariant
    (subst P c.old-item.is (λ within. false≢true (sym c.if-contains.false ∙ c.contains.ensures.1 within)))

pub returns-clause-open : goal.returns-clause-open
returns-clause-open c = λ _.
    let P : Cube → Type 0 = λ d. IsSubset (holds c.args.row.now) (holds d) → ⊥ in
    subst (All P) (take_all c.loop-old.old-index c.args.kept.now (omega arith)) c.loop-old.invariant
