use Rattle.std.proofs.Common.{subst, IfSome, arith}
use Rattle.sums.specs.Apart.{IsDivided, HasSomeLiteral}
use Rattle.rows.specs.Cubes.{AreCubes}
use Rattle.sums.proofs.Dividing.{AreCubes-one, AreCubes-other, IsInParts-divided}
use Rattle.sums.proofs.independent_parts.independent_parts.Goals as goal

pub divide_by_groups-requires : goal.divide_by_groups-requires
divide_by_groups-requires c = λ k d lt. omega (arith, (c.requires k d lt).has_size.0)

pub returns : goal.returns
returns c =
    let size = c.args.shape in
    let rows = c.args.rows.now in
    let one = c.in-Some-2.parts.one.items in
    let other = c.in-Some-2.parts.other.items in
    let d = subst (λ found. IfSome found (λ parts. IsDivided c.deref.result.now rows parts.one.items parts.other.items)) c.in-Some-2.is c.in_ok-parts.ensures in
    IsInParts-divided size c.deref.result.now rows one other d c.requires
    (c.have_same_outputs.ensures c.if-not-have_same_outputs.false)
    (subst (λ l. AreCubes size l → HasSomeLiteral size l) c.deref-2.ensures.value (c.first_row_has_literal.ensures c.if-not-first_row_has_literal.false size)
    (AreCubes-one size c.deref.result.now rows one other d c.requires))
    (subst (λ l. AreCubes size l → HasSomeLiteral size l) c.deref-else-not-first_row_has_literal.ensures.value (c.first_row_has_literal-else-not-first_row_has_literal.ensures c.if-not-first_row_has_literal-2.false size)
    (AreCubes-other size c.deref.result.now rows one other d c.requires))
