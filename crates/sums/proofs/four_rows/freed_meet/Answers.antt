use Rattle.std.proofs.Common.{◌≡◌, ◌↔◌, IfOk, IfSome, IsNone, subst}
use Rattle.cube.specs.declared.symbol.Symbol.TheVariants.{Dash}
use Rattle.cube.specs.Cube.{Place, IsDisjoint, holds, intersection, with_symbol}
use Rattle.sums.proofs.four_rows.freed_meet.Goals as goal

pub returns-clause-none : goal.returns-clause-none
returns-clause-none c =
    let row = with_symbol c.args.row.now c.args.i Dash in
    let freed = c.in_ok-freed.freed in
    subst (λ d. IfOk c.meet.result (λ found. IsNone found ↔ IsDisjoint (holds row) (holds d))) c.in_ok-other.ensures.value
    (subst (λ d. IfOk c.meet.result (λ found. IsNone found ↔ IsDisjoint (holds d) (holds c.in_ok-other.other))) c.in_ok-freed.ensures.value c.meet.ensures.none)

pub returns-clause-places : goal.returns-clause-places
returns-clause-places c =
    let row = with_symbol c.args.row.now c.args.i Dash in
    subst (λ d. IfOk c.meet.result (λ found. IfSome found (λ m. (p : Place) → holds m p ≡ intersection (holds row) (holds d) p))) c.in_ok-other.ensures.value
    (subst (λ d. IfOk c.meet.result (λ found. IfSome found (λ m. (p : Place) → holds m p ≡ intersection (holds d) (holds c.in_ok-other.other) p))) c.in_ok-freed.ensures.value c.meet.ensures.places)
