use Rattle.std.proofs.Common.{sym, subst, length}
use Rattle.std.proofs.lemmas.Bool.{ltb-true}
use Rattle.std.specs.List.{Contains}
use Rattle.rows.specs.Places.{behind}
use Rattle.rows.proofs.Lists.{behind_member}
use Rattle.regions.proofs.equal_rows.RowTable.has.Goals as goal

pub returns-then-is_equal : goal.returns-then-is_equal
returns-then-is_equal c =
    let rows = c.args.rows.now in
    let found = c.in-Some-get.ensures.lookup in
    λ _. subst (λ d. Contains (behind rows) d) (c.is_equal.ensures.0 c.if-is_equal.true)
    (behind_member rows c.in-Some.index.now c.in-Some-get.known.now (ltb-true c.in-Some.index.now (length rows) (sym found.0)) found.1)
