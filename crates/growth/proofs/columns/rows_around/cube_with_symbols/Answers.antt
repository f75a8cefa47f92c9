use Rattle.std.proofs.Common.{rules, ◌≡◌, sym, subst, true, false, replicate, slice_set}
use Rattle.std.specs.List.{Contains}
use Rattle.std.proofs.lemmas.Bool.{false≢true}
use Rattle.cover.proofs.OneOutput.{one_set}
use Rattle.growth.proofs.columns.rows_around.cube_with_symbols.Goals as goal

pub unreachable-requires : goal.unreachable-requires
unreachable-requires c =
    let found = rw c.in-None.is at c.in_ok-cube.ensures.found in
    let e : c.deref.result.now ≡ slice_set (replicate c.args.shape.outputs false) c.args.j true = search rules in
    false≢true (found.1 (subst (λ l. Contains l true) (sym e) (one_set c.args.shape.outputs c.args.j c.requires.output)))
