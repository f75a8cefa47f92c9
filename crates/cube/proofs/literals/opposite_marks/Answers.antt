use Rattle.std.proofs.Common.{◌+◌, ◌-◌, ◌*◌, ◌∙◌, max, ap, get_or, bit_and}
use Rattle.std.specs.Int.{bit_at}
use Rattle.cube.proofs.LiteralMarks.{opposite-Marks}
use Rattle.cube.proofs.literals.opposite_marks.Goals as goal

pub returns-in-Some : goal.returns-in-Some
returns-in-Some c d e p q =
    let found = c.in-Some.ensures.lookup.3 in
    let mine = get_or c.args.mine.now c.args.w 0 in
    opposite-Marks d e c.args.mine.now c.args.theirs.now p q c.args.w c.requires c.empty_pairs.result found.0
    (λ k small. c.empty_pairs.ensures.even k small
    ∙ ap (λ v. 1 - max (bit_at (bit_and mine v) (2 * k)) (bit_at (bit_and mine v) (2 * k + 1))) (found.1 0))
    c.empty_pairs.ensures.odd
