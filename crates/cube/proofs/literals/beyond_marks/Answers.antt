use Rattle.std.proofs.Common.{◌-◌, ◌∙◌, ap, get_or, arith}
use Rattle.std.specs.Int.{bit_at}
use Rattle.cube.proofs.LiteralMarks.{beyond-Marks, beyond-Marks_past}
use Rattle.cube.proofs.literals.beyond_marks.Goals as goal

pub returns-in-Some : goal.returns-in-Some
returns-in-Some c d e p q =
    let found = c.in-Some.ensures.lookup.3 in
    beyond-Marks d e c.args.mine.now c.args.theirs.now p q c.args.w c.requires c.minus_word.result found.0
    (λ k small. c.minus_word.ensures k small ∙ ap (λ v. bit_at v k - bit_at (get_or c.args.mine.now c.args.w 0) k) (found.1 0))

pub returns-in-None : goal.returns-in-None
returns-in-None c d e p q =
    beyond-Marks_past d e c.args.mine.now c.args.theirs.now p q c.args.w c.requires c.clear_from.result c.in-None.ensures.lookup.3 (λ k small. c.clear_from.ensures.from_on k (omega arith) small)
