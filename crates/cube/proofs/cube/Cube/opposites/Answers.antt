use Rattle.std.proofs.Common.{◌∙◌, arith, length}
use Rattle.std.proofs.lemmas.Nat.{ones-le}
use Rattle.cube.specs.Literals.{is_opposite}
use Rattle.cube.proofs.LiteralMarks.{count-marks, count-whole, opposite_past}
use Rattle.cube.proofs.cube.Cube.opposites.Goals as goal

pub loop-w-preserved : goal.loop-w-preserved
loop-w-preserved c =
    let test = is_opposite c.args.self.now c.args.other.now in
    record {
      counted = omega (arith, c.loop-w.invariant.counted, count-marks test c.loop-w.w c.opposite_marks.result (omega arith) (c.opposite_marks.ensures c.args.self.now c.args.other.now c.input_part-mine.ensures.packs c.input_part-theirs.ensures.packs));
      bounded = omega (arith, c.loop-w.invariant.bounded, ones-le 64 c.opposite_marks.result (omega arith));
    }

pub returns : goal.returns
returns c =
    let self = c.args.self.now in
    c.loop-w.invariant.counted
    ∙ count-whole (is_opposite self c.args.other.now) (length self.symbols) c.loop-w.w
    (omega (arith, c.loop-w-test.false, c.input_part-mine.ensures.packs.words_len)) (opposite_past self c.args.other.now)
