use Rattle.std.proofs.Common.{◌∙◌, arith, length}
use Rattle.std.proofs.lemmas.Nat.{ones-le}
use Rattle.cube.specs.Literals.{is_beyond}
use Rattle.cube.proofs.LiteralMarks.{count-marks, count-whole, beyond_past}
use Rattle.cube.proofs.cube.Cube.literals_beyond.Goals as goal

pub loop-w-preserved : goal.loop-w-preserved
loop-w-preserved c =
    let test = is_beyond c.args.self.now c.args.other.now in
    record {
      counted = omega (arith, c.loop-w.invariant.counted, count-marks test c.loop-w.w c.beyond_marks.result (omega arith) (c.beyond_marks.ensures c.args.self.now c.args.other.now c.input_part-mine.ensures.packs c.input_part-theirs.ensures.packs));
      bounded = omega (arith, c.loop-w.invariant.bounded, ones-le 64 c.beyond_marks.result (omega arith));
    }

pub returns : goal.returns
returns c =
    let self = c.args.self.now in
    c.loop-w.invariant.counted
    ∙ count-whole (is_beyond self c.args.other.now) (length self.symbols) c.loop-w.w
    (omega (arith, c.loop-w-test.false, c.input_part-mine.ensures.packs.words_len)) (beyond_past self c.args.other.now)
