use Rattle.std.proofs.Common.{arith, length, sym, ◌∙◌, inl, inr}
use Rattle.std.proofs.lemmas.Bool.{cases_lt, false≢true}
use Rattle.cube.specs.Literals.{is_opposite}
use Rattle.cube.proofs.LiteralMarks.{next-input, before-more, opposite_past}
use Rattle.cube.proofs.cube.Cube.next_opposite.Goals as goal

pub returns-then-marks-ne0-clause-found : goal.returns-then-marks-ne0-clause-found
returns-then-marks-ne0-clause-found c =
    next-input (is_opposite c.args.self.now c.args.other.now) c.args.from c.loop-w.w c.opposite_marks.result c.from_pair-marks.result (c.opposite_marks.ensures c.args.self.now c.args.other.now c.input_part-mine.ensures.packs c.input_part-theirs.ensures.packs)
    c.loop-w.invariant.before c.saturating_sub.result (omega arith) (omega arith) c.from_pair-marks.ensures.from_on c.from_pair-marks.ensures.before
    (omega arith) c.if-marks-ne0.true

pub returns-then-marks-ne0-clause-within : goal.returns-then-marks-ne0-clause-within
returns-then-marks-ne0-clause-within c =
    let self = c.args.self.now in
    let found = returns-then-marks-ne0-clause-found c in
    elim (cases_lt _ (length self.symbols)) [
      | inl lt ↦ lt
      | inr past ↦ absurd (false≢true (sym (opposite_past self c.args.other.now _ past) ∙ found.passes))
    ]

pub loop-w-preserved : goal.loop-w-preserved
loop-w-preserved c = record {
  started = omega arith;
  before = before-more (is_opposite c.args.self.now c.args.other.now) c.args.from c.loop-w.w c.opposite_marks.result c.from_pair-marks.result (c.opposite_marks.ensures c.args.self.now c.args.other.now c.input_part-mine.ensures.packs c.input_part-theirs.ensures.packs)
      c.loop-w.invariant.before c.saturating_sub.result (omega arith) (omega arith) c.from_pair-marks.ensures.from_on c.from_pair-marks.ensures.before
      c.if-marks-ne0.false;
}
