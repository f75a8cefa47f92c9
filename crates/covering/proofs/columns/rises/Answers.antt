use Rattle.std.proofs.Common.{◌≡◌, ◌∙◌, ◌+◌, ◌&&◌, true, false, leb, ltb, sym, ap, drop, slice_index_or}
use Rattle.std.proofs.lemmas.Bool.{le-leb, lt-ltb, le-ltb, lt-leb}
use Rattle.covering.specs.Table.{is_rising}
use Rattle.covering.proofs.Rising.{rising_next, rising_end}
use Rattle.covering.proofs.columns.rises.Goals as goal
use Rattle.covering.proofs.columns.rises.Goals.{then-x-low-via-then-x-low, then-x-low-via-else-x-low+then-end-x}

pub loop-x-preserved : goal.loop-x-preserved
loop-x-preserved c =
    let x = slice_index_or c.args.row.now c.loop-x.x-index 0 in
    let rest = is_rising c.args.end (x + 1) (drop (c.loop-x.x-index + 1) c.args.row.now) in
    let at : leb c.loop-x.low x ≡ true = le-leb c.loop-x.low x c.if-x-low.false in
    let within : ltb x c.args.end ≡ true = lt-ltb x c.args.end c.if-end-x.false in
    c.loop-x.invariant ∙ rising_next c.args.end c.loop-x.low c.args.row.now c.loop-x.x-index c.loop-x-test.true ∙ ap (λ b. (b && ltb x c.args.end) && rest) at ∙ ap (λ b. (true && b) && rest) within

pub returns-then-x-low : goal.returns-then-x-low
returns-then-x-low c =
    let x = slice_index_or c.args.row.now c.loop-x.x-index 0 in
    let rest = is_rising c.args.end (x + 1) (drop (c.loop-x.x-index + 1) c.args.row.now) in
    let is = c.loop-x.invariant ∙ rising_next c.args.end c.loop-x.low c.args.row.now c.loop-x.x-index c.loop-x-test.true in
    elim c.then-x-low.branch [
      | then-x-low-via-then-x-low w ↦ (let at : leb c.loop-x.low x ≡ false = lt-leb c.loop-x.low x w.if-x-low.true in sym (is ∙ ap (λ b. (b && ltb x c.args.end) && rest) at))
      | then-x-low-via-else-x-low+then-end-x w ↦ (
          let at : leb c.loop-x.low x ≡ true = le-leb c.loop-x.low x w.if-x-low.false in
          let outside : ltb x c.args.end ≡ false = le-ltb x c.args.end w.if-end-x.true in
          sym (is ∙ ap (λ b. (b && ltb x c.args.end) && rest) at ∙ ap (λ b. (true && b) && rest) outside))
    ]

pub returns : goal.returns
returns c = sym (c.loop-x.invariant ∙ rising_end c.args.end c.loop-x.low c.args.row.now c.loop-x.x-index c.loop-x-test.false)
