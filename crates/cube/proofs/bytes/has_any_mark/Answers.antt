use Rattle.std.proofs.Common.{◌≡◌, ℕ, suc, ◌+◌, ◌<◌, Bool, true, false, not, List, drop, length, get_or, drop-cons, bit_and, eqb, ap, sym, ◌∙◌, arith, eq-eqb, ne_eqb}
use Rattle.std.specs.Prelude.{◌||◌}
use Rattle.std.specs.List.{list_any}
use Rattle.std.proofs.lemmas.List.{drop_all}
use Rattle.cube.specs.Bytes.{has_mark}
use Rattle.cube.proofs.bytes.has_any_mark.Goals as goal

at_byte : (marks bytes : List ℕ) (mask i : ℕ) (t : Bool) → i < length bytes → eqb (bit_and (get_or marks (get_or bytes i 0) 0) mask) 0 ≡ t
    → list_any (has_mark marks mask) (drop i bytes) ≡ (not t || list_any (has_mark marks mask) (drop (i + 1) bytes))
at_byte marks bytes mask i t lt is =
    let next : suc i ≡ i + 1 = omega arith in
    ap (list_any (has_mark marks mask)) (drop-cons bytes i 0 lt) ∙ ap (λ s. not s || list_any (has_mark marks mask) (drop (suc i) bytes)) is ∙ ap (λ k. not t || list_any (has_mark marks mask) (drop k bytes)) next

pub loop-b-preserved : goal.loop-b-preserved
loop-b-preserved c = c.loop-b.invariant ∙ at_byte c.args.marks.now c.args.bytes.now c.args.mask c.loop-b.b-index true c.loop-b-test.true (eq-eqb _ _ c.if-marks-b-ne0.false)

pub returns-then-marks-b-ne0 : goal.returns-then-marks-b-ne0
returns-then-marks-b-ne0 c = sym (c.loop-b.invariant ∙ at_byte c.args.marks.now c.args.bytes.now c.args.mask c.loop-b.b-index false c.loop-b-test.true (ne_eqb _ _ c.if-marks-b-ne0.true))

pub returns : goal.returns
returns c = sym (c.loop-b.invariant ∙ ap (list_any (has_mark c.args.marks.now c.args.mask)) (drop_all c.loop-b.b-index c.args.bytes.now c.loop-b-test.false))
