use Rattle.std.proofs.Common.{◌≡◌, ℕ, ◌+◌, ◌-◌, ◌*◌, ◌<◌, map, get_or, false, ap, sym, ◌∙◌, arith, inl, inr}
use Rattle.std.specs.Int.{bit_at}
use Rattle.std.proofs.lemmas.List.{get_or-map, length-map}
use Rattle.std.proofs.lemmas.Bool.{cases_eq}
use Rattle.cube.specs.Bytes.{has_mark}
use Rattle.cube.specs.Packing.{bit_of}
use Rattle.cube.proofs.PackingLemmas.{IsOutputWord-from_loop}
use Rattle.cube.proofs.bytes.output_word_of.Goals as goal

pub loop-k-preserved : goal.loop-k-preserved
loop-k-preserved c =
    let k = c.loop-k.k in
    let word = c.with_next-word.result in
    let before = c.loop-k.invariant in
    let next = c.with_next-word.ensures in
    let has = λ (i : ℕ). bit_of (has_mark c.args.marks.now c.args.mask (get_or c.args.bytes.now (64 * c.args.w + i) 0)) in
    let some : 0 < k = omega (arith, c.loop-k-test.true) in
    record {
      within = omega (arith, before.within);
      done = λ q lt. elim (cases_eq q 0) [
        | inl e ↦ ap (bit_at word) e ∙ next.first ∙ ap has (omega arith)
        | inr ne ↦
            ap (bit_at word) (omega arith) ∙ next.others (q - 1) (omega (arith, before.within)) ∙ before.done (q - 1) (omega arith)
            ∙ ap has (omega arith)
      ];
      clear = λ p lt le.
          ap (bit_at word) (omega (arith, before.within)) ∙ next.others (p - 1) (omega arith) ∙ before.clear (p - 1) (omega arith) (omega (arith, before.within));
    }

pub returns : goal.returns
returns c =
    let bytes = c.args.bytes.now in
    let f = has_mark c.args.marks.now c.args.mask in
    let end : c.loop-k.k ≡ 0 = omega (arith, c.loop-k-test.false) in
    let count = c.min-count.result in
    IsOutputWord-from_loop (map f bytes) c.args.w count c.loop-k.word
    (λ k lt. c.loop-k.invariant.done k (omega arith) ∙ ap (λ i. bit_of (f (get_or bytes (64 * c.args.w + i) 0))) (omega arith)
    ∙ ap (λ b. bit_of b) (sym (get_or-map f bytes (64 * c.args.w + k) 0 false (omega arith))))
    (λ p lt le. c.loop-k.invariant.clear p lt (omega arith))
    (λ k lt after. omega (arith, length-map bytes f))
