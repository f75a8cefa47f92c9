use Rattle.std.proofs.Common.{◌≡◌, ℕ, ◌+◌, ◌-◌, ◌*◌, ◌<◌, Bool, map, get_or, true, false, ap, sym, ◌∙◌, arith, inl, inr}
use Rattle.std.specs.Int.{bit_at}
use Rattle.std.proofs.lemmas.List.{get_or-map, length-map}
use Rattle.std.proofs.lemmas.Bool.{cases_eq}
use Rattle.std.proofs.lemmas.Nat.Bits.{bit_at_ones}
use Rattle.cube.specs.declared.symbol.Symbol.TheVariants.{Dash}
use Rattle.cube.specs.Pattern.{agrees}
use Rattle.cube.specs.Bytes.{byte_symbol}
use Rattle.cube.specs.Packing.{bit_of}
use Rattle.cube.proofs.PackingLemmas.{IsInputWord-from_loop}
use Rattle.cube.proofs.bytes.input_word_of.Goals as goal

pub loop-k-init : goal.loop-k-init
loop-k-init c = record {
  within = omega arith;
  low = λ q lt. absurd (omega arith);
  high = λ q lt. absurd (omega arith);
  set = λ p lt le. bit_at_ones 64 p lt;
}

pub loop-k-preserved : goal.loop-k-preserved
loop-k-preserved c =
    let k = c.loop-k.k in
    let word = c.with_pair-word.result in
    let before = c.loop-k.invariant in
    let next = c.with_pair-word.ensures in
    let asks : Bool → ℕ → ℕ = λ bit i. bit_of (agrees (byte_symbol (get_or c.args.bytes.now (32 * c.args.w + i) 0)) bit) in
    let some : 0 < k = omega (arith, c.loop-k-test.true) in
    record {
      within = omega (arith, before.within);
      low = λ q lt. elim (cases_eq q 0) [
        | inl e ↦ ap (λ i. bit_at word (2 * i)) e ∙ next.low ∙ c.pair_of.ensures.low ∙ ap (asks false) (omega arith)
        | inr ne ↦
            ap (bit_at word) (omega arith) ∙ next.others (2 * (q - 1)) (omega (arith, before.within)) ∙ before.low (q - 1) (omega arith)
            ∙ ap (asks false) (omega arith)
      ];
      high = λ q lt. elim (cases_eq q 0) [
        | inl e ↦ ap (λ i. bit_at word (2 * i + 1)) e ∙ next.high ∙ c.pair_of.ensures.high ∙ ap (asks true) (omega arith)
        | inr ne ↦
            ap (bit_at word) (omega arith) ∙ next.others (2 * (q - 1) + 1) (omega (arith, before.within)) ∙ before.high (q - 1) (omega arith)
            ∙ ap (asks true) (omega arith)
      ];
      set = λ p lt le.
          ap (bit_at word) (omega (arith, before.within)) ∙ next.others (p - 2) (omega arith) ∙ before.set (p - 2) (omega arith) (omega (arith, before.within));
    }

pub returns : goal.returns
returns c =
    let bytes = c.args.bytes.now in
    let end : c.loop-k.k ≡ 0 = omega (arith, c.loop-k-test.false) in
    let count = c.min-count.result in
    let at : (k : ℕ) → k < count → (bit : Bool) → bit_of (agrees (byte_symbol (get_or bytes (32 * c.args.w + (k + c.loop-k.k)) 0)) bit) ≡ bit_of (agrees (get_or (map byte_symbol bytes) (32 * c.args.w + k) Dash) bit) =
    λ k lt bit. ap (λ i. bit_of (agrees (byte_symbol (get_or bytes (32 * c.args.w + i) 0)) bit)) (omega arith)
    ∙ ap (λ s. bit_of (agrees s bit)) (sym (get_or-map byte_symbol bytes (32 * c.args.w + k) 0 Dash (omega arith))) in
    IsInputWord-from_loop (map byte_symbol bytes) c.args.w count c.loop-k.word
    (λ k lt. c.loop-k.invariant.low k (omega arith) ∙ at k lt false)
    (λ k lt. c.loop-k.invariant.high k (omega arith) ∙ at k lt true)
    (λ p lt le. c.loop-k.invariant.set p lt (omega arith))
    (λ k lt after. omega (arith, length-map bytes byte_symbol))
