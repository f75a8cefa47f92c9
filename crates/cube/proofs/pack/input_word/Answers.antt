use Rattle.std.proofs.Common.{◌≡◌, ◌+◌, ◌*◌, arith, ap, ◌∙◌, sym, cond, get_or, true, false, inl, inr}
use Rattle.std.specs.Int.{bit_at}
use Rattle.std.proofs.lemmas.Bool.{cases_eq}
use Rattle.std.proofs.lemmas.Nat.Bits.{bit_at_ones}
use Rattle.cube.specs.declared.symbol.Symbol.TheVariants.{Dash}
use Rattle.cube.specs.Pattern.{agrees}
use Rattle.cube.specs.Packing.{bit_of}
use Rattle.cube.proofs.PackingLemmas.{IsInputWord-from_loop}
use Rattle.cube.proofs.pack.input_word.Goals as goal

pub loop-k-init : goal.loop-k-init
loop-k-init c = record {
  low = λ q lt. absurd (omega arith);
  high = λ q lt. absurd (omega arith);
  set = λ p lt le. bit_at_ones 64 p lt;
}

pub loop-k-preserved : goal.loop-k-preserved
loop-k-preserved c =
    let k = c.loop-k.k in
    let first = c.kept_bit-word.ensures in
    let second = c.kept_bit-word-in-loop-k.ensures in
    let low : c.allows.result ≡ agrees (get_or c.args.symbols.now (32 * c.args.w + k) Dash) false = c.allows.ensures in
    let high : c.allows-in-loop-k.result ≡ agrees (get_or c.args.symbols.now (32 * c.args.w + k) Dash) true = c.allows-in-loop-k.ensures in
    record {
      low = λ q lt. elim (cases_eq q k) [
        | inl e ↦
            ap (λ i. bit_at c.kept_bit-word-in-loop-k.result (2 * i)) e ∙ second.others (2 * k) (omega arith) (omega arith) ∙ first.same
            ∙ ap (λ x. cond c.allows.result x 0) (c.loop-k.invariant.set (2 * k) (omega arith) (omega arith)) ∙ ap (λ b. bit_of b) low ∙ ap (λ i. bit_of (agrees (get_or c.args.symbols.now (32 * c.args.w + i) Dash) false)) (sym e)
        | inr ne ↦
            second.others (2 * q) (omega arith) (omega arith) ∙ first.others (2 * q) (omega arith) (omega arith)
            ∙ c.loop-k.invariant.low q (omega arith)
      ];
      high = λ q lt. elim (cases_eq q k) [
        | inl e ↦
            ap (λ i. bit_at c.kept_bit-word-in-loop-k.result (2 * i + 1)) e ∙ second.same
            ∙ ap (λ x. cond c.allows-in-loop-k.result x 0) (first.others (2 * k + 1) (omega arith) (omega arith) ∙ c.loop-k.invariant.set (2 * k + 1) (omega arith) (omega arith)) ∙ ap (λ b. bit_of b) high ∙ ap (λ i. bit_of (agrees (get_or c.args.symbols.now (32 * c.args.w + i) Dash) true)) (sym e)
        | inr ne ↦
            second.others (2 * q + 1) (omega arith) (omega arith) ∙ first.others (2 * q + 1) (omega arith) (omega arith)
            ∙ c.loop-k.invariant.high q (omega arith)
      ];
      set = λ p lt le. second.others p lt (omega arith) ∙ first.others p lt (omega arith) ∙ c.loop-k.invariant.set p lt (omega arith);
    }

pub returns : goal.returns
returns c =
    IsInputWord-from_loop c.args.symbols.now c.args.w c.loop-k.k c.loop-k.word c.loop-k.invariant.low c.loop-k.invariant.high
    c.loop-k.invariant.set (λ k lt after. omega arith)
