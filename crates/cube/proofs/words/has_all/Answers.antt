use Rattle.std.proofs.Common.{◌≡◌, ◌+◌, ◌*◌, ◌<◌, ℕ, arith, inl, inr, get_or, below_more}
use Rattle.std.specs.Int.{bit_at}
use Rattle.std.proofs.lemmas.Bool.{false≢true, cases_lt}
use Rattle.std.proofs.lemmas.Nat.Bits.{bit_at-lt}
use Rattle.cube.proofs.WordLemmas.{bits_from_covers, covers_from_bits}
use Rattle.cube.proofs.words.has_all.Goals as goal

pub returns-then-full_word-words-ne0 : goal.returns-then-full_word-words-ne0
returns-then-full_word-words-ne0 c = (
  λ t. absurd (false≢true t),
  λ h. absurd (c.if-full_word-words-ne0.true (covers_from_bits _ _ (c.type_inv.words c.loop-w.w).fits (omega arith) (λ k lt.
      elim (cases_lt (64 * c.loop-w.w + k) c.args.len) [
        | inl within ↦ omega (arith, h c.loop-w.w k (omega arith) lt within, bit_at-lt c.full_word.result k)
        | inr past ↦ omega (arith, c.full_word.ensures.past k lt past)
      ]))),
)

pub loop-w-preserved : goal.loop-w-preserved
loop-w-preserved c v k lt small within =
    below_more
    (λ v. (k : ℕ) → k < 64 → 64 * v + k < c.args.len → bit_at (get_or c.args.words.now v 0) k ≡ 1) c.loop-w.w
    (λ v lt k. c.loop-w.invariant v k lt)
    (λ k small within.
    omega (
      arith,
      bits_from_covers _ _ (c.type_inv.words c.loop-w.w).fits c.if-full_word-words-ne0.false k small,
      c.full_word.ensures.within k small within,
      bit_at-lt (get_or c.args.words.now c.loop-w.w 0) k,
    ))
    v lt k small within
