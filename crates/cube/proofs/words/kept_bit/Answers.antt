use Rattle.std.proofs.Common.{◌≡◌, ◌≢◌, ℕ, ◌-◌, ◌*◌, ◌%◌, ◌^◌, ◌<◌, Bool, true, false, cond, not, bit_and, min, ap, ◌∙◌, arith}
use Rattle.std.specs.Int.{bit_at, w64}
use mir.Val.{bool_byte}
use Rattle.std.proofs.lemmas.Nat.Bits.{bit_at_and, bit_at-lt, bit_at_ones, bit_at_clear_same, bit_at_clear_other}
use Rattle.cube.proofs.words.kept_bit.Goals as goal

-- the mask that clears bit `at`, or nothing
abbrev mask : ℕ → Bool → ℕ
mask at keep = 18446744073709551615 - bool_byte (not keep) * 2 ^ at % 18446744073709551616

kept_all : (word at k : ℕ) → k < 64 → bit_at (bit_and word (mask at true)) k ≡ bit_at word k
kept_all word at k lt =
    let whole : mask at true ≡ 18446744073709551615 = omega arith in
    ap (λ m. bit_at (bit_and word m) k) whole ∙ bit_at_and word 18446744073709551615 k ∙ ap (min (bit_at word k)) (bit_at_ones 64 k lt) ∙ omega (arith, bit_at-lt word k)

same : (word at : ℕ) (keep : Bool) → at < 64 → bit_at (bit_and word (mask at keep)) at ≡ cond keep (bit_at word at) 0
same word at true lt = kept_all word at at lt
same word at false lt = bit_at_clear_same w64 word at lt

others : (word at : ℕ) (keep : Bool) (k : ℕ) → at < 64 → k < 64 → k ≢ at → bit_at (bit_and word (mask at keep)) k ≡ bit_at word k
others word at true k lt within ne = kept_all word at k within
others word at false k lt within ne = bit_at_clear_other w64 word at lt k within ne

pub returns-clause-same : goal.returns-clause-same
returns-clause-same c = same c.args.word c.args.at c.args.keep c.requires

pub returns-clause-others : goal.returns-clause-others
returns-clause-others c k lt ne = others c.args.word c.args.at c.args.keep k c.requires lt ne
