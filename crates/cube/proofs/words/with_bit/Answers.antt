use Rattle.std.proofs.Common.{◌≡◌, ◌≢◌, ℕ, ◌*◌, ◌%◌, ◌^◌, ◌<◌, Bool, true, false, cond, bit_and, bit_or, ap, ◌∙◌, arith}
use Rattle.std.specs.Int.{bit_at, bit_not, w64}
use mir.Val.{bool_byte}
use Rattle.std.proofs.lemmas.Nat.Bits.{bit_at_or, bit_at-zero, bit_at_set_same, bit_at_set_other, bit_at_clear_same, bit_at_clear_other}
use Rattle.cube.proofs.words.with_bit.Goals as goal

-- the word without bit `at`
abbrev cleared : ℕ → ℕ → ℕ
cleared word at = bit_and word (bit_not w64 (1 * 2 ^ at % 18446744073709551616))

-- the bit at its place
abbrev placed : ℕ → Bool → ℕ
placed at bit = bool_byte bit * 2 ^ at % 18446744073709551616

none_placed : (at k : ℕ) → bit_at (placed at false) k ≡ 0
none_placed at k =
    let none : placed at false ≡ 0 = omega arith in
    ap (λ x. bit_at x k) none ∙ bit_at-zero k

same : (word at : ℕ) (bit : Bool) → at < 64 → bit_at (bit_or (cleared word at) (placed at bit)) at ≡ cond bit 1 0
same word at true lt = bit_at_set_same w64 (cleared word at) at lt
same word at false lt = omega (arith, bit_at_or (cleared word at) (placed at false) at, bit_at_clear_same w64 word at lt, none_placed at at)

others : (word at : ℕ) (bit : Bool) (k : ℕ) → at < 64 → k < 64 → k ≢ at → bit_at (bit_or (cleared word at) (placed at bit)) k ≡ bit_at word k
others word at true k lt within ne = bit_at_set_other w64 (cleared word at) at lt k ne ∙ bit_at_clear_other w64 word at lt k within ne
others word at false k lt within ne =
    omega (arith, bit_at_or (cleared word at) (placed at false) k, bit_at_clear_other w64 word at lt k within ne, none_placed at k)

pub returns-clause-same : goal.returns-clause-same
returns-clause-same c = same c.args.word c.args.at c.args.bit c.requires

pub returns-clause-others : goal.returns-clause-others
returns-clause-others c k lt ne = others c.args.word c.args.at c.args.bit k c.requires lt ne
