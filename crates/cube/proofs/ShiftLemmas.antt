-- Bits shifted into a word.
use Rattle.std.proofs.Common.{◌≡◌, ℕ, ◌+◌, ◌-◌, ◌*◌, ◌^◌, ◌<◌, bit_or, ap, sym, ◌∙◌, arith}
use Rattle.std.specs.Int.{bit_at}
use Rattle.std.proofs.lemmas.Nat.{or_shifted}
use Rattle.std.proofs.lemmas.Nat.Bits.{bit_at_cat_low, bit_at_cat_high}

-- a bit that was shifted in
pub shifted_low : (w a k m low i : ℕ) → m ≡ a * 2 ^ k → low < 2 ^ k → i < k → bit_at (bit_or m low) i ≡ bit_at low i
shifted_low w a k m low i e fits lt =
    ap (λ x. bit_at (bit_or x low) i) e ∙ ap (λ x. bit_at x i) (or_shifted a k low fits) ∙ bit_at_cat_low a k low i lt

-- a bit of the word before
pub shifted_high : (w q a j k m low i : ℕ) → w ≡ q * 2 ^ j + a → m ≡ a * 2 ^ k → low < 2 ^ k → i < j → bit_at (bit_or m low) (i + k) ≡ bit_at w i
shifted_high w q a j k m low i cut e fits lt =
    let back : i + k - k ≡ i = omega arith in
    ap (λ x. bit_at (bit_or x low) (i + k)) e ∙ ap (λ x. bit_at x (i + k)) (or_shifted a k low fits)
    ∙ bit_at_cat_high a k low (i + k) fits (omega arith) ∙ ap (bit_at a) back
    ∙ sym (ap (λ x. bit_at x i) cut ∙ bit_at_cat_low q j a i lt)
