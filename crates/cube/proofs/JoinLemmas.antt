-- The supercube in words.
use Rattle.std.proofs.Common.{◌≡◌, ℕ, ◌<◌, max, Bool, true, false, ◌||◌, List, length, get_or, refl, ap, ◌∙◌, bit_or}
use Rattle.std.specs.Int.{bit_at}
use Rattle.std.proofs.lemmas.Nat.Bits.{bit_at_or}
use Rattle.cube.specs.declared.symbol.Symbol.{Symbol}
use Rattle.cube.specs.declared.symbol.Symbol.TheVariants.{Dash, Zero, One}
use Rattle.cube.specs.Pattern.{agrees}
use Rattle.cube.specs.Cube.{Cube, SameSize}
use Rattle.cube.specs.Join.{supercube_symbol, supercube}
use Rattle.cube.specs.Packing.{bit_of, Packs, IsPacked, unpacked}
use Rattle.cube.proofs.ZipLemmas.{ZipsBits, IsPacked-zip_bits, get_or-zip2_any}

pub agrees-supercube_symbol : (s t : Symbol) (bit : Bool) → agrees (supercube_symbol s t) bit ≡ (agrees s bit || agrees t bit)
agrees-supercube_symbol Dash t bit = refl
agrees-supercube_symbol Zero Dash true = refl
agrees-supercube_symbol Zero Dash false = refl
agrees-supercube_symbol Zero Zero true = refl
agrees-supercube_symbol Zero Zero false = refl
agrees-supercube_symbol Zero One true = refl
agrees-supercube_symbol Zero One false = refl
agrees-supercube_symbol One Dash true = refl
agrees-supercube_symbol One Dash false = refl
agrees-supercube_symbol One Zero true = refl
agrees-supercube_symbol One Zero false = refl
agrees-supercube_symbol One One true = refl
agrees-supercube_symbol One One false = refl

pub max-bit_of : (x y : Bool) → max (bit_of x) (bit_of y) ≡ bit_of (x || y)
max-bit_of true true = refl
max-bit_of true false = refl
max-bit_of false true = refl
max-bit_of false false = refl

pub ZipsBits-or : (x y w : ℕ) → w ≡ bit_or x y → ZipsBits (λ p r. p || r) x y w
ZipsBits-or x y w is = record {
  each = λ k p r _ ep er. ap (λ z. bit_at z k) is ∙ bit_at_or x y k
      ∙ ap (λ z. max z (bit_at y k)) ep ∙ ap (λ z. max (bit_of p) z) er ∙ max-bit_of p r;
}

-- what `join` owes
pub IsPacked-supercube : (a b : Cube) (size : SameSize a b) (n m : ℕ) (ws vs xs : List ℕ) → length a.symbols ≡ n → length a.outputs ≡ m
    → Packs a ws → Packs b vs → (j : ℕ) × (get_or a.outputs j false ≡ true) → length xs ≡ length ws
    → ((k : ℕ) → k < length ws → get_or xs k 0 ≡ bit_or (get_or ws k 0) (get_or vs k 0))
    → IsPacked n m xs × (unpacked n m xs ≡ supercube a b)
IsPacked-supercube a b size n m ws vs xs en em pa pb on len words =
    IsPacked-zip_bits (λ _ _. true) supercube_symbol refl (λ x y. x || y) a b size (λ _. refl) n m en em ws vs xs pa pb len
    (on.0, get_or-zip2_any (λ x y. x || y) a.outputs b.outputs on.0 false false false size.1 refl ∙ ap (λ x. x || get_or b.outputs on.0 false) on.1)
    refl (λ s t bit _. agrees-supercube_symbol s t bit)
    (λ k lt. ZipsBits-or (get_or ws k 0) (get_or vs k 0) (get_or xs k 0) (words k lt))
