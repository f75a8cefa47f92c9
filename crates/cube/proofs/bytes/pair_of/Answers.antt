-- The table is held against the definition by computing.
use Rattle.std.proofs.Common.{◌≡◌, ℕ, ◌+◌, ◌*◌, ◌<◌, true, false, map, get_or, refl, ap, ◌∙◌, arith}
use Rattle.std.specs.List.{range_with_len}
use Rattle.std.specs.Int.{bit_at}
use Rattle.std.proofs.lemmas.List.FromFn.{get_or-map-range_with_len}
use Rattle.cube.specs.declared.bytes.TheConstants.{PAIRS}
use Rattle.cube.specs.declared.symbol.Symbol.{Symbol}
use Rattle.cube.specs.declared.symbol.Symbol.TheVariants.{Dash, Zero, One}
use Rattle.cube.specs.Bytes.{byte_symbol}
use Rattle.cube.specs.Packing.{bit_of}
use Rattle.cube.specs.Pattern.{agrees}
use Rattle.cube.proofs.bytes.pair_of.Goals as goal

abbrev pair : Symbol → ℕ
pair s = bit_of (agrees s false) + 2 * bit_of (agrees s true)

table : PAIRS ≡ map (λ b. pair (byte_symbol b)) (range_with_len 0 256)
table = refl

entry : (b : ℕ) → b < 256 → get_or PAIRS b 0 ≡ pair (byte_symbol b)
entry b lt = ap (λ t. get_or t b 0) table ∙ get_or-map-range_with_len (λ b. pair (byte_symbol b)) 0 256 b b 0 lt (omega arith)

fits : (s : Symbol) → pair s < 4
fits Dash = omega arith
fits Zero = omega arith
fits One = omega arith

low : (s : Symbol) → bit_at (pair s) 0 ≡ bit_of (agrees s false)
low Dash = refl
low Zero = refl
low One = refl

high : (s : Symbol) → bit_at (pair s) 1 ≡ bit_of (agrees s true)
high Dash = refl
high Zero = refl
high One = refl

pub returns-clause-fits : goal.returns-clause-fits
returns-clause-fits c = omega (arith, entry c.args.b (omega arith), fits (byte_symbol c.args.b))

pub returns-clause-low : goal.returns-clause-low
returns-clause-low c = ap (λ p. bit_at p 0) (entry c.args.b (omega arith)) ∙ low (byte_symbol c.args.b)

pub returns-clause-high : goal.returns-clause-high
returns-clause-high c = ap (λ p. bit_at p 1) (entry c.args.b (omega arith)) ∙ high (byte_symbol c.args.b)
