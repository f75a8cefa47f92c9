-- The table is held against the definition by computing.
use Rattle.std.proofs.Common.{◌≡◌, ℕ, ◌+◌, ◌*◌, List, [], map, get_or, refl, ap, ◌∙◌, arith}
use Rattle.std.specs.List.{range_with_len}
use Rattle.std.specs.Int.{bit_at}
use Rattle.std.proofs.lemmas.List.FromFn.{get_or-map-range_with_len}
use Rattle.cube.specs.declared.groups.TheConstants.{GROUPS}
use Rattle.cube.specs.Bytes.{symbol_byte}
use Rattle.cube.specs.Packing.{symbol_of}
use Rattle.cube.proofs.groups.group_by_bits.Goals as goal

abbrev byte_at : ℕ → ℕ → ℕ
byte_at b k = symbol_byte 45 48 49 (symbol_of (bit_at b (2 * k)) (bit_at b (2 * k + 1)))

abbrev group_at : ℕ → List ℕ
group_at b = map (byte_at b) (range_with_len 0 4)

table : GROUPS ≡ map group_at (range_with_len 0 256)
table = refl

pub returns : goal.returns
returns c k lt =
    ap (λ t. get_or (get_or t c.args.bits []) k 0) table
    ∙ ap (λ r. get_or r k 0) (get_or-map-range_with_len group_at 0 256 c.args.bits c.args.bits [] c.requires (omega arith))
    ∙ get_or-map-range_with_len (byte_at c.args.bits) 0 4 k k 0 lt (omega arith)
