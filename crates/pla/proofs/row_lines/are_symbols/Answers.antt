use Rattle.std.proofs.Common.{◌≡◌, Bool, true, cond, codes, sym, subst}
use Rattle.std.specs.List.{list_all}
use Rattle.std.proofs.lemmas.Bool.{lt-ltb, le-ltb}
use Rattle.pla.specs.Symbols.{is_byte_of}
use Rattle.pla.proofs.Marks.{all_marked, input_marked, output_marked, some_bits}
use Rattle.pla.proofs.row_lines.are_symbols.Goals as goal

pub returns-then-place-n : goal.returns-then-place-n
returns-then-place-n c is =
    let P : Bool → Type 0 = λ t. list_all (λ b. cond t (is_byte_of (codes "012-") b) (is_byte_of (codes "01234-~") b)) c.args.bytes.now ≡ true in
    subst P (sym (lt-ltb c.args.place c.args.n c.if-place-n.true))
    (all_marked 16 (codes "012-") c.args.bytes.now input_marked (λ i. (c.type_inv.bytes i).fits) (c.shared_marks-shared.ensures 16 (some_bits _ is)))

pub returns-else-place-n : goal.returns-else-place-n
returns-else-place-n c is =
    let P : Bool → Type 0 = λ t. list_all (λ b. cond t (is_byte_of (codes "012-") b) (is_byte_of (codes "01234-~") b)) c.args.bytes.now ≡ true in
    subst P (sym (le-ltb c.args.place c.args.n c.if-place-n.false))
    (all_marked 32 (codes "01234-~") c.args.bytes.now output_marked (λ i. (c.type_inv.bytes i).fits) (c.shared_marks-shared.ensures 32 (some_bits _ is)))
