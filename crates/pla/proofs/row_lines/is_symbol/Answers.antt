use Rattle.std.proofs.Common.{sym, ◌∙◌, ltb, codes, arith}
use Rattle.std.proofs.lemmas.Bool.{cond-true, cond-false, lt-ltb, le-ltb}
use Rattle.pla.specs.Symbols.{is_byte_of}
use Rattle.pla.proofs.Marks.{input_marked, output_marked}
use Rattle.pla.proofs.row_lines.is_symbol.Goals as goal

pub returns-then-place-n : goal.returns-then-place-n
returns-then-place-n c =
    c.is_marked.ensures ∙ input_marked c.args.b (omega arith)
    ∙ sym (cond-true (ltb c.args.place c.args.n) (is_byte_of (codes "012-") c.args.b) (is_byte_of (codes "01234-~") c.args.b) (lt-ltb c.args.place c.args.n c.if-place-n.true))

pub returns-else-place-n : goal.returns-else-place-n
returns-else-place-n c =
    c.is_marked-else-place-n.ensures ∙ output_marked c.args.b (omega arith)
    ∙ sym (cond-false (ltb c.args.place c.args.n) (is_byte_of (codes "012-") c.args.b) (is_byte_of (codes "01234-~") c.args.b) (le-ltb c.args.place c.args.n c.if-place-n.false))
