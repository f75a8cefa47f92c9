use Rattle.std.proofs.Common.{◌≡◌, ℕ, ◌+◌, ◌<◌, true, List, take, drop, length, get_or, ap, sym, ◌∙◌, arith, eqb-true}
use Rattle.std.specs.List.{list_all}
use Rattle.std.specs.Prelude.{vec_len}
use Rattle.std.proofs.lemmas.List.{nil_from_length}
use Rattle.pla.specs.Lines.{is_row_blank}
use Rattle.pla.specs.Symbols.{is_symbol_at}
use Rattle.pla.specs.Reading.{RowsRead, BeginsRow}
use Rattle.pla.proofs.row_lines.Rows.begins_whole_row.Goals as goal

begins : (r : RowsRead) (code : List ℕ) (n m : ℕ) → n ≡ r.size.inputs → m ≡ r.size.outputs → length r.pending ≡ 0 → 0 < n → 0 < m → n + m < length code
    → list_all (λ b. is_symbol_at n 0 b) (take n code) ≡ true → is_row_blank (get_or code n 0) ≡ true → list_all (λ b. is_symbol_at n n b) (take m (drop (n + 1) code)) ≡ true → BeginsRow r code
begins r code n m is is_m none some wide fits inputs blank outputs = record {
  none = nil_from_length r.pending none;
  some = omega arith;
  wide = omega arith;
  fits = omega arith;
  inputs = ap (λ k. list_all (λ b. is_symbol_at k 0 b) (take k code)) (sym is) ∙ inputs;
  blank = ap (λ k. is_row_blank (get_or code k 0)) (sym is) ∙ blank;
  outputs = ap (λ k. list_all (λ b. is_symbol_at k k b) (take r.size.outputs (drop (k + 1) code))) (sym is) ∙ ap (λ k. list_all (λ b. is_symbol_at n n b) (take k (drop (n + 1) code))) (sym is_m) ∙ outputs;
}

pub returns : goal.returns
returns c = λ yes.
    let none : vec_len c.self.inside.pending ≡ 0 = eqb-true (vec_len c.self.inside.pending) 0 (sym c.is_empty.ensures ∙ c.if-not-is_empty.false) in
    begins c.args.self.now c.args.code.now c.inputs-n.result _ (c.inputs-n.ensures.value ∙ ap (λ r. r.size.inputs) c.self.view_is)
    (omega (arith, c.outputs-m.ensures.value, ap (λ r. r.size.outputs) c.self.view_is)) (omega (arith, none, ap (λ r. length r.pending) c.self.view_is))
    (omega (arith, c.if-n-eq0.false)) (omega (arith, c.inputs-n.ensures.limits, c.outputs-m.ensures.value)) (omega (arith, c.if-code-n.false))
    (c.are_symbols.ensures c.if-not-are_symbols.false) (sym c.row_blank.ensures ∙ c.if-not-row_blank.false) (c.are_symbols-2.ensures yes)
