use Rattle.std.proofs.Common.{◌≡◌, ℕ, ◌<◌, length, get_or, ap, sym, ◌∙◌, arith}
use Rattle.std.specs.Prelude.{◌&&◌}
use Rattle.std.proofs.lemmas.List.Folds.{list_all_more}
use Rattle.pla.specs.Symbols.{is_symbol_at}
use Rattle.pla.proofs.row_lines.Rows.run_length.Goals as goal

pub loop-k-preserved : goal.loop-k-preserved
loop-k-preserved c =
    let code = c.args.code.now in
    let k = c.loop-k.k in
    let b = get_or code k 0 in
    let within : k < length code = omega (arith, c.min-most.ensures) in
    let n : c.args.self.now.size.inputs ≡ c.inputs-inputs.result = sym (c.inputs-inputs.ensures.value ∙ ap (λ r. r.size.inputs) c.self.view_is) in
    let place : length c.args.self.now.pending ≡ c.len-place.result = omega (arith, c.len-place.ensures, ap (λ r. length r.pending) c.self.view_is) in
    let is = λ (b : ℕ). is_symbol_at c.args.self.now.size.inputs (length c.args.self.now.pending) b in
    list_all_more is code k 0 within ∙ ap (λ t. t && is b) c.loop-k.invariant
    ∙ ap (λ n. is_symbol_at n (length c.args.self.now.pending) b) n ∙ ap (λ p. is_symbol_at c.inputs-inputs.result p b) place ∙ sym c.is_symbol.ensures ∙ c.if-not-is_symbol.false
