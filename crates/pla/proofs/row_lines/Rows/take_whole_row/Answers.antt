use Rattle.std.proofs.Common.{◌+◌, take, drop, refl, ap, sym, ◌∙◌, subst, arith}
use Rattle.pla.specs.Reading.{RowsRead, BeginsRow}
use Rattle.pla.proofs.Moves.{drop_is}
use Rattle.pla.proofs.Runs.{read_row_front}
use Rattle.pla.proofs.row_lines.Rows.take_whole_row.Goals as goal

pub returns-clause-read : goal.returns-clause-read
returns-clause-read c =
    let code = c.args.code.now in
    let n = c.inputs-n.result in
    let m = c.outputs-m.result in
    let begins = subst (λ (r : RowsRead). BeginsRow r code) (sym c.self.view_is) (c.begins_whole_row.ensures c.if-not-begins_whole_row.false) in
    rw (← c.self.view_is) (read_row_front c.args.file_type _ _ code _ _ _ begins
    (ap (λ k. take k code) c.inputs-n.ensures.value)
    (ap (λ k. take k (drop (n + 1) code)) (omega arith) ∙ ap (λ k. take k (drop (n + 1) code)) c.outputs-m.ensures.value ∙ ap (λ k. take c.self.inside.shape.outputs (drop (k + 1) code)) c.inputs-n.ensures.value)
    (sym (drop_is (n + 1 + m) code) ∙ ap (λ k. drop (k + 1 + m) code) c.inputs-n.ensures.value ∙ ap (λ k. drop (c.self.inside.shape.inputs + 1 + k) code) c.outputs-m.ensures.value)
    refl refl c.in_ok-push_row.ensures.on c.in_ok-push_row.ensures.dc c.in_ok-push_row.ensures.off)
