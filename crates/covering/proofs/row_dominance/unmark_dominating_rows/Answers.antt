use Rattle.std.proofs.Common.{◌∙◌, ◌+◌, take, slice_index_or, sym, ap, subst}
use Rattle.covering.specs.Table.{items_of}
use Rattle.covering.specs.Reduce.{UnmarksDominatingRows, signature_of, has_bits}
use Rattle.covering.proofs.Dominance.{dominating_hit, dominating_miss}
use Rattle.covering.proofs.Signatures.{dominating_not}
use Rattle.covering.proofs.row_dominance.unmark_dominating_rows.Goals as goal
use Rattle.covering.proofs.row_dominance.unmark_dominating_rows.Goals.{then-has_bits+then-is_dominating_row, else-has_bits, else-has_bits-via-then-has_bits+else-is_dominating_row, else-has_bits-via-else-has_bits}

pub loop-number-preserved : goal.loop-number-preserved
loop-number-preserved c =
    let rows = items_of c.args.rows.now in
    let at = c.args.at in
    let among = c.args.among.now in
    let k = c.loop-number.number-index in
    let old = c.args.stay.now.items in
    let mid = c.loop-number.stay.items in
    let number = slice_index_or among k 0 in
    elim c.if-has_bits.branch [
      | then-has_bits+then-is_dominating_row w ↦ subst (λ marks. UnmarksDominatingRows rows at (take (k + 1) among) old marks.items) (sym w.stay-is)
          (dominating_hit rows at k among old mid w.unmark.new.marks.items c.loop-number-test.true c.loop-number.invariant (sym w.is_dominating_row.ensures ∙ w.if-is_dominating_row.true) w.unmark.ensures)
      | else-has_bits w ↦ subst (λ marks. UnmarksDominatingRows rows at (take (k + 1) among) old marks.items) (sym w.stay-is)
          (dominating_miss rows at k among old mid mid c.loop-number-test.true c.loop-number.invariant (elim w.else-has_bits.branch [
            | else-has_bits-via-then-has_bits+else-is_dominating_row v ↦ sym v.is_dominating_row.ensures ∙ v.if-is_dominating_row.false
            | else-has_bits-via-else-has_bits v ↦ dominating_not rows c.args.signatures.now at number c.requires.signatures
                (ap (has_bits (slice_index_or c.args.signatures.now number 0)) (sym (c.signature_of-signature.ensures ∙ ap signature_of c.entry.ensures)) ∙ sym c.has_bits.ensures ∙ v.if-has_bits.false)
          ]))
    ]
