use Rattle.std.proofs.Common.{◌∙◌, slice_index_or, sym, ap}
use Rattle.covering.specs.Table.{items_of}
use Rattle.covering.specs.Cover.{counted}
use Rattle.covering.specs.Reduce.{signature_of, has_bits, is_preferred, dominates}
use Rattle.covering.proofs.Signatures.{dominates_not, none_more}
use Rattle.covering.proofs.column_dominance.any_dominates.Goals as goal
use Rattle.covering.proofs.column_dominance.any_dominates.Goals.{else-has_bits-via-then-has_bits+else-is_dominated_by, else-has_bits-via-else-has_bits}

pub loop-b-preserved : goal.loop-b-preserved
loop-b-preserved c =
    let preferred = is_preferred c.args.preference (counted c.args.choice c.args.literals.now) in
    let transpose = items_of c.args.transpose.now in
    let b = slice_index_or c.args.among.now c.loop-b.b-index 0 in
    let asked = ap signature_of c.entry.ensures in
    none_more (dominates preferred transpose c.args.keep.now c.args.a) c.args.among.now c.loop-b.b-index c.loop-b-test.true c.loop-b.invariant (elim c.else-has_bits.branch [
      | else-has_bits-via-then-has_bits+else-is_dominated_by w ↦ sym w.is_dominated_by.ensures ∙ w.if-is_dominated_by.false
      | else-has_bits-via-else-has_bits w ↦ dominates_not preferred transpose c.args.signatures.now c.args.keep.now c.args.a b c.requires.signatures
          (ap (has_bits (slice_index_or c.args.signatures.now b 0)) (sym (c.signature_of-signature.ensures ∙ asked)) ∙ sym c.has_bits.ensures ∙ w.if-has_bits.false)
    ])
