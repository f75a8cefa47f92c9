use Rattle.std.proofs.Common.{◌≡◌, ◌∙◌, inl, inr, true, sym, ap, subst, arith, length, slice_index_or}
use Rattle.std.proofs.lemmas.Bool.{cases_lt}
use Rattle.std.proofs.lemmas.List.{get_or_past}
use Rattle.covering.specs.Cover.{meets}
use Rattle.covering.specs.Table.{RisesFrom, has, items_of}
use Rattle.covering.proofs.Charges.{all_at, cond_top}
use Rattle.covering.proofs.Halves.{counted_more}
use Rattle.covering.proofs.cuts.counts_of.Goals.{then-row-rows, else-row-rows}
use Rattle.covering.proofs.cuts.counts_of.Goals as goal

pub charge-requires-clause-rises : goal.charge-requires-clause-rises
charge-requires-clause-rises c = subst (RisesFrom 0) (sym (c.deref.ensures.value ∙ ap (λ v. v.items) c.index-rows-row.is)) (all_at (RisesFrom 0) c.args.rows.now (slice_index_or c.args.cut.now c.loop-row.row-index 0) c.index-rows-row.result c.requires.rise c.if-row-rows.true)

pub charge-requires-clause-fits : goal.charge-requires-clause-fits
charge-requires-clause-fits c d = let few = c.loop-row.invariant.few in let most = c.loop-row.invariant.most d in omega arith

pub loop-row-preserved : goal.loop-row-preserved
loop-row-preserved c = elim c.if-row-rows.branch [
  | then-row-rows w ↦ (
      let i = slice_index_or c.args.cut.now c.loop-row.row-index 0 in
      let counts = c.loop-row.counts.items in
      let row = w.deref.ensures.value ∙ ap (λ v. v.items) w.index-rows-row.is in
      let long = w.charge.ensures.length in
      rw w.counts-is (rw w.number-is (record {
        carries = counted_more (items_of c.args.rows.now) w.deref.result.now counts w.charge.new.loads.items c.loop-row.number c.loop-row.invariant.carries
            (λ x m. subst (λ r. meets x r ≡ true) (sym row) (all_at (λ r. meets x r ≡ true) c.args.rows.now i w.index-rows-row.result m w.if-row-rows.true))
            long w.charge.ensures.charged;
        most = λ d. elim (cases_lt d (length counts)) [
          | inl lt ↦ (let charged = w.charge.ensures.charged d lt in let top = cond_top (has d w.deref.result.now) 1 in let before = c.loop-row.invariant.most d in omega arith)
          | inr far ↦ (let none = get_or_past w.charge.new.loads.items d 0 (omega arith) in omega arith)
        ];
        few = (let few = c.loop-row.invariant.few in omega arith);
        long = long ∙ c.loop-row.invariant.long;
      })))
  | else-row-rows w ↦ (
      let before = c.loop-row.invariant in
      rw w.counts-is (rw w.number-is (record {
        carries = before.carries;
        most = before.most;
        few = omega (arith, before.few);
        long = before.long;
      })))
]
