use Rattle.std.proofs.Common.{◌∙◌, inl, inr, ap, arith, length}
use Rattle.std.specs.List.{range_with_len}
use Rattle.covering.specs.Cover.{sum_over}
use Rattle.covering.specs.Cuts.{raised}
use Rattle.covering.specs.Lagrange.{beyond}
use Rattle.covering.specs.Table.{items_of}
use Rattle.covering.specs.Weights.{at}
use Rattle.covering.proofs.Charges.{covers_from}
use Rattle.covering.proofs.Halves.{raised_carries}
use Rattle.covering.proofs.cuts.with_cuts.Goals as goal

pub loop-cut-preserved : goal.loop-cut-preserved
loop-cut-preserved c =
    let loads = c.loop-cut.loads.items in
    let counts = c.in_ok-counted.counted.counts.items in
    let weight = c.cut-item.result.weight in
    let long = c.charge_halves.ensures.length in
    let total = c.raised-total.ensures in
    record {
      carries = λ x h.
          let k = raised_carries (items_of c.args.rows.now) loads counts c.charge_halves.new.loads.items c.loop-cut.total c.in_ok-counted.counted.number weight c.loop-cut.invariant.carries c.in_ok-counted.ensures.carries
          (let a = c.in_ok-counted.ensures.length in let b = c.len.ensures in let ok = c.loop-cut.loads.ok in omega arith)
          long
          (λ d l. c.charge_halves.ensures.charged d l ∙ ap (λ xs. raised weight (at loads d) (at xs d)) c.deref-in-loop-cut.ensures.value) x h in
          omega (arith, total);
      long = long ∙ c.loop-cut.invariant.long;
      fits = omega (arith, total);
    }

pub returns : goal.returns
returns c = covers_from (items_of c.args.rows.now) c.args.scaled_costs.now c.loop-cut.loads.items c.loop-cut.total c.over-over.result c.loop-cut.invariant.carries c.loop-cut.invariant.long
    (elim c.over-over.ensures [
      | inl e ↦ inl (e ∙ ap (λ ls. sum_over (beyond ls c.args.scaled_costs.now) (range_with_len 0 (length ls))) c.deref-2.ensures.value)
      | inr e ↦ inr (let fits = c.loop-cut.invariant.fits in omega arith)
    ])
