use Rattle.std.proofs.Common.{◌≡◌, ◌<◌, ◌∙◌, ℕ, sym, ap, subst, arith, inl, inr, cond, length, take, slice_index_or}
use Rattle.std.proofs.lemmas.Bool.{cases_lt}
use Rattle.std.proofs.lemmas.List.{get_or_past, take_all}
use Rattle.covering.specs.Table.{RisesFrom, has, items_of}
use Rattle.covering.specs.Weights.{at, load}
use Rattle.covering.specs.Lagrange.{beyond}
use Rattle.std.specs.List.{range_with_len}
use Rattle.covering.specs.Cover.{sum_over}
use Rattle.covering.proofs.Charges.{all_at, load_more, cond_top, carries_from, covers_from, lacking_from, overs, items_count}
use Rattle.covering.proofs.lagrangian.lagrangian.Goals as goal

pub charge-requires-clause-rises : goal.charge-requires-clause-rises
charge-requires-clause-rises c = subst (RisesFrom 0) (sym (c.deref.ensures.value ∙ ap (λ v. v.items) c.index-rows-i.is)) (all_at (RisesFrom 0) c.args.rows.now c.loop-i.i c.index-rows-i.result c.requires.rise c.loop-i-test.true)

pub loop-i-preserved : goal.loop-i-preserved
loop-i-preserved c =
    let w = slice_index_or c.args.weights.now c.loop-i.i 0 in
    let small = c.type_inv.weights c.loop-i.i in
    let same = c.charge.ensures.length in
    let long = c.loop-i.invariant.long in
    record {
      loads = λ d h.
          let k = load_more d c.loop-i.i c.args.rows.now c.index-rows-i.result c.args.weights.now c.requires.length c.loop-i-test.true c.index-rows-i.is in
          let inv = c.loop-i.invariant.loads d h in
          let charged = c.charge.ensures.charged d (omega arith) in
          let row = ap (λ r. cond (has d r) (slice_index_or c.args.weights.now c.loop-i.i 0) 0) c.deref.ensures.value in
          omega arith;
      bound = λ d. elim (cases_lt d (length c.loop-i.loads.items)) [
        | inl lt ↦ (let charged = c.charge.ensures.charged d lt in let top = cond_top (has d c.deref.result.now) (slice_index_or c.args.weights.now c.loop-i.i 0) in let before = c.loop-i.invariant.bound d in omega arith)
        | inr far ↦ (let none = get_or_past c.charge.new.loads.items d 0 (omega arith) in omega arith)
      ];
      long = same ∙ long;
    }

pub returns-clause-loaded : goal.returns-clause-loaded
returns-clause-loaded c =
    let same = c.requires.length in
    let past = c.loop-i-test.false in
    let loads_are : (d : ℕ) → d < length c.args.scaled_costs.now → at c.loop-i.loads.items d ≡ load d (items_of c.args.rows.now) c.args.weights.now =
    λ d h. c.loop-i.invariant.loads d h ∙ ap (λ rs. load d (items_of rs) (take c.loop-i.i c.args.weights.now)) (take_all c.loop-i.i c.args.rows.now past) ∙ ap (load d (items_of c.args.rows.now)) (take_all c.loop-i.i c.args.weights.now (omega arith)) in
    record {
      loads_are = loads_are;
      weighs = c.total-total.ensures.sum;
      exceeds = elim c.over-over.ensures [
        | inl e ↦ inl (e ∙ ap (λ ls. sum_over (beyond ls c.args.scaled_costs.now) (range_with_len 0 (length ls))) c.deref-2.ensures.value
            ∙ ap (λ n. sum_over (beyond c.loop-i.loads.items c.args.scaled_costs.now) (range_with_len 0 n)) c.loop-i.invariant.long
            ∙ overs (items_of c.args.rows.now) c.args.weights.now c.args.scaled_costs.now c.loop-i.loads.items loads_are)
        | inr e ↦ inr (let few = c.requires.few in let bound = c.total-total.ensures.bound in omega arith)
      ];
    }

pub returns-clause-carries : goal.returns-clause-carries
returns-clause-carries c = carries_from (items_of c.args.rows.now) c.args.weights.now c.args.scaled_costs.now c.loop-i.loads.items c.total-total.result c.over-over.result (c.requires.length ∙ sym (items_count c.args.rows.now)) c.loop-i.invariant.long (returns-clause-loaded c)

pub returns-clause-covers : goal.returns-clause-covers
returns-clause-covers c = covers_from (items_of c.args.rows.now) c.args.scaled_costs.now c.loop-i.loads.items c.total-total.result c.over-over.result (returns-clause-carries c) c.loop-i.invariant.long
    (elim c.over-over.ensures [
      | inl e ↦ inl (e ∙ ap (λ ls. sum_over (beyond ls c.args.scaled_costs.now) (range_with_len 0 (length ls))) c.deref-2.ensures.value)
      | inr e ↦ inr (let few = c.requires.few in let bound = c.total-total.ensures.bound in omega arith)
    ])

pub returns-clause-lacking : goal.returns-clause-lacking
returns-clause-lacking c = lacking_from (items_of c.args.rows.now) c.args.weights.now c.args.scaled_costs.now c.loop-i.loads.items c.total-total.result c.over-over.result (c.requires.length ∙ sym (items_count c.args.rows.now)) (returns-clause-loaded c)
