use Rattle.std.proofs.Common.{◌∙◌, ap, sym, filter, eqb, length}
use Rattle.std.proofs.lemmas.Bool.{eqb-true}
use Rattle.std.proofs.lemmas.Result.{IfOk-weaker}
use Rattle.covering.specs.Table.{has}
use Rattle.minimum.specs.PrimeRows.{contains_region}
use Rattle.minimum.proofs.PrimeRows.{alone_holds, common_primes_spanning}
use Rattle.minimum.proofs.prime_table.split_rows.Lists.common_primes.Goals as goal

pub returns-then-is_alone-clause-hold : goal.returns-then-is_alone-clause-hold
returns-then-is_alone-clause-hold c =
    let lists = c.args.self.now in
    let candidates = c.args.candidates.now in
    IfOk-weaker c.copy_of.result _ _
    (λ v same i p h. alone_holds lists.primes.now lists.on.now lists.dc.now c.args.region.now candidates.primes.items candidates.on.items candidates.dc.items c.requires (eqb-true (length candidates.primes.items) 1 (ap (λ l. eqb (length l) 1) (sym c.deref.ensures.value) ∙ sym c.is_alone.ensures ∙ c.if-is_alone.true)) i p (ap (has i) (sym (same ∙ c.deref-then-is_alone.ensures.value)) ∙ h))
    c.copy_of.ensures

pub returns-clause-rises : goal.returns-clause-rises
returns-clause-rises c =
    let lists = c.args.self.now in
    let candidates = c.args.candidates.now in
    IfOk-weaker c.numbers_containing.result _ _
    (λ v same. (common_primes_spanning lists.primes.now lists.on.now lists.dc.now c.args.region.now candidates.primes.items candidates.on.items candidates.dc.items v.items c.requires
    (same ∙ ap (filter (contains_region lists.primes.now c.args.region.now)) c.deref-2.ensures.value)).0)
    c.numbers_containing.ensures

pub returns-clause-hold : goal.returns-clause-hold
returns-clause-hold c =
    let lists = c.args.self.now in
    let candidates = c.args.candidates.now in
    IfOk-weaker c.numbers_containing.result _ _
    (λ v same. (common_primes_spanning lists.primes.now lists.on.now lists.dc.now c.args.region.now candidates.primes.items candidates.on.items candidates.dc.items v.items c.requires
    (same ∙ ap (filter (contains_region lists.primes.now c.args.region.now)) c.deref-2.ensures.value)).1)
    c.numbers_containing.ensures
