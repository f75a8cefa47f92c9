use Rattle.std.proofs.Common.{◌∙◌, ◌<◌, ap, sym, subst, length, filter, All}
use Rattle.minimum.specs.PrimeRows.{intersects_region}
use Rattle.minimum.proofs.PrimeRows.{candidates_touching}
use Rattle.minimum.proofs.prime_table.split_rows.Lists.candidates.Goals as goal

pub returns : goal.returns
returns c =
    let lists = c.args.self.now in
    let region = c.args.region.now in
    let candidates = c.args.candidates.now in
    let a = candidates_touching lists.primes.now region candidates.primes.items c.in_ok-numbers_intersecting.field-0.items c.requires.primes_size c.requires.primes_candidates
    (c.in_ok-numbers_intersecting.ensures ∙ ap (filter (intersects_region lists.primes.now region)) c.deref.ensures.value) in
    let b = candidates_touching lists.on.now region candidates.on.items c.in_ok-numbers_intersecting-2.field-0.items c.requires.on_size c.requires.on_candidates
    (c.in_ok-numbers_intersecting-2.ensures ∙ ap (filter (intersects_region lists.on.now region)) c.deref-2.ensures.value) in
    let d = candidates_touching lists.dc.now region candidates.dc.items c.in_ok-numbers_intersecting-3.field-0.items c.requires.dc_size c.requires.dc_candidates
    (c.in_ok-numbers_intersecting-3.ensures ∙ ap (filter (intersects_region lists.dc.now region)) c.deref-3.ensures.value) in
    record {
      split = record {
        one = c.requires.one;
        enough = c.requires.enough;
        primes_size = c.requires.primes_size;
        on_size = c.requires.on_size;
        dc_size = c.requires.dc_size;
        primes_candidates = a.0;
        on_candidates = b.0;
        dc_candidates = d.0;
      };
      primes_intersect = a.1;
      on_intersect = b.1;
      dc_intersect = d.1;
    }

pub numbers_intersecting-requires-clause-below : goal.numbers_intersecting-requires-clause-below
numbers_intersecting-requires-clause-below c = subst (All (λ i. i < length c.args.self.now.primes.now)) (sym c.deref.ensures.value) c.requires.primes_candidates.below

pub numbers_intersecting-requires-2-clause-below : goal.numbers_intersecting-requires-2-clause-below
numbers_intersecting-requires-2-clause-below c = subst (All (λ i. i < length c.args.self.now.on.now)) (sym c.deref-2.ensures.value) c.requires.on_candidates.below

pub numbers_intersecting-requires-3-clause-below : goal.numbers_intersecting-requires-3-clause-below
numbers_intersecting-requires-3-clause-below c = subst (All (λ i. i < length c.args.self.now.dc.now)) (sym c.deref-3.ensures.value) c.requires.dc_candidates.below
