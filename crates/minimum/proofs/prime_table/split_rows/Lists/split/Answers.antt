use Rattle.std.proofs.Common.{◌∙◌, ◌<◌, ℕ, ap, sym, subst, All, eqb, length, Option, Some, None}
use Rattle.std.specs.Prelude.{MatchOption}
use Rattle.std.proofs.lemmas.Bool.{eqb-true}
use Rattle.covering.specs.Table.{has}
use Rattle.covering.specs.Search.{is_blank}
use Rattle.minimum.specs.PrimeRows.{IsFree}
use Rattle.minimum.proofs.PrimeRows.{settled_alone, settled_inside, blank_from}
use Rattle.minimum.proofs.prime_table.split_rows.Lists.split.Goals as goal

pub returns-then-is_blank : goal.returns-then-is_blank
returns-then-is_blank c =
    let lists = c.args.self.now in
    let candidates = c.args.candidates.now in
    settled_alone lists.primes.now lists.on.now lists.dc.now c.args.region.now candidates.primes.items candidates.on.items candidates.dc.items c.requires.touched
    (eqb-true (length candidates.primes.items) 1 (ap (λ l. eqb (length l) 1) (sym c.deref.ensures.value) ∙ sym c.is_alone.ensures ∙ c.if-is_alone.true))
    (blank_from lists.primes.now lists.on.now lists.dc.now candidates.dc.items c.is_blank.result (c.is_blank.ensures ∙ ap is_blank c.deref-then-is_alone.ensures.value) c.if-is_blank.true)

pub returns-in-None : goal.returns-in-None
returns-in-None c =
    let lists = c.args.self.now in
    let candidates = c.args.candidates.now in
    go _ _ (IsFree c.args.region.now) c.first_inside-in-None.result
    (λ h. settled_inside lists.primes.now lists.on.now lists.dc.now c.args.region.now candidates.primes.items candidates.on.items candidates.dc.items c.requires.touched c.requires.open.none_contains
    (λ i k. c.in-None.ensures i (ap (has i) c.deref-2.ensures.value ∙ k)) (λ i k. h i (ap (has i) c.deref-in-None.ensures.value ∙ k)))
    c.first_inside-in-None.ensures
  where
    go : (P Q : Type 0) (R : ℕ → Type 0) (o : Option ℕ) → (P → Q) → MatchOption o P R → MatchOption o Q R
    go P Q R None f h = f h
    go P Q R (Some x) f h = h

pub first_inside-requires-clause-size : goal.first_inside-requires-clause-size
first_inside-requires-clause-size c = c.requires.touched.split.primes_size

pub first_inside-requires-clause-below : goal.first_inside-requires-clause-below
first_inside-requires-clause-below c = subst (All (λ i. i < length c.args.self.now.primes.now)) (sym c.deref-2.ensures.value) c.requires.touched.split.primes_candidates.below

pub first_inside-requires-in-None-clause-size : goal.first_inside-requires-in-None-clause-size
first_inside-requires-in-None-clause-size c = c.requires.touched.split.dc_size

pub first_inside-requires-in-None-clause-below : goal.first_inside-requires-in-None-clause-below
first_inside-requires-in-None-clause-below c = subst (All (λ i. i < length c.args.self.now.dc.now)) (sym c.deref-in-None.ensures.value) c.requires.touched.split.dc_candidates.below
