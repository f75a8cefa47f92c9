use Rattle.std.proofs.Common.{◌≡◌, ap, sym, subst, ◌∙◌, ◌<◌, ◌≤◌, length, get_or, inl, inr}
use Rattle.cover.specs.Cubes.{AreCubes}
use Rattle.cover.proofs.ContainmentLemmas.{cube_at-is}
use Rattle.minimum.specs.Primes.{primes_of, essential_of, is_essential}
use Rattle.minimum.specs.EssentialPrimes.{AreNonCandidates}
use Rattle.minimum.proofs.Filters.{filter_next, filter_done}
use Rattle.minimum.proofs.NonCandidates.{same_sizes}
use Rattle.minimum.proofs.essential_primes.essential.Goals as goal
use Rattle.minimum.proofs.essential_primes.essential.Goals.{then-branch+in_ok-add_copy, else-branch, After-as_slice-2}

-- the cubes of the ON-set
on_are : (c : After-as_slice-2) → AreCubes c.args.sets.now.size c.as_slice-2.result.now
on_are c = subst (λ n. AreCubes n c.as_slice-2.result.now) (ap (λ k. k.size) c.on.ensures) c.as_slice-2.ensures.cubes

is_on : (c : After-as_slice-2) → c.as_slice-2.result.now ≡ c.args.sets.now.on
is_on c = c.as_slice-2.ensures.value ∙ ap (λ k. k.cubes) c.on.ensures

are_primes : (c : After-as_slice-2) → c.as_slice.result.now ≡ primes_of c.args.sets.now
are_primes c = c.as_slice.ensures.value ∙ ap (λ k. k.cubes) c.requires

pub non_candidates-requires : goal.non_candidates-requires
non_candidates-requires c =
    same_sizes c.args.sets.now.size c.as_slice.result.now c.as_slice-2.result.now
    (subst (λ n. AreCubes n c.as_slice.result.now) (ap (λ k. k.size) c.requires) c.as_slice.ensures.cubes) (on_are c)

pub is_essential_at-requires-clause-on : goal.is_essential_at-requires-clause-on
is_essential_at-requires-clause-on c =
    let s = (goal.at.is_essential_at-requires-clause-on c).After-as_slice-2 in
    subst (AreCubes c.args.sets.now.size) (is_on s) (on_are s)

pub is_essential_at-requires-clause-below : goal.is_essential_at-requires-clause-below
is_essential_at-requires-clause-below c = subst (λ l. c.loop-number.number < length l) (c.as_slice-prime-items.ensures.value ∙ ap (λ k. k.cubes) c.requires) c.loop-number-test.true

pub is_essential_at-requires-clause-at : goal.is_essential_at-requires-clause-at
is_essential_at-requires-clause-at c =
    let is = c.as_slice-prime-items.ensures.value ∙ ap (λ k. k.cubes) c.requires in
    cube_at-is (primes_of c.args.sets.now) c.loop-number.number c.prime-item.result (subst (λ l. c.loop-number.number < length l) is c.loop-number-test.true)
    (c.prime-item.is ∙ ap (λ l. get_or l c.loop-number.number c.prime-item.result) is)

pub is_essential_at-requires-clause-non_candidates : goal.is_essential_at-requires-clause-non_candidates
is_essential_at-requires-clause-non_candidates c =
    let s = (goal.at.is_essential_at-requires-clause-non_candidates c).After-as_slice-2 in
    subst (λ l. AreNonCandidates (primes_of c.args.sets.now) l (length l) c.deref.result.now) (is_on s)
    (subst (λ l. AreNonCandidates l c.as_slice-2.result.now (length c.as_slice-2.result.now) c.deref.result.now) (are_primes s)
    (subst (AreNonCandidates c.as_slice.result.now c.as_slice-2.result.now (length c.as_slice-2.result.now)) (sym c.deref.ensures.value) c.in_ok-non_candidates.ensures))

pub loop-number-preserved : goal.loop-number-preserved
loop-number-preserved c =
    let primes = c.args.primes.now.cubes in
    let test = is_essential c.args.sets.now primes in
    let i = c.loop-number.number in
    let list = c.loop-number.list in
    let value = c.as_slice-prime-items.ensures.value in
    let lt = subst (λ l. i < length l) value c.loop-number-test.true in
    let at = c.prime-item.is ∙ ap (λ l. get_or l i c.prime-item.result) value in
    let asked = c.in_ok-is_essential_at.ensures ∙ ap (λ l. is_essential c.args.sets.now l c.prime-item.result) (sym (ap (λ k. k.cubes) c.requires)) in
    let next = filter_next test primes i list.cubes c.loop-number.invariant.cubes c.prime-item.result c.prime-item.result lt at c.in_ok-is_essential_at.field-0 asked c.if-branch.list.cubes in
    elim c.if-branch.branch [
      | then-branch+in_ok-add_copy w ↦ record {
        size = ap (λ l. l.size) w.list-is ∙ w.in_ok-add_copy.ensures.size ∙ c.loop-number.invariant.size;
        cubes = next (inl (w.if-branch.true, ap (λ l. l.cubes) w.list-is ∙ w.in_ok-add_copy.ensures.cubes));
      }
      | else-branch w ↦ record {
        size = ap (λ l. l.size) w.list-is ∙ c.loop-number.invariant.size;
        cubes = next (inr (w.if-branch.false, ap (λ l. l.cubes) w.list-is));
      }
    ]

pub returns : goal.returns
returns c =
    let sets = c.args.sets.now in
    let primes = c.args.primes.now.cubes in
    let n = c.loop-number.number in
    let past = subst (λ l. length l ≤ n) c.as_slice-prime-items.ensures.value c.loop-number-test.false in
    let cubes = filter_done (is_essential sets primes) primes n c.loop-number.list.cubes c.loop-number.invariant.cubes past ∙ ap (λ k. essential_of sets k.cubes) c.requires in
    let size = c.loop-number.invariant.size ∙ ap (λ k. k.size) c.requires in
    λ i. record { size = size i; cubes = cubes i }
