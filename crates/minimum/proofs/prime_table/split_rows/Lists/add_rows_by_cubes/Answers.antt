use Rattle.std.proofs.Common.{◌∙◌, ◌+◌, ◌<◌, ◌≤◌, length, get_or, sym, subst, refl, All}
use Rattle.std.proofs.lemmas.Bool.{false≢true, and_parts}
use Rattle.std.proofs.lemmas.List.{get_or_default}
use Rattle.cube.specs.Cube.{holds}
use Rattle.covering.specs.Table.{items_of}
use Rattle.minimum.specs.PrimeRows.{AddsRows}
use Rattle.minimum.proofs.RowsByCube.{among, split_part, parted_some, parted_skip, parted_all}
use Rattle.minimum.proofs.prime_table.split_rows.Lists.add_rows_by_cubes.Goals as goal
use Rattle.minimum.proofs.prime_table.split_rows.Lists.add_rows_by_cubes.Goals.{in-Some+in_ok-add_rows, in_default}

pub add_rows-requires : goal.add_rows-requires
add_rows-requires c =
    let lists = c.args.self.now in
    let candidates = c.args.candidates.now in
    let below = subst (All (λ i. i < length lists.on.now)) (sym c.deref-number-items.ensures.value) c.requires.on_candidates.below in
    let n = get_or c.deref-number-items.result.now c.loop-number.number-index 0 in
    let own = c.requires.on_size n c.index-self-number.result (below c.loop-number.number-index 0 c.loop-number-test.true) in
    let size = rw c.in-Some.is at c.in_ok-part.ensures.size in
    split_part lists.primes.now lists.on.now lists.dc.now c.args.region.now c.in-Some.part (get_or lists.on.now n c.index-self-number.result) candidates.primes.items candidates.on.items candidates.dc.items c.requires
    (size.0 ∙ own.0, size.1 ∙ own.1) (rw c.in-Some.is at c.in_ok-part.ensures.places)

pub loop-number-preserved : goal.loop-number-preserved
loop-number-preserved c =
    let lists = c.args.self.now in
    let numbers = c.deref-number-items.result.now in
    let is = c.deref-number-items.ensures.value in
    let k = c.loop-number.number-index in
    let old = items_of c.args.known.now.rows.items in
    let mid = items_of c.loop-number.known.rows.items in
    let new = items_of c.match-branch-2.known.rows.items in
    let below = subst (All (λ i. i < length lists.on.now)) (sym is) c.requires.on_candidates.below k 0 c.loop-number-test.true in
    let cube = get_or lists.on.now (get_or numbers k 0) c.index-self-number.result in
    let at = get_or_default lists.on.now (get_or numbers k 0) c.index-self-number.result cube below in
    let before = subst (λ ns. AddsRows lists.primes.now lists.on.now lists.dc.now (among lists.on.now c.args.region.now ns k) old mid) (sym is) c.loop-number.invariant in
    subst (λ ns. AddsRows lists.primes.now lists.on.now lists.dc.now (among lists.on.now c.args.region.now ns (k + 1)) old new) is (
    elim c.match-branch-2.branch [
      | in-Some+in_ok-add_rows w ↦ parted_some lists.primes.now lists.on.now lists.dc.now c.args.region.now numbers k c.loop-number-test.true cube below at
          w.in-Some.part old mid new (rw w.in-Some.is at c.in_ok-part.ensures.places) before
          (subst (λ r. AddsRows lists.primes.now lists.on.now lists.dc.now (holds w.in-Some.part) mid (items_of r.rows.items)) (sym w.known-is) w.in_ok-add_rows.ensures)
      | in_default w ↦ (
          let apart = rw w.in_default.is at c.in_ok-part.ensures.none in
          parted_skip lists.primes.now lists.on.now lists.dc.now c.args.region.now numbers k c.loop-number-test.true cube below at
          old new (apart.0 refl) (subst (λ r. AddsRows lists.primes.now lists.on.now lists.dc.now (among lists.on.now c.args.region.now numbers k) old (items_of r.rows.items)) (sym w.known-is) before))
    ])

pub returns : goal.returns
returns c =
    let lists = c.args.self.now in
    let old = items_of c.args.known.now.rows.items in
    let new = items_of c.loop-number.known.rows.items in
    let k = c.loop-number.number-index in
    let is = c.deref-number-items.ensures.value in
    parted_all lists.primes.now lists.on.now lists.dc.now c.args.region.now c.args.candidates.now.on.items k old new
    (subst (λ ns. length ns ≤ k) is c.loop-number-test.false) c.requires.on_candidates c.loop-number.invariant

pub loop-number-init : goal.loop-number-init
loop-number-init c = record {
  kept = λ row h. h;
  demands = λ h. h;
  has_rows = λ p h _. absurd (false≢true (and_parts (holds c.args.region.now p) _ h).1);
}

pub meet-requires : goal.meet-requires
meet-requires c =
    let on = c.args.self.now.on.now in
    let below = subst (All (λ i. i < length on)) (sym c.deref-number-items.ensures.value) c.requires.on_candidates.below in
    c.requires.on_size (get_or c.deref-number-items.result.now c.loop-number.number-index 0) c.index-self-number.result (below c.loop-number.number-index 0 c.loop-number-test.true)
