use Rattle.std.proofs.Common.{◌≡◌, ◌∙◌, ap, sym, refl, Bool, true, false}
use Rattle.std.specs.Prelude.{MatchBool}
use Rattle.std.specs.List.{list_any}
use Rattle.covering.specs.Table.{items_of}
use Rattle.covering.specs.Search.{is_blank}
use Rattle.covering.specs.Reduce.{holds_all}
use Rattle.minimum.specs.PrimeRows.{contains_region}
use Rattle.covering.proofs.Rows.{any_items}
use Rattle.minimum.proofs.PrimeRows.{no_row_without_on, no_row_within_dc, no_row_by_known, open_from, blank_from}
use Rattle.minimum.proofs.prime_table.split_rows.Lists.needs_no_row.Goals as goal
use Rattle.minimum.proofs.prime_table.split_rows.Lists.needs_no_row.Goals.{then-is_blank-via-then-is_blank, then-is_blank-via-else-is_blank+then-any_contains}

pub returns-then-is_blank : goal.returns-then-is_blank
returns-then-is_blank c =
    let lists = c.args.self.now in
    let candidates = c.args.candidates.now in
    elim c.then-is_blank.branch [
      | then-is_blank-via-then-is_blank w ↦
          no_row_without_on lists.primes.now lists.on.now lists.dc.now c.args.region.now candidates.primes.items candidates.on.items candidates.dc.items (items_of c.args.known.now.rows.items) c.requires.split
          (blank_from lists.primes.now lists.on.now lists.dc.now candidates.on.items c.is_blank.result (c.is_blank.ensures ∙ ap is_blank c.deref.ensures.value) w.if-is_blank.true)
      | then-is_blank-via-else-is_blank+then-any_contains w ↦
          no_row_within_dc lists.primes.now lists.on.now lists.dc.now c.args.region.now candidates.primes.items candidates.on.items candidates.dc.items (items_of c.args.known.now.rows.items)
          (ap (list_any (contains_region lists.dc.now c.args.region.now)) (sym w.deref-else-is_blank.ensures.value) ∙ sym w.any_contains.ensures ∙ w.if-any_contains.true)
    ]

pub returns : goal.returns
returns c =
    let lists = c.args.self.now in
    let candidates = c.args.candidates.now in
    let rows = items_of c.args.known.now.rows.items in
    go c.any_within.result
    (λ on. no_row_by_known lists.primes.now lists.on.now lists.dc.now c.args.region.now c.in_ok-common_primes.common_primes.items rows c.in_ok-common_primes.ensures.hold
    (ap (λ s. list_any (holds_all s) rows) (sym c.deref-2.ensures.value) ∙ sym (any_items (holds_all c.deref-2.result.now) c.args.known.now.rows.items) ∙ c.any_within.ensures on))
    (open_from lists.primes.now lists.on.now lists.dc.now c.args.region.now candidates.on.items candidates.dc.items c.is_blank.result c.any_contains.result
    (c.is_blank.ensures ∙ ap is_blank c.deref.ensures.value) c.if-is_blank.false
    (c.any_contains.ensures ∙ ap (list_any (contains_region lists.dc.now c.args.region.now)) c.deref-else-is_blank.ensures.value) c.if-any_contains.false)
  where
    go : {P Q : Type 0} (b : Bool) → (b ≡ true → P) → Q → MatchBool b P Q
    go true p q = p refl
    go false p q = q
