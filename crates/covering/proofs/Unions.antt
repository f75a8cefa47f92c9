-- The rising list of two lists, read from marks.
use Rattle.std.proofs.Common.{◌≡◌, ◌∙◌, ◌<◌, inl, inr, ℕ, Bool, true, false, not, ◌||◌, List, sym, ap, refl, arith}
use Rattle.std.specs.Prelude.{filter}
use Rattle.std.specs.List.{range_with_len}
use Rattle.std.proofs.lemmas.Bool.{or_cases, or_left, or_right}
use Rattle.covering.specs.Table.{has, RisesFrom}
use Rattle.covering.specs.Choices.{union_of}
use Rattle.covering.specs.Search.{marked}
use Rattle.covering.proofs.Sets.{filter_parts, filter_keeps, filter_rises}
use Rattle.covering.proofs.Subsets.{same_list, union_rises, union_left, union_right, union_only}
use Rattle.covering.proofs.Rising.{range_rises, range_has, range_below}

-- where all but those of one list are marked, the list of the other and of what has no mark is that of both
pub union_marked : (taken choice : List ℕ) (keep : List Bool) (end : ℕ) → RisesFrom 0 taken
    → ((n : ℕ) → has n taken ≡ true → n < end) → ((n : ℕ) → has n choice ≡ true → n < end)
    → ((n : ℕ) → n < end → marked keep n ≡ not (has n choice))
    → filter (λ n. has n taken || not (marked keep n)) (range_with_len 0 end) ≡ union_of taken choice
union_marked taken choice keep end rises below others marks =
    same_list 0 (filter test (range_with_len 0 end)) (union_of taken choice) (filter_rises test 0 (range_with_len 0 end) (range_rises 0 end)) (union_rises taken choice rises)
    (λ n k. let p = filter_parts test n (range_with_len 0 end) k in elim (or_cases (has n taken) (not (marked keep n)) p.1) [
      | inl e ↦ union_left n taken choice e
      | inr e ↦ union_right n taken choice (twice (has n choice) (ap not (sym (marks n (let b = range_below n 0 end p.0 in omega arith))) ∙ e))
    ])
    (λ n k. elim (union_only n taken choice k) [
      | inl e ↦ filter_keeps test n (range_with_len 0 end) (range_has n 0 end (omega arith) (let b = below n e in omega arith)) (or_left (has n taken) _ e)
      | inr e ↦ filter_keeps test n (range_with_len 0 end) (range_has n 0 end (omega arith) (let b = others n e in omega arith)) (or_right (has n taken) _ (ap not (marks n (others n e)) ∙ ap (λ b. not (not b)) e))
    ])
  where
    test : ℕ → Bool
    test n = has n taken || not (marked keep n)

    twice : (b : Bool) → not (not b) ≡ true → b ≡ true
    twice true e = refl
    twice false e = e
