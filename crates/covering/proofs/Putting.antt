-- A column put into a rising list, where a binary search says.
use Rattle.std.proofs.Common.{◌≡◌, ℕ, zero, suc, ◌<◌, ◌≤◌, inl, inr, true, List, [], ◌∷◌, ◌++◌, length, take, drop, slice_index_or, refl, sym, ap, subst, arith}
use Rattle.std.specs.Prelude.{Result, Ok, Err, MatchResult}
use Rattle.std.specs.List.Sorted.{IsBinarySearchResult}
use Rattle.std.specs.Ordering.{nat_cmp}
use Rattle.std.proofs.lemmas.Bool.{true≢false, lt-ltb, le-ltb, eq-eqb, ne_eqb}
use Rattle.covering.specs.Table.{has, RisesFrom}
use Rattle.covering.specs.Steps.{put}
use Rattle.covering.proofs.Sets.{has_cases, rises_above}
use Rattle.covering.proofs.Dominance.{has_index, found_at}

put_there : (b l : ℕ) (xs : List ℕ) → RisesFrom l xs → has b xs ≡ true → xs ≡ put b xs
put_there b l [] r h = absurd (true≢false (sym h))
put_there b l (x ∷ xs) r h = elim (has_cases b x xs h) [
  | inl e ↦ rw (le-ltb b x (omega arith), eq-eqb b x e) refl
  | inr e ↦ (let above = rises_above b (suc x) xs r.1 e in rw (le-ltb b x (omega arith), ne_eqb b x (λ k. absurd (omega arith))) (ap (λ ys. x ∷ ys) (put_there b (suc x) xs r.1 e)))
]

put_between : (b : ℕ) (xs : List ℕ) (i : ℕ) → i ≤ length xs → ((k : ℕ) → k < i → slice_index_or xs k 0 < b) → ((k : ℕ) → i ≤ k → k < length xs → b < slice_index_or xs k 0)
    → take i xs ++ b ∷ drop i xs ≡ put b xs
put_between b [] zero h less more = refl
put_between b [] (suc i) h less more = absurd (omega arith)
put_between b (x ∷ xs) zero h less more = rw (lt-ltb b x (more 0 (omega arith) (omega arith))) refl
put_between b (x ∷ xs) (suc i) h less more =
    let first = less 0 (omega arith) in
    rw (le-ltb b x (omega arith), ne_eqb b x (λ k. absurd (omega arith)))
    (ap (λ ys. x ∷ ys) (put_between b xs i (omega arith) (λ k m. less (suc k) (omega arith)) (λ k m n. more (suc k) (omega arith) (omega arith))))

-- what is put in, by the search's answer
pub put_found : (xs : List ℕ) (b : ℕ) (r : Result ℕ ℕ) → RisesFrom 0 xs → IsBinarySearchResult (λ y. nat_cmp y b) xs r
    → MatchResult r (λ i. xs ≡ put b xs) (λ i. take i xs ++ b ∷ drop i xs ≡ put b xs)
put_found xs b r rises h = go r (found_at xs b r rises h)
  where
    go : (r : Result ℕ ℕ) → MatchResult r (λ i. (i < length xs) × (slice_index_or xs i 0 ≡ b)) (λ i. (i ≤ length xs) × ((k : ℕ) → k < i → slice_index_or xs k 0 < b) × ((k : ℕ) → i ≤ k → k < length xs → b < slice_index_or xs k 0))
        → MatchResult r (λ i. xs ≡ put b xs) (λ i. take i xs ++ b ∷ drop i xs ≡ put b xs)
    go (Ok i) m = put_there b 0 xs rises (subst (λ n. has n xs ≡ true) m.1 (has_index xs i m.0))
    go (Err i) m = put_between b xs i m.0 m.1 m.2
