-- The best covers from searches within cutoffs.
use Rattle.std.proofs.Common.{◌≡◌, ℕ, ◌+◌, ◌<◌, ◌≤◌, ◌⊎◌, inl, inr, List, [], ◌∷◌, length, refl, ap, arith}
use Rattle.std.specs.Prelude.{Some, None}
use Rattle.std.proofs.lemmas.Bool.{cases_lt}
use Rattle.covering.specs.declared.choice.Choice.TheVariants.{First}
use Rattle.covering.specs.Table.{Table}
use Rattle.covering.specs.Cover.{IsCover, IsLeast, counted, sum_over}
use Rattle.covering.specs.Search.{NoneWithin, IsAnswer, IsBest, IsWeaklyReduced}

pub sum_nothing : (weights x : List ℕ) → sum_over (counted First weights) x ≡ 0
sum_nothing weights [] = refl
sum_nothing weights (c ∷ x) = let e = sum_nothing weights x in omega arith

-- no cover has fewer columns
pub none_shorter : (t : Table) (n k : ℕ) → n ≤ k + 1 → NoneWithin First t k 0 → (x : List ℕ) → IsCover t x → n ≤ length x
none_shorter t n k l none x h = elim (none x h) [ inl m ↦ omega arith | inr m ↦ absurd (let e = sum_nothing t.weights x in omega arith) ]

-- as long or longer
at_least : (n k a b : ℕ) → k ≤ n → a ≤ b → (k < n) ⊎ ((n ≡ k) × (a ≤ b))
at_least n k a b l m = elim (cases_lt k n) [ inl h ↦ inl h | inr h ↦ inr (omega arith, m) ]

pub shortest_best : (t : Table) (s : List ℕ) → IsCover t s → ((x : List ℕ) → IsCover t x → length s ≤ length x) → IsBest First t s
shortest_best t s h low = record {
  cover = h;
  none = λ x g. let e = sum_nothing t.weights s in at_least (length x) (length s) (sum_over (counted First t.weights) s) (sum_over (counted First t.weights) x) (low x g) (omega arith);
}

-- no cover has fewer columns than the least
least_shortest : (t : Table) (s x : List ℕ) → IsLeast First t s → IsCover t x → length s ≤ length x
least_shortest t s x least h = elim (least.first x h) [
  | inl e ↦ let same = ap length e in omega (arith, same)
  | inr before ↦ elim before [ inl fewer ↦ omega (arith, fewer) | inr as_long ↦ let same = as_long.0 in omega (arith, same) ]
]

-- the least cover of a table in which to search instead, whatever the cutoff, is a shortest one
pub least_best : (t u : Table) (s : List ℕ) → IsWeaklyReduced First t u → IsLeast First u s → IsBest First t s
least_best t u s weak least =
    let w = sum_over (counted First u.weights) s in
    let answer : IsAnswer First t (length s) w s = weak.leads (length s) w (Some s) (record { cover = least.cover; fits = omega arith; counts = omega arith }) in
    shortest_best t s answer.cover (λ x h. elim (cases_lt (length x) (length s)) [
      | inl fewer ↦
          let none : NoneWithin First t (length x) 0 = weak.leads (length x) 0 None (λ y g. let long = least_shortest u s y least g in inl (omega (arith, fewer, long))) in
          let more = none_shorter t (length x + 1) (length x) (omega arith) none x h in
          absurd (omega (arith, more))
      | inr long ↦ omega (arith, long)
    ])
