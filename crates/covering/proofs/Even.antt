-- Where all live columns count alike, the first of the shortest covers is the least.
use Rattle.std.proofs.Common.{◌≡◌, ℕ, inl, inr, true, List, [], ◌∷◌, length, eqb, refl, arith}
use Rattle.std.specs.List.{list_all}
use Rattle.std.proofs.lemmas.Bool.{eqb-true}
use Rattle.covering.specs.declared.choice.Choice.{Choice}
use Rattle.covering.specs.declared.choice.Choice.TheVariants.{First}
use Rattle.covering.specs.Table.{Table, has, IsTable}
use Rattle.covering.specs.Cover.{IsCover, counted, sum_over, IsLeast}
use Rattle.covering.proofs.Sets.{has_here, has_later}
use Rattle.covering.proofs.Subsets.{minus, minus_length, minus_sum}
use Rattle.covering.proofs.Sides.{all_has}
use Rattle.covering.proofs.Renumbered.{rest_live}
use Rattle.covering.proofs.Cutoffs.{sum_nothing}

sum_even : (count : ℕ → ℕ) (k : ℕ) (xs ys : List ℕ) → length xs ≡ length ys → ((c : ℕ) → has c xs ≡ true → count c ≡ k) → ((c : ℕ) → has c ys ≡ true → count c ≡ k) → sum_over count xs ≡ sum_over count ys
sum_even count k [] [] e f g = refl
sum_even count k [] (y ∷ ys) e f g = absurd (omega arith)
sum_even count k (x ∷ xs) [] e f g = absurd (omega arith)
sum_even count k (x ∷ xs) (y ∷ ys) e f g =
    let rest = sum_even count k xs ys (omega arith) (λ c h. f c (has_later c x xs h)) (λ c h. g c (has_later c y ys h)) in
    let one = f x (has_here x x xs refl) in
    let other = g y (has_here y y ys refl) in
    omega arith

module _ (choice : Choice) (t : Table) (k : ℕ) (w : IsTable t) (even : list_all (λ c. eqb (counted choice t.weights c) k) t.live ≡ true) where
  alike : (x : List ℕ) → IsCover t x → (c : ℕ) → has c (minus x t.taken) ≡ true → counted choice t.weights c ≡ k
  alike x h c e = eqb-true (counted choice t.weights c) k (all_has (λ d. eqb (counted choice t.weights d) k) c t.live even (rest_live t x h c e))

  same_sum : (s x : List ℕ) → IsCover t s → IsCover t x → length s ≡ length x → sum_over (counted choice t.weights) s ≡ sum_over (counted choice t.weights) x
  same_sum s x h g e =
      let long = minus_length 0 s t.taken h.rises w.taken_rises h.taken in
      let long_x = minus_length 0 x t.taken g.rises w.taken_rises g.taken in
      let sum = minus_sum (counted choice t.weights) 0 s t.taken h.rises w.taken_rises h.taken in
      let sum_x = minus_sum (counted choice t.weights) 0 x t.taken g.rises w.taken_rises g.taken in
      let rest = sum_even (counted choice t.weights) k (minus s t.taken) (minus x t.taken) (omega arith) (alike s h) (alike x g) in
      omega arith

  pub even_least : (s : List ℕ) → IsLeast First t s → IsLeast choice t s
  even_least s h = record {
    cover = h.cover;
    first = λ x g. elim (h.first x g) [
      | inl e ↦ inl e
      | inr p ↦ inr (elim p [
        | inl l ↦ inl l
        | inr q ↦ inr (
          q.0,
          elim q.1 [
            | inl m ↦ absurd (let a = sum_nothing t.weights x in omega arith)
            | inr m ↦ inr (same_sum s x h.cover g q.0, m.1)
          ],
        )
      ])
    ];
  }
