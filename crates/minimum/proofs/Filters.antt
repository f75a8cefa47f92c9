-- A list that a loop fills with the elements of another that pass a test.
use Rattle.std.proofs.Common.{◌≡◌, ℕ, ◌+◌, ◌<◌, ◌≤◌, ◌⊎◌, Bool, true, false, List, [], ◌∷◌, ◌++◌, length, take, get_or, filter, ap, ◌∙◌, inl, inr}
use Rattle.std.proofs.lemmas.List.{take_all}
use Rattle.cover.proofs.Chosen.{chosen, left_out}

module _ {X : Type 0} (test : X → Bool) (xs : List X) (i : ℕ) (kept : List X) (so : kept ≡ filter test (take i xs)) where
  -- one more is looked at, and added if it passes
  pub filter_next : (d x : X) → i < length xs → x ≡ get_or xs i d → (passes : Bool) → passes ≡ test x → (new : List X)
      → ((passes ≡ true) × (new ≡ kept ++ x ∷ [])) ⊎ ((passes ≡ false) × (new ≡ kept)) → new ≡ filter test (take (i + 1) xs)
  filter_next d x lt at passes is new (inl added) = chosen test xs i d x lt at kept so passes is new added.0 added.1
  filter_next d x lt at passes is new (inr same) = same.1 ∙ left_out test xs i d x lt at kept so passes is same.0

  -- all have been looked at
  pub filter_done : length xs ≤ i → kept ≡ filter test xs
  filter_done past = so ∙ ap (filter test) (take_all i xs past)
