-- Elements chosen by a test, one after the other.
use Rattle.std.proofs.Common.{◌≡◌, ℕ, ◌+◌, ◌<◌, ◌≤◌, Bool, true, false, cond, List, [], ◌∷◌, ◌++◌, length, take, get_or, ap, sym, ◌∙◌, append-nil, filter}
use Rattle.std.proofs.lemmas.List.{take_all}
use Rattle.std.proofs.lemmas.List.Elements.{filter_more}

module _ {X : Type 0} (p : X → Bool) (xs : List X) (i : ℕ) (d x : X) (lt : i < length xs) (at : x ≡ get_or xs i d)
    (kept : List X) (before : kept ≡ filter p (take i xs)) (b : Bool) (test : b ≡ p x) where
  next : filter p (take (i + 1) xs) ≡ kept ++ cond b (x ∷ []) []
  next =
      filter_more p xs i d lt ∙ ap (λ y. filter p (take i xs) ++ cond (p y) (y ∷ []) []) (sym at)
      ∙ ap (λ t. filter p (take i xs) ++ cond t (x ∷ []) []) (sym test) ∙ ap (λ l. l ++ cond b (x ∷ []) []) (sym before)

  -- one that passes the test
  pub chosen : (new : List X) → b ≡ true → new ≡ kept ++ x ∷ [] → new ≡ filter p (take (i + 1) xs)
  chosen new on more = more ∙ ap (λ t. kept ++ cond t (x ∷ []) []) (sym on) ∙ sym next

  -- one that does not
  pub left_out : b ≡ false → kept ≡ filter p (take (i + 1) xs)
  left_out off = sym (append-nil kept) ∙ ap (λ t. kept ++ cond t (x ∷ []) []) (sym off) ∙ sym next

  -- a step of a loop that keeps the elements that pass the test
  pub kept_or_not : ((new : List X) → b ≡ true → new ≡ kept ++ x ∷ [] → new ≡ filter p (take (i + 1) xs)) × (b ≡ false → kept ≡ filter p (take (i + 1) xs))
  kept_or_not = (chosen, left_out)

-- all that pass the test, once the loop is past the last element
pub all_kept : {X : Type 0} (p : X → Bool) (xs : List X) (i : ℕ) (kept : List X) → length xs ≤ i → kept ≡ filter p (take i xs) → kept ≡ filter p xs
all_kept p xs i kept past before = before ∙ ap (filter p) (take_all i xs past)
