-- What one more element adds to a filter, in a loop that pushes those that pass.
use Rattle.std.proofs.Common.{◌≡◌, ℕ, ◌+◌, ◌<◌, Bool, true, false, cond, List, [], ◌∷◌, ◌++◌, length, take, slice_index_or, sym, ap, ◌∙◌, arith}
use Rattle.std.specs.Prelude.{filter}
use Rattle.std.specs.List.{range_with_len}
use Rattle.std.proofs.lemmas.List.{append-nil, map-id}
use Rattle.std.proofs.lemmas.List.Elements.{filter_more, filter-append}
use Rattle.std.proofs.lemmas.List.FromFn.{map-range_with_len_more}

pub passes : {X : Type 0} (p : X → Bool) (xs : List X) (i : ℕ) (d : X) (old new : List X) → i < length xs → p (slice_index_or xs i d) ≡ true
    → old ≡ filter p (take i xs) → new ≡ old ++ slice_index_or xs i d ∷ [] → new ≡ filter p (take (i + 1) xs)
passes p xs i d old new l test is more =
    more ∙ ap (λ ys. ys ++ slice_index_or xs i d ∷ []) is ∙ sym (filter_more p xs i d l ∙ ap (λ b. filter p (take i xs) ++ cond b (slice_index_or xs i d ∷ []) []) test)

pub fails : {X : Type 0} (p : X → Bool) (xs : List X) (i : ℕ) (d : X) (old new : List X) → i < length xs → p (slice_index_or xs i d) ≡ false
    → old ≡ filter p (take i xs) → new ≡ old → new ≡ filter p (take (i + 1) xs)
fails p xs i d old new l test is same =
    same ∙ is ∙ sym (filter_more p xs i d l ∙ ap (λ b. filter p (take i xs) ++ cond b (slice_index_or xs i d ∷ []) []) test ∙ append-nil (filter p (take i xs)))

-- the same where the elements are the numbers from 0 on
range_more : (n : ℕ) → range_with_len 0 (n + 1) ≡ range_with_len 0 n ++ n ∷ []
range_more n = sym (map-id (range_with_len 0 (n + 1))) ∙ map-range_with_len_more (λ c. c) 0 n n (omega arith) ∙ ap (λ l. l ++ n ∷ []) (map-id (range_with_len 0 n))

pub number_passes : (p : ℕ → Bool) (n : ℕ) (old new : List ℕ) → p n ≡ true → old ≡ filter p (range_with_len 0 n) → new ≡ old ++ n ∷ [] → new ≡ filter p (range_with_len 0 (n + 1))
number_passes p n old new test is more =
    more ∙ ap (λ ys. ys ++ n ∷ []) is ∙ sym (ap (filter p) (range_more n) ∙ filter-append p (range_with_len 0 n) (n ∷ []) ∙ ap (λ b. filter p (range_with_len 0 n) ++ cond b (n ∷ []) []) test)

pub number_fails : (p : ℕ → Bool) (n : ℕ) (old new : List ℕ) → p n ≡ false → old ≡ filter p (range_with_len 0 n) → new ≡ old → new ≡ filter p (range_with_len 0 (n + 1))
number_fails p n old new test is same =
    same ∙ is ∙ sym (ap (filter p) (range_more n) ∙ filter-append p (range_with_len 0 n) (n ∷ []) ∙ ap (λ b. filter p (range_with_len 0 n) ++ cond b (n ∷ []) []) test ∙ append-nil (filter p (range_with_len 0 n)))
