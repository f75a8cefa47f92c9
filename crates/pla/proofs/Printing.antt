-- What one more byte, text or row does to what was printed.
use Rattle.std.proofs.Common.{◌≡◌, ℕ, List, ◌++◌, take, drop, flat_map, ap, sym, ◌∙◌, take-append-drop}
use Rattle.std.proofs.lemmas.List.Concat.{flat_map-append}

-- the texts of all elements are those of the first i and of the rest
pub flat_map_split : {X : Type 0} (f : X → List ℕ) (xs : List X) (i : ℕ) → flat_map f xs ≡ flat_map f (take i xs) ++ flat_map f (drop i xs)
flat_map_split f xs i = ap (flat_map f) (sym (take-append-drop i xs)) ∙ flat_map-append f (take i xs) (drop i xs)
