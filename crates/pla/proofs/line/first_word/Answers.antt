use Rattle.std.proofs.Common.{rules, tests, ◌≡◌, ℕ, Bool, true, false, cond, List, [], ◌∷◌, Option, Some, not, find, filter, slice_index_or, unwrap_or, refl, ap, sym, ◌∙◌, option_map}
use Rattle.std.specs.List.{slice_split}
use Rattle.std.specs.Borrow.{Bor}
use Rattle.std.proofs.lemmas.Iterator.Search.{find_from_yields_List}
use Rattle.std.proofs.lemmas.Iterator.Splits.{YieldsList-from_slice_split}
use Rattle.pla.specs.Lines.{is_blank, is_empty}
use Rattle.pla.proofs.line.first_word.Goals as goal

step : (x : List ℕ) (xs : List (List ℕ)) (o : Option (List ℕ)) (b : Bool) → slice_index_or xs 0 [] ≡ unwrap_or o [] → slice_index_or (cond b (x ∷ xs) xs) 0 [] ≡ unwrap_or (cond b (Some x) o) []
step x xs o true h = refl
step x xs o false h = h

-- the first of those that pass is the first that is found
first_found : (p : List ℕ → Bool) (xs : List (List ℕ)) → slice_index_or (filter p xs) 0 [] ≡ unwrap_or (find p xs) []
first_found p [] = refl
first_found p (x ∷ xs) = step x (filter p xs) (find p xs) (p x) (first_found p xs)

pub returns-in-Some : goal.returns-in-Some
returns-in-Some c =
    let full : List ℕ → Bool = λ word. not (is_empty word) in
    let found : option_map (λ (w : Bor (List ℕ)). w.now) c.find.result ≡ find full (slice_split is_blank c.args.code.now) =
    find_from_yields_List full _ _ c.find.result c.find.ensures.ran (YieldsList-from_slice_split _ is_blank c.args.code.now c.split.ensures.rest c.split.ensures.done c.split.ensures.closure (λ x b q k. search (rules, tests))) (λ x b q k. search (rules, tests)) in
    ap (λ o. unwrap_or o []) (sym (ap (option_map (λ (w : Bor (List ℕ)). w.now)) c.in-Some.is) ∙ found) ∙ sym (first_found full (slice_split is_blank c.args.code.now))

pub returns-in-None : goal.returns-in-None
returns-in-None c =
    let full : List ℕ → Bool = λ word. not (is_empty word) in
    let found : option_map (λ (w : Bor (List ℕ)). w.now) c.find.result ≡ find full (slice_split is_blank c.args.code.now) =
    find_from_yields_List full _ _ c.find.result c.find.ensures.ran (YieldsList-from_slice_split _ is_blank c.args.code.now c.split.ensures.rest c.split.ensures.done c.split.ensures.closure (λ x b q k. search (rules, tests))) (λ x b q k. search (rules, tests)) in
    ap (λ o. unwrap_or o []) (sym (ap (option_map (λ (w : Bor (List ℕ)). w.now)) c.in-None.is) ∙ found) ∙ sym (first_found full (slice_split is_blank c.args.code.now))
