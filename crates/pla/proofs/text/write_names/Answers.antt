use Rattle.std.proofs.Common.{◌≡◌, ℕ, List, ◌∷◌, ◌++◌, Option, Some, flat_map, subst, sym, ap, ◌∙◌, append_assoc, append-nil, codes}
use Rattle.pla.specs.Device.{Puts}
use Rattle.pla.specs.Names.{lent_names, name_bytes}
use Rattle.pla.specs.Text.{names_text}
use Rattle.pla.proofs.text.write_names.Goals as goal

with_names : (front keyword : List ℕ) (given : Option (List (List ℕ))) (names : List (List ℕ)) → given ≡ Some names
    → ((front ++ keyword) ++ flat_map (λ name. 32 ∷ name) names) ++ codes "\n" ≡ front ++ names_text keyword given
with_names front keyword given names is =
    let list = flat_map (λ name. 32 ∷ name) names in
    ap (λ t. t ++ codes "\n") (append_assoc front keyword list) ∙ append_assoc front (keyword ++ list) (codes "\n") ∙ ap (λ o. front ++ names_text keyword o) (sym is)

pub returns-in-Some-clause-bytes : goal.returns-in-Some-clause-bytes
returns-in-Some-clause-bytes g c = λ old front w.
    subst (Puts old _ _ _) (with_names front c.args.keyword.now (lent_names c.args.names) (name_bytes c.in-Some.names.now) (ap lent_names c.in-Some.is))
    (c.write_next.ensures.bytes _ _ (c.write_each_name-done.ensures.bytes _ _ (c.write_next-done.ensures.bytes old front w)))

pub returns-in-Some-clause-count : goal.returns-in-Some-clause-count
returns-in-Some-clause-count g c = λ before h. c.write_next.ensures.count before (c.write_each_name-done.ensures.count before (c.write_next-done.ensures.count before h))

pub returns-in-None-clause-bytes : goal.returns-in-None-clause-bytes
returns-in-None-clause-bytes g c = λ old front w.
    subst (Puts old _ _ _) (sym (append-nil front) ∙ ap (λ o. front ++ names_text c.args.keyword.now (lent_names o)) (sym c.in-None.is)) w
