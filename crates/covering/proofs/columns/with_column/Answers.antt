use Rattle.std.proofs.Common.{◌≡◌, ◌∷◌, ◌++◌, ◌∙◌, ℕ, take, drop, ap, subst}
use Rattle.std.specs.Prelude.{Result, MatchResult}
use Rattle.std.proofs.lemmas.Result.{IfOk-weaker}
use Rattle.covering.specs.Steps.{put}
use Rattle.covering.proofs.Putting.{put_found}
use Rattle.covering.proofs.columns.with_column.Goals as goal
use Rattle.covering.proofs.columns.with_column.Goals.{After-binary_search}

-- what the search's answer says
found : (c : After-binary_search) → MatchResult c.binary_search.result (λ i. c.args.xs.now ≡ put c.args.column c.args.xs.now) (λ i. take i c.args.xs.now ++ c.args.column ∷ drop i c.args.xs.now ≡ put c.args.column c.args.xs.now)
found c = put_found c.args.xs.now c.args.column c.binary_search.result c.requires c.binary_search.ensures.position

pub returns-in-Ok : goal.returns-in-Ok
returns-in-Ok c =
    let b = c.args.column in
    let xs = c.args.xs.now in
    let is : xs ≡ put b xs = subst (λ (r : Result ℕ ℕ). MatchResult r (λ i. xs ≡ put b xs) (λ i. take i xs ++ b ∷ drop i xs ≡ put b xs)) c.in-Ok.is (found (goal.at.returns-in-Ok c).After-binary_search) in
    IfOk-weaker c.copy_of.result _ _ (λ v h. h ∙ is) c.copy_of.ensures

pub returns-in_ok-insert-in-Err : goal.returns-in_ok-insert-in-Err
returns-in_ok-insert-in-Err c =
    let b = c.args.column in
    let xs = c.args.xs.now in
    let is : take c.in-Err.place xs ++ b ∷ drop c.in-Err.place xs ≡ put b xs = subst (λ (r : Result ℕ ℕ). MatchResult r (λ i. xs ≡ put b xs) (λ i. take i xs ++ b ∷ drop i xs ≡ put b xs)) c.in-Err.is (found (goal.at.returns-in_ok-insert-in-Err c).After-binary_search) in
    c.in_ok-insert-in-Err.ensures.items ∙ ap (λ ys. take c.in-Err.place ys ++ b ∷ drop c.in-Err.place ys) c.in_ok-columns-in-Err.ensures ∙ is
