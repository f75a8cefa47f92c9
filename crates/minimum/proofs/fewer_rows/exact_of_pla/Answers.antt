use Rattle.std.proofs.Common.{◌≡◌, ◌∙◌, subst}
use Rattle.std.specs.Prelude.{IfOk}
use Rattle.std.proofs.lemmas.Result.{IfOk-weaker}
use Rattle.minimum.specs.Primes.{exact_of}
use Rattle.minimum.proofs.SamePlaces.{same_exact}
use Rattle.minimum.proofs.fewer_rows.exact_of_pla.Goals as goal

pub returns-in-Some : goal.returns-in-Some
returns-in-Some c =
    let pla = c.fewer_rows_or_given-pla.result.now in
    IfOk-weaker c.exact_of_samples.result _ _ (λ list h. h ∙ same_exact c.args.pla.now pla c.fewer_rows_or_given-pla.ensures c.args.choice) c.exact_of_samples.ensures

pub returns : goal.returns
returns c =
    let pla = c.fewer_rows_or_given-pla.result.now in
    let answer = subst (λ sets. IfOk c.exact.result (λ list. list ≡ record { size = sets.size; cubes = exact_of c.args.choice sets })) c.in_ok-sets-in-None.ensures c.exact.ensures in
    IfOk-weaker c.exact.result _ _ (λ list h. h ∙ same_exact c.args.pla.now pla c.fewer_rows_or_given-pla.ensures c.args.choice) answer
