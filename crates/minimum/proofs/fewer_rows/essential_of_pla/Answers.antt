use Rattle.std.proofs.Common.{◌≡◌, ◌∙◌, subst}
use Rattle.std.specs.Prelude.{IfOk}
use Rattle.std.proofs.lemmas.Result.{IfOk-weaker}
use Rattle.minimum.specs.Primes.{essential_of, primes_of}
use Rattle.minimum.proofs.SamePlaces.{same_essential}
use Rattle.minimum.proofs.fewer_rows.essential_of_pla.Goals as goal

pub returns-in-Some : goal.returns-in-Some
returns-in-Some c =
    let pla = c.fewer_rows_or_given-pla.result.now in
    IfOk-weaker c.essential_outside.result _ _ (λ list h. h ∙ same_essential c.args.pla.now pla c.fewer_rows_or_given-pla.ensures) c.essential_outside.ensures

pub returns : goal.returns
returns c =
    let pla = c.fewer_rows_or_given-pla.result.now in
    let answer = subst (λ sets. IfOk c.essential_of_sets.result (λ list. list ≡ record { size = sets.size; cubes = essential_of sets (primes_of sets) })) c.in_ok-sets-in-None.ensures c.essential_of_sets.ensures in
    IfOk-weaker c.essential_of_sets.result _ _ (λ list h. h ∙ same_essential c.args.pla.now pla c.fewer_rows_or_given-pla.ensures) answer
