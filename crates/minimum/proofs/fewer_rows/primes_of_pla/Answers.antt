use Rattle.std.proofs.Common.{◌≡◌, ◌∙◌, subst}
use Rattle.std.specs.Prelude.{IfOk}
use Rattle.std.proofs.lemmas.Result.{IfOk-weaker}
use Rattle.minimum.specs.Primes.{primes_of}
use Rattle.minimum.proofs.SamePlaces.{same_primes}
use Rattle.minimum.proofs.fewer_rows.primes_of_pla.Goals as goal

pub returns-in-Some : goal.returns-in-Some
returns-in-Some c =
    let pla = c.fewer_rows_or_given-pla.result.now in
    IfOk-weaker c.primes_under_fr.result _ _ (λ list h. h ∙ same_primes c.args.pla.now pla c.fewer_rows_or_given-pla.ensures)
    c.primes_under_fr.ensures

pub returns : goal.returns
returns c =
    let pla = c.fewer_rows_or_given-pla.result.now in
    let answer = subst (λ sets. IfOk c.primes.result (λ list. list ≡ record { size = sets.size; cubes = primes_of sets })) c.in_ok-sets-in-None.ensures c.primes.ensures in
    IfOk-weaker c.primes.result _ _ (λ list h. h ∙ same_primes c.args.pla.now pla c.fewer_rows_or_given-pla.ensures) answer
