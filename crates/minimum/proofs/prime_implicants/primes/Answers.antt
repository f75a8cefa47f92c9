use Rattle.std.proofs.Common.{◌++◌, ◌∙◌, ap, refl}
use Rattle.std.proofs.lemmas.Result.{IfOk-weaker}
use Rattle.cube.specs.Sum.{complete_sum}
use Rattle.cover.specs.Places.{places}
use Rattle.minimum.proofs.BothLists.{cubes_of, primes-together}
use Rattle.minimum.proofs.prime_implicants.primes.Goals as goal

pub returns : goal.returns
returns c =
    let sets = c.args.sets.now in
    IfOk-weaker c.complete_sum-2.result _ _
    (λ sum h. h ∙ ap (λ l. cubes_of l.size (complete_sum l.size (places l.cubes))) c.in_ok-on_and_dc.ensures
    ∙ ap (cubes_of sets.size) (primes-together sets (sets.on ++ sets.dc) refl))
    c.complete_sum-2.ensures
