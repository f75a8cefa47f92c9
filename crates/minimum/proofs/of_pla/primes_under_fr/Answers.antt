use Rattle.std.proofs.Common.{◌≡◌, ◌∙◌, true, not, ◌||◌, ◌++◌, List, ap, ap₂, sym, subst}
use Rattle.std.proofs.lemmas.Result.{IfOk-weaker}
use Rattle.cube.specs.Size.{Size}
use Rattle.cube.specs.Cube.{Cube}
use Rattle.cube.specs.Sum.{complete_sum}
use Rattle.cover.specs.Cubes.{Cubes}
use Rattle.cover.specs.Places.{places}
use Rattle.pla.specs.Completed.{dc_list}
use Rattle.minimum.proofs.BothLists.{cubes_of}
use Rattle.minimum.proofs.OfPla.{primes-outside, primes-with_open}
use Rattle.minimum.proofs.of_pla.primes_under_fr.Goals as goal

pub returns-in_default : goal.returns-in_default
returns-in_default c =
    let pla = c.args.pla.now in
    let alone = c.args.off.now in
    let outside : Size → Cubes = λ n. cubes_of n (complete_sum n (λ p. not (places alone.cubes p))) in
    IfOk-weaker c.complement.result _ _
    (λ list h.
    subst (λ type. list ≡ cubes_of pla.size (complete_sum pla.size (λ p. places pla.on p || places (dc_list type true pla) p))) (sym c.requires.file_type)
    (h ∙ ap outside c.requires.size ∙ ap (cubes_of pla.size) (primes-outside pla alone.cubes c.requires.places)))
    c.complement.ensures

pub returns : goal.returns
returns c =
    let pla = c.args.pla.now in
    let dc = c.in-Some.dc in
    let few = rw c.in-Some.is at c.in_ok-dc.ensures in
    let on = c.in_ok-valid.ensures ∙ c.on.ensures in
    let sum : Size → List Cube → Cubes = λ n l. cubes_of n (complete_sum n (places l)) in
    IfOk-weaker c.complete_sum.result _ _
    (λ list h.
    subst (λ type. list ≡ cubes_of pla.size (complete_sum pla.size (λ p. places pla.on p || places (dc_list type true pla) p))) (sym c.requires.file_type)
    (h ∙ ap₂ sum (c.in_ok-append.ensures.size ∙ ap (λ l. l.size) on) (c.in_ok-append.ensures.ok ∙ ap (λ l. l.cubes ++ dc.cubes) on) ∙ ap (cubes_of pla.size) (primes-with_open pla dc.cubes few.places)))
    c.complete_sum.ensures
