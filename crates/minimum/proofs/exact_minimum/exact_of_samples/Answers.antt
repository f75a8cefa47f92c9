use Rattle.std.proofs.Common.{◌≡◌, ◌∙◌, [], refl, ap, sym}
use Rattle.cube.specs.Size.{Size}
use Rattle.cube.specs.Cube.{Place, IsPlace, difference}
use Rattle.cover.specs.Cubes.{Cubes}
use Rattle.cover.specs.Places.{places}
use Rattle.minimum.specs.declared.points.source.Source.TheVariants.{Outside, Primes}
use Rattle.minimum.specs.Primes.{primes_of}
use Rattle.minimum.proofs.BothLists.{cubes_of}
use Rattle.minimum.proofs.OfPla.{samples_source, samples_stand}
use Rattle.minimum.proofs.PrimeSources.{places_same}
use Rattle.minimum.proofs.exact_minimum.exact_of_samples.Goals as goal

abbrev no_cubes : Size → Cubes
no_cubes z = record { size = z; cubes = [] }

pub exact_by_points-requires : goal.exact_by_points-requires
exact_by_points-requires g c =
    let d = c.args.pla.now in
    let off = c.in_ok-large_first.field-0 in
    let size = c.in_ok-large_first.ensures.size ∙ c.requires.1.1.0 in
    let outside : (p : Place) → IsPlace d.size p → places off.cubes p ≡ difference (places d.off) (places d.on) p =
    λ p place. places_same c.args.off.cubes off.cubes c.in_ok-large_first.ensures.cubes p ∙ c.requires.1.1.1 p place in
    let none = c.new-none.ensures ∙ ap no_cubes c.shape.ensures in
    let on_size = ap (λ (l : Cubes). l.size) c.on.ensures in (
      ap (λ (l : Cubes). l.size) none ∙ sym on_size,
      (
        samples_source d off c.requires.1.0 size outside g.sets c.requires.0 c.on.result.now c.new-none.result c.on.ensures none (Outside off) refl refl,
        samples_stand d off c.requires.1.0 size outside g.sets c.requires.0 c.on.result.now c.new-none.result c.on.ensures none (Outside off) refl,
      ),
    )

pub exact_by_primes-requires : goal.exact_by_primes-requires
exact_by_primes-requires g c =
    let d = c.args.pla.now in
    let off = c.in_ok-large_first.field-0 in
    let size = c.in_ok-large_first.ensures.size ∙ c.requires.1.1.0 in
    let outside : (p : Place) → IsPlace d.size p → places off.cubes p ≡ difference (places d.off) (places d.on) p =
    λ p place. places_same c.args.off.cubes off.cubes c.in_ok-large_first.ensures.cubes p ∙ c.requires.1.1.1 p place in
    let none = c.new-none.ensures ∙ ap no_cubes c.shape.ensures in
    let on_size = ap (λ (l : Cubes). l.size) c.on-2.ensures in
    let stands = samples_stand d off c.requires.1.0 size outside g.sets c.requires.0 c.on-2.result.now c.new-none.result c.on-2.ensures none in
    let primes = c.in_ok-primes.primes in
    let all : primes ≡ cubes_of d.size (primes_of g.sets) = c.in_ok-primes.ensures ∙ ap (λ s. cubes_of d.size (primes_of s)) (sym c.requires.0) in
    let same = ap (λ (l : Cubes). l.cubes) all ∙ sym (stands (Outside off) refl).primes in (
      ap (λ (l : Cubes). l.size) none ∙ sym on_size,
      (
        samples_source d off c.requires.1.0 size outside g.sets c.requires.0 c.on-2.result.now c.new-none.result c.on-2.ensures none (Primes primes) (ap (λ (l : Cubes). l.size) all ∙ sym size) same,
        stands (Primes primes) same,
      ),
    )

pub primes_under_fr-requires-clause-places : goal.primes_under_fr-requires-clause-places
primes_under_fr-requires-clause-places g c p place =
    let off = c.in_ok-large_first.field-0 in
    ap (λ (l : Cubes). places l.cubes p) c.list.ensures ∙ places_same c.args.off.cubes off.cubes c.in_ok-large_first.ensures.cubes p ∙ c.requires.1.1.1 p place
