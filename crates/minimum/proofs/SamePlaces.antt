-- Answers depend on places alone.
use Rattle.std.proofs.Common.{◌≡◌, ◌∙◌, ℕ, Bool, true, not, ◌||◌, List, [], ◌++◌, length, map, refl, ap, sym}
use Rattle.std.specs.List.{filter, range_with_len, reduce}
use Rattle.std.specs.Option.{unwrap_or}
use Rattle.std.specs.Ordering.{min_by_ordering}
use Rattle.std.proofs.Math.Path.{fun_ext}
use Rattle.cube.specs.Size.{Size}
use Rattle.cube.specs.Cube.{Cube, Place, difference, holds, intersection, literals}
use Rattle.cube.specs.Sum.{complete_sum, is_subset}
use Rattle.cover.specs.Cubes.{Cubes}
use Rattle.cover.specs.Places.{places}
use Rattle.cover.proofs.SumMeets.{places-append}
use Rattle.pla.specs.declared.file_type.FileType.{FileType}
use Rattle.pla.specs.declared.file_type.FileType.TheVariants.{F, Fd, Fr, Fdr}
use Rattle.pla.specs.Completed.{dc_list, dc_of, sets_of}
use Rattle.pla.specs.Description.{Description}
use Rattle.covering.specs.declared.choice.Choice.{Choice}
use Rattle.covering.specs.Cover.{counted}
use Rattle.minimum.specs.Primes.{chosen, cover_cmp, essential_of, exact_of, others, primes_of, sublists}
use Rattle.minimum.specs.SamePlaces.{HasSamePlaces}

-- ---- the answers for the places of ON and of DC

abbrev primes_by : Size → (Place → Bool) → (Place → Bool) → List Cube
primes_by size on dc = complete_sum size (λ p. on p || dc p)

abbrev essential_by : Size → (Place → Bool) → (Place → Bool) → List Cube
essential_by size on dc = filter (λ c. not (is_subset size (intersection (difference on dc) (holds c)) (places (others c (primes_by size on dc))))) (primes_by size on dc)

abbrev least_by : Choice → Size → (Place → Bool) → (Place → Bool) → List ℕ
least_by choice size on dc = unwrap_or
    (reduce (λ s x. min_by_ordering (cover_cmp (counted choice (map literals (primes_by size on dc))) s x) s x)
    (filter (λ numbers. is_subset size (difference on dc) (places (chosen (primes_by size on dc) numbers)))
    (sublists (range_with_len 0 (length (primes_by size on dc)))))) []

-- neither in ON nor in OFF
abbrev open_of : Description → Place → Bool
open_of d p = not (places (d.on ++ d.off) p)

-- a description has its own places
pub same_alone : (d : Description) → HasSamePlaces d d
same_alone d = record { size = refl; file_type = refl; on = λ p. refl; dc = λ p. refl; off = λ p. refl }

module _ (d e : Description) (same : HasSamePlaces d e) where
  neither : open_of e ≡ open_of d
  neither = fun_ext (λ p. ap not (
      places-append e.on e.off p ∙ ap (λ x. x || places e.off p) (same.on p) ∙ ap (λ x. places d.on p || x) (same.off p) ∙ sym (places-append d.on d.off p)
      ))

  dc_by_type : (t : FileType) → places (dc_of t e) ≡ places (dc_of t d)
  dc_by_type F = refl
  dc_by_type Fd = fun_ext same.dc
  dc_by_type Fr = ap (λ (s : Place → Bool). places (complete_sum e.size s)) neither ∙ ap (λ (z : Size). places (complete_sum z (open_of d))) same.size
  dc_by_type Fdr = fun_ext same.dc

  dc_is : places (dc_list e.file_type true e) ≡ places (dc_list d.file_type true d)
  dc_is = dc_by_type e.file_type ∙ ap (λ (t : FileType). places (dc_of t d)) same.file_type

  by_places : {X : Type 0} (answer : Size → (Place → Bool) → (Place → Bool) → X)
      → answer e.size (places e.on) (places (dc_list e.file_type true e)) ≡ answer d.size (places d.on) (places (dc_list d.file_type true d))
  by_places answer =
      ap (λ (z : Size). answer z (places e.on) (places (dc_list e.file_type true e))) same.size
      ∙ ap (λ (s : Place → Bool). answer d.size s (places (dc_list e.file_type true e))) (fun_ext same.on)
      ∙ ap (λ (s : Place → Bool). answer d.size (places d.on) s) dc_is

  pub same_primes : (let list : Cubes = record { size = e.size; cubes = primes_of (sets_of e true true) } in list) ≡ record { size = d.size; cubes = primes_of (sets_of d true true) }
  same_primes = by_places (λ size on dc. let list : Cubes = record { size = size; cubes = primes_by size on dc } in list)

  pub same_essential : (let list : Cubes = record { size = e.size; cubes = essential_of (sets_of e true true) (primes_of (sets_of e true true)) } in list)
      ≡ record { size = d.size; cubes = essential_of (sets_of d true true) (primes_of (sets_of d true true)) }
  same_essential = by_places (λ size on dc. let list : Cubes = record { size = size; cubes = essential_by size on dc } in list)

  pub same_exact : (choice : Choice) → (let list : Cubes = record { size = e.size; cubes = exact_of choice (sets_of e true true) } in list) ≡ record { size = d.size; cubes = exact_of choice (sets_of d true true) }
  same_exact choice = by_places (λ size on dc. let list : Cubes = record { size = size; cubes = chosen (primes_by size on dc) (least_by choice size on dc) } in list)
