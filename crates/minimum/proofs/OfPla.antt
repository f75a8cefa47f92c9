-- The places of the ON-set with the DC-set under fr, by those that OFF alone holds.
use Rattle.std.proofs.Common.{◌≡◌, ◌∙◌, Bool, true, false, not, ◌&&◌, ◌||◌, List, [], ◌++◌, refl, ap, ap₂, sym, subst}
use Rattle.std.proofs.Math.Bool.{not-not}
use Rattle.std.specs.List.{Contains}
use Rattle.cube.specs.Cube.{Cube, Place, IsCube, IsPlace, difference}
use Rattle.cube.specs.Sum.{complete_sum}
use Rattle.cube.proofs.SumLemmas.{Contains-complete_sum}
use Rattle.cover.specs.Cubes.{Cubes}
use Rattle.cover.specs.Places.{places}
use Rattle.cover.proofs.OffSets.{places-sum}
use Rattle.cover.proofs.SumEnds.{complete_sum-agree}
use Rattle.cover.proofs.SumMeets.{places-append}
use Rattle.pla.specs.declared.file_type.FileType.TheVariants.{Fr}
use Rattle.pla.specs.Completed.{dc_list, off_list, outside, sets_of}
use Rattle.pla.specs.Description.{Description}
use Rattle.pla.specs.Sets.{SetLists}
use Rattle.minimum.specs.declared.points.source.Source.{Source}
use Rattle.minimum.specs.declared.points.source.Source.TheVariants.{Outside}
use Rattle.minimum.specs.Primes.{care_on}
use Rattle.minimum.specs.Points.{IsSource, StandsFor, lists_of, source_primes, source_size}
use Rattle.minimum.specs.Blocking.{IsSampled}

-- outside what OFF alone holds: on, or neither
outside_alone : (n o : Bool) → not (o && not n) ≡ (n || not (n || o))
outside_alone true true = refl
outside_alone true false = refl
outside_alone false true = refl
outside_alone false false = refl

module _ (d : Description) (alone : List Cube) (is : (p : Place) → IsPlace d.size p → places alone p ≡ difference (places d.off) (places d.on) p) where
  outside_place : (p : Place) → IsPlace d.size p → not (places alone p) ≡ (places d.on p || places (dc_list Fr true d) p)
  outside_place p place =
      ap not (is p place) ∙ outside_alone (places d.on p) (places d.off p)
      ∙ ap (λ x. places d.on p || not x) (sym (places-append d.on d.off p))
      ∙ ap (λ x. places d.on p || x) (sym (places-sum d.size (λ q. not (places (d.on ++ d.off) q)) p place))

  pub primes-outside : complete_sum d.size (λ p. not (places alone p)) ≡ complete_sum d.size (λ p. places d.on p || places (dc_list Fr true d) p)
  primes-outside = complete_sum-agree d.size (λ p. not (places alone p)) (λ p. places d.on p || places (dc_list Fr true d) p) outside_place

-- the same by cubes of the places that neither list holds
module _ (d : Description) (open' : List Cube) (is : (p : Place) → IsPlace d.size p → places open' p ≡ not (places d.on p || places d.off p)) where
  pub primes-with_open : complete_sum d.size (places (d.on ++ open')) ≡ complete_sum d.size (λ p. places d.on p || places (dc_list Fr true d) p)
  primes-with_open = complete_sum-agree d.size (places (d.on ++ open')) (λ p. places d.on p || places (dc_list Fr true d) p)
      (λ p place.
      places-append d.on open' p
      ∙ ap (λ x. places d.on p || x) (is p place ∙ ap not (sym (places-append d.on d.off p)) ∙ sym (places-sum d.size (λ q. not (places (d.on ++ d.off) q)) p place)))

-- ---- the samples alone

-- the lists with what neither of them holds for a DC list
abbrev pub with_open : SetLists → SetLists
with_open sets = record sets { dc = outside sets.size (sets.on ++ sets.off) }

still_wanted : (n o : Bool) → (n && not false) ≡ (n && not (not (n || o)))
still_wanted true o = refl
still_wanted false o = refl

module _ (given : SetLists) (none : given.dc ≡ []) where
  open_place : (p : Place) → IsPlace given.size p → places (outside given.size (given.on ++ given.off)) p ≡ not (places given.on p || places given.off p)
  open_place p place = places-sum given.size (λ q. not (places (given.on ++ given.off) q)) p place ∙ ap not (places-append given.on given.off p)

  wanted_place : (p : Place) → IsPlace given.size p → care_on given p ≡ care_on (with_open given) p
  wanted_place p place =
      ap (λ l. places given.on p && not (places l p)) none ∙ still_wanted (places given.on p) (places given.off p)
      ∙ ap (λ x. places given.on p && not x) (sym (open_place p place))

  valid_place : (alone : List Cube) (p : Place) → IsPlace given.size p → places alone p ≡ difference (places given.off) (places given.on) p
      → not (places alone p) ≡ (places given.on p || places (outside given.size (given.on ++ given.off)) p)
  valid_place alone p place is =
      ap not is ∙ outside_alone (places given.on p) (places given.off p) ∙ ap (λ x. places given.on p || x) (sym (open_place p place))

  pub stands_alone : (alone : Cubes) → alone.size ≡ given.size → ((p : Place) → IsPlace given.size p → places alone.cubes p ≡ difference (places given.off) (places given.on) p)
      → StandsFor (with_open given) given (Outside alone)
  stands_alone alone e is = record {
    size = refl;
    on = refl;
    wanted = wanted_place;
    primes = ap (λ z. complete_sum z (λ p. not (places alone.cubes p))) e
        ∙ complete_sum-agree given.size (λ p. not (places alone.cubes p)) (λ p. places given.on p || places (outside given.size (given.on ++ given.off)) p)
        (λ p place. valid_place alone.cubes p place (is p place));
  }

  pub sampled_alone : (alone : Cubes) (on : Cubes) → on ≡ record { size = given.size; cubes = given.on } → ((p : Place) → IsPlace given.size p → places alone.cubes p ≡ difference (places given.off) (places given.on) p)
      → IsSampled (with_open given) on alone
  sampled_alone alone on e is = record {
    size = ap (λ (l : Cubes). l.size) e;
    wanted = λ p place. ap (λ (l : Cubes). places l.cubes p) e ∙ all_wanted (places given.on p) ∙ ap (λ l. places given.on p && not (places l p)) (sym none) ∙ wanted_place p place;
    outside = λ p place. sym (not-not (places alone.cubes p)) ∙ ap not (valid_place alone.cubes p place (is p place));
  }
    where
      all_wanted : (n : Bool) → n ≡ (n && not false)
      all_wanted true = refl
      all_wanted false = refl

-- the lists of a description under fr
abbrev pub samples_of : Description → SetLists
samples_of d = record { size = d.size; on = d.on; dc = []; off = d.off }

-- an answer for the samples' lists is one for those of a description under fr
module _ (d : Description) (given : SetLists) (e : given ≡ record { size = d.size; on = d.on; dc = []; off = d.off }) (f : d.file_type ≡ Fr) where
  pub open_sets : with_open given ≡ sets_of d true true
  open_sets = ap with_open e ∙ ap (λ t. record { size = d.size; on = d.on; dc = dc_list t true d; off = off_list t true d }) (sym f)

-- the samples stand for the three sets, whatever source tells the same primes
module _ (d : Description) (off : Cubes) (f : d.file_type ≡ Fr) (e : off.size ≡ d.size) (is : (p : Place) → IsPlace d.size p → places off.cubes p ≡ difference (places d.off) (places d.on) p)
    (sets : SetLists) (s : sets ≡ sets_of d true true) (on dc : Cubes) (a : on ≡ record { size = d.size; cubes = d.on }) (b : dc ≡ record { size = d.size; cubes = [] }) where
  samples_alone : StandsFor sets (samples_of d) (Outside off)
  samples_alone = subst (λ z. StandsFor z (samples_of d) (Outside off)) (open_sets d (samples_of d) refl f ∙ sym s) (stands_alone (samples_of d) refl off e is)

  pub samples_stand : (source : Source) → source_primes source ≡ source_primes (Outside off) → StandsFor sets (lists_of on dc) source
  samples_stand source same = record {
    size = ap (λ (l : Cubes). l.size) a ∙ samples_alone.size;
    on = samples_alone.on ∙ ap (λ (l : Cubes). l.cubes) (sym a);
    wanted = λ p place. ap₂ (λ (x y : Cubes). places x.cubes p && not (places y.cubes p)) a b ∙ samples_alone.wanted p place;
    primes = same ∙ samples_alone.primes;
  }

  pub samples_source : (source : Source) → source_size source ≡ off.size → source_primes source ≡ source_primes (Outside off) → IsSource on.size source
  samples_source source sized same = record {
    sized = sized ∙ e ∙ ap (λ (l : Cubes). l.size) (sym a);
    cubes = λ c h. subst (λ z. IsCube z c) (e ∙ ap (λ (l : Cubes). l.size) (sym a)) ((Contains-complete_sum off.size (λ p. not (places off.cubes p)) c).0 (subst (λ l. Contains l c) same h)).is_cube;
  }
