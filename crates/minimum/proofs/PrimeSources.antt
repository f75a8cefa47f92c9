-- Sources of the primes of three lists.
use Rattle.std.proofs.Common.{◌≡◌, ℕ, not, ◌||◌, List, [], ◌∷◌, inl, inr, refl, ap, sym, subst, ◌∙◌}
use Rattle.std.proofs.lemmas.Bool.{cases_Bool, both_ways}
use Rattle.std.proofs.Math.Bool.{not-not}
use Rattle.std.specs.List.{Contains, AllByRecursion}
use Rattle.cube.specs.Size.{Size}
use Rattle.cube.specs.Cube.{Cube, Place, holds, IsCube, IsPlace}
use Rattle.cube.specs.Sum.{complete_sum}
use Rattle.cube.proofs.SumLemmas.{Contains-complete_sum}
use Rattle.cover.specs.Cubes.{AreCubes, Cubes}
use Rattle.cover.specs.Places.{places}
use Rattle.cover.specs.Reduced.{HasSameCubes}
use Rattle.cover.proofs.Lists.{list_any_from, list_any_witness}
use Rattle.cover.proofs.SumEnds.{complete_sum-agree}
use Rattle.pla.specs.Sets.{SetLists}
use Rattle.minimum.specs.declared.points.source.Source.TheVariants.{Outside, Primes}
use Rattle.minimum.specs.Primes.{primes_of}
use Rattle.minimum.specs.declared.points.source.Source.{Source}
use Rattle.minimum.specs.Points.{IsSource, StandsFor, lists_of}
use Rattle.covering.specs.Table.{Table}
use Rattle.minimum.specs.PrimeRows.{AreEnough, AreRowsOf, IsDemand}
use Rattle.minimum.specs.PrimeTable.{HasPrimeColumns, HasPrimeCovers}
use Rattle.minimum.proofs.BothLists.{cubes_of}
use Rattle.minimum.proofs.PickedPoints.{wanted_by, wanted_given, wanted_sets}
use Rattle.minimum.proofs.PrimeTables.{enough}

-- lists of the same cubes hold the same places
pub places_same : (xs ys : List Cube) → HasSameCubes xs ys → (p : Place) → places ys p ≡ places xs p
places_same xs ys same p = elim (cases_Bool (places xs p)) [
  | inl e ↦ let w = list_any_witness (λ c. holds c p) xs e in list_any_from (λ c. holds c p) ys w.0 ((same w.0).0 w.1) w.2 ∙ sym e
  | inr e ↦ elim (cases_Bool (places ys p)) [
    | inl f ↦ let w = list_any_witness (λ c. holds c p) ys f in absurd (both_ways (places xs p) e (list_any_from (λ c. holds c p) xs w.0 ((same w.0).1 w.1) w.2))
    | inr f ↦ f ∙ sym e
  ]
]

module _ (sets : SetLists) (off : Cubes) (e : off.size ≡ sets.size) where
  pub source_outside : IsSource sets.size (Outside off)
  source_outside = record {
    sized = e;
    cubes = λ c h. subst (λ z. IsCube z c) e ((Contains-complete_sum off.size (λ p. not (places off.cubes p)) c).0 h).is_cube;
  }

  pub stands_outside : ((p : Place) → IsPlace sets.size p → places off.cubes p ≡ not (places sets.on p || places sets.dc p)) → StandsFor sets sets (Outside off)
  stands_outside h = record {
    size = refl;
    on = refl;
    wanted = λ p place. refl;
    primes = ap (λ z. complete_sum z (λ p. not (places off.cubes p))) e
        ∙ complete_sum-agree sets.size (λ p. not (places off.cubes p)) (λ p. places sets.on p || places sets.dc p)
        (λ p place. ap not (h p place) ∙ not-not (places sets.on p || places sets.dc p));
  }

module _ (sets : SetLists) (list : Cubes) (e : list ≡ record { size = sets.size; cubes = primes_of sets }) where
  pub source_among : IsSource sets.size (Primes list)
  source_among = record {
    sized = ap (λ (l : Cubes). l.size) e;
    cubes = λ c h. ((Contains-complete_sum sets.size (λ p. places sets.on p || places sets.dc p) c).0 (subst (λ l. Contains l c) (ap (λ (l : Cubes). l.cubes) e) h)).is_cube;
  }

  pub stands_among : StandsFor sets sets (Primes list)
  stands_among = record { size = refl; on = refl; wanted = λ p place. refl; primes = ap (λ (l : Cubes). l.cubes) e }

-- what an ON list and a DC list decide, those of the sets decide
pub by_lists : {X : Type 0} (sets : SetLists) (on dc : Cubes) → on ≡ record { size = sets.size; cubes = sets.on } → dc ≡ record { size = sets.size; cubes = sets.dc } → (answer : Size → List Cube → List Cube → X) → answer on.size on.cubes dc.cubes ≡ answer sets.size sets.on sets.dc
by_lists sets on dc e f answer = ap (λ (l : Cubes). answer l.size l.cubes dc.cubes) e ∙ ap (λ (l : Cubes). answer sets.size sets.on l.cubes) f

-- the primes of two lists, as a list
abbrev pub listed_primes : Cubes → Cubes → Cubes
listed_primes on dc = record { size = on.size; cubes = primes_of (lists_of on dc) }

pub same_primes : (sets : SetLists) (on dc : Cubes) → on ≡ record { size = sets.size; cubes = sets.on } → dc ≡ record { size = sets.size; cubes = sets.dc } → cubes_of sets.size (primes_of sets) ≡ listed_primes on dc
same_primes sets on dc e f = sym (by_lists sets on dc e f (λ size on dc. cubes_of size (primes_of (record { size = size; on = on; dc = dc; off = [] }))))

-- a source that stands for three sets stands for their ON list and DC list alone
pub stands_given : (sets : SetLists) (on dc : Cubes) (source : Source) → on ≡ record { size = sets.size; cubes = sets.on } → dc ≡ record { size = sets.size; cubes = sets.dc } → StandsFor sets sets source → StandsFor sets (lists_of on dc) source
stands_given sets on dc source e f same = record {
  size = ap (λ (l : Cubes). l.size) e;
  on = ap (λ (l : Cubes). l.cubes) (sym e);
  wanted = λ p place. wanted_by sets on dc e f p;
  primes = same.primes;
}

-- ---- rows for the places that lists want which stand for three sets

module _ (sets given : SetLists) (primes : Cubes) (given_on : AreCubes given.size given.on) (same : StandsFor sets given (Primes primes)) where
  pub on_stands : AreCubes sets.size sets.on
  on_stands = subst (λ z. AreCubes z sets.on) same.size (subst (AreCubes given.size) (sym same.on) given_on)

  pub enough_stand : (list on dc : List Cube) → list ≡ primes.cubes → on ≡ given.on → dc ≡ given.dc → AreEnough list on dc
  enough_stand list on dc e f g = subst (AreEnough list on) (sym g) (subst (λ l. AreEnough list l given.dc) (sym f) (subst (λ l. AreEnough l given.on given.dc) (sym e)
      (λ p want. enough sets.size primes.cubes sets.on sets.dc same.primes on_stands p (wanted_sets sets given (Primes primes) on_stands given_on same p want))))

  demands_stand : (rows : List (List ℕ)) → AllByRecursion (IsDemand primes.cubes given.on given.dc) rows → AllByRecursion (IsDemand primes.cubes sets.on sets.dc) rows
  demands_stand [] d = tt
  demands_stand (r ∷ rows) d = (
    record {
      some = d.0.some;
      rises = d.0.rises;
      below = d.0.below;
      met = λ s holding. d.0.met s (λ p want. holding p (wanted_sets sets given (Primes primes) on_stands given_on same p want));
    },
    demands_stand rows d.1,
  )

  given_rows : (rows : List (List ℕ)) → AreRowsOf primes.cubes given.on given.dc rows → AreRowsOf (primes_of sets) sets.on sets.dc rows
  given_rows rows of = subst (λ l. AreRowsOf l sets.on sets.dc rows) same.primes (record {
    demands = demands_stand rows of.demands;
    has_rows = λ p region want. of.has_rows p region (wanted_given sets given (Primes primes) on_stands given_on same p want);
  })

  pub rows_stand : (list on dc : List Cube) (rows : List (List ℕ)) → list ≡ primes.cubes → on ≡ given.on → dc ≡ given.dc → AreRowsOf list on dc rows → AreRowsOf (primes_of sets) sets.on sets.dc rows
  rows_stand list on dc rows e f g of = given_rows rows (subst (λ l. AreRowsOf primes.cubes given.on l rows) g (subst (λ l. AreRowsOf primes.cubes l dc rows) f (subst (λ l. AreRowsOf l on dc rows) e of)))

-- a table of the primes of two lists is one of those of three sets
module _ (sets : SetLists) (on dc : Cubes) (e : on ≡ record { size = sets.size; cubes = sets.on }) (f : dc ≡ record { size = sets.size; cubes = sets.dc }) (t : Table) where
  pub columns_of_lists : HasPrimeColumns (lists_of on dc) t → HasPrimeColumns sets t
  columns_of_lists h =
      let k = subst (λ (y : Cubes). HasPrimeColumns (lists_of (record { size = sets.size; cubes = sets.on }) y) t) f (subst (λ (x : Cubes). HasPrimeColumns (lists_of x dc) t) e h) in
      record { columns = k.columns; taken = k.taken; live = k.live; weights = k.weights }

  pub covers_of_lists : HasPrimeCovers (lists_of on dc) t → HasPrimeCovers sets t
  covers_of_lists h s =
      let k = subst (λ (y : Cubes). HasPrimeCovers (lists_of (record { size = sets.size; cubes = sets.on }) y) t) f (subst (λ (x : Cubes). HasPrimeCovers (lists_of x dc) t) e h) in (
        λ cover. let c = (k s).0 cover in record { rises = c.rises; below = c.below; holds = c.holds },
        λ c. (k s).1 (record { rises = c.rises; below = c.below; holds = c.holds }),
      )
