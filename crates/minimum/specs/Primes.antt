-- The primes of three lists, the essential ones among them, and the least cover by primes.
use Rattle.std.specs.Prelude.{◌≡◌, ℕ, Bool, true, not, ◌||◌, List, [], ◌∷◌, ◌++◌, map, length, slice_get, refl}
use Rattle.std.specs.List.{filter, filter_map, range_with_len, reduce}
use Rattle.std.specs.Option.{unwrap_or}
use Rattle.std.specs.Ordering.{ordering_then, nat_cmp, is_eq, min_by_ordering}
use Rattle.std.specs.Cmp.Lexicographic.{slice_cmp}
use Rattle.std.specs.declared.cmp.Ordering.{Ordering}
use Rattle.cube.specs.declared.symbol.Symbol.TheVariants.{Dash, Zero, One}
use Rattle.cube.specs.Cube.{Cube, Place, holds, intersection, difference, literals}
use Rattle.cube.specs.Order.{row_cmp}
use Rattle.cube.specs.Sum.{complete_sum, is_subset}
use Rattle.cover.specs.Places.{places}
use Rattle.pla.specs.Sets.{SetLists}
use Rattle.covering.specs.declared.choice.Choice.{Choice}
use Rattle.covering.specs.declared.choice.Choice.TheVariants.{First}
use Rattle.covering.specs.Cover.{counted, sum_over}

-- the complete sum of the ON-set with the DC-set
abbrev pub primes_of : SetLists → List Cube
primes_of sets = complete_sum sets.size (λ p. places sets.on p || places sets.dc p)

-- the wanted places, which a cover has to hold: the ON-set without the DC-set
abbrev pub care_on : SetLists → Place → Bool
care_on sets = difference (places sets.on) (places sets.dc)

-- the cubes of a list other than c
abbrev pub others : Cube → List Cube → List Cube
others c cubes = filter (λ d. not (is_eq (row_cmp d c))) cubes

-- whether c holds a wanted place that no other of the primes holds
abbrev pub is_essential : SetLists → List Cube → Cube → Bool
is_essential sets primes c = not (is_subset sets.size (intersection (care_on sets) (holds c))
    (places (others c primes)))

-- the essential ones among the primes, in their order
abbrev pub essential_of : SetLists → List Cube → List Cube
essential_of sets primes = filter (is_essential sets primes) primes

-- the cubes with these numbers
abbrev pub chosen : List Cube → List ℕ → List Cube
chosen cubes numbers = filter_map (slice_get cubes) numbers

-- whether the primes with these numbers hold each wanted place
abbrev pub is_prime_cover : SetLists → List ℕ → Bool
is_prime_cover sets numbers = is_subset sets.size (care_on sets)
    (places (chosen (primes_of sets) numbers))

-- the lists that are left if any of the numbers are left out
abbrev pub sublists : List ℕ → List (List ℕ)
sublists [] = [] ∷ []
sublists (x ∷ xs) = map (λ s. x ∷ s) (sublists xs) ++ sublists xs

-- the covers by primes, as rising lists of their numbers
abbrev pub prime_covers : SetLists → List (List ℕ)
prime_covers sets = filter (is_prime_cover sets)
    (sublists (range_with_len 0 (length (primes_of sets))))

-- covers compare by their length, then by what they count, and then number by number
abbrev pub cover_cmp : (ℕ → ℕ) → List ℕ → List ℕ → Ordering
cover_cmp count s x = ordering_then (nat_cmp (length s) (length x))
    (ordering_then (nat_cmp (sum_over count s) (sum_over count x)) (slice_cmp nat_cmp s x))

-- what the number of a prime counts under a choice: nothing, or the prime's literals
abbrev pub prime_count : Choice → SetLists → ℕ → ℕ
prime_count choice sets = counted choice (map literals (primes_of sets))

-- the least cover by primes; there always is one, since all primes are a cover, so that `[]` stands
-- for nothing
abbrev pub least_prime_cover : Choice → SetLists → List ℕ
least_prime_cover choice sets = unwrap_or
    (reduce (λ s x. min_by_ordering (cover_cmp (prime_count choice sets) s x) s x)
    (prime_covers sets)) []

-- its cubes, in row order
abbrev pub exact_of : Choice → SetLists → List Cube
exact_of choice sets = chosen (primes_of sets) (least_prime_cover choice sets)

-- `11` in the ON-set with `01` and `10` in the DC-set
abbrev corner : SetLists
corner = record {
  size = record { inputs = 2; outputs = 1 };
  on = record { symbols = One ∷ One ∷ []; outputs = true ∷ [] } ∷ [];
  dc = record { symbols = Zero ∷ One ∷ []; outputs = true ∷ [] }
      ∷ record { symbols = One ∷ Zero ∷ []; outputs = true ∷ [] } ∷ [];
  off = [];
}

-- has the primes `-1` and `1-`, of which none is essential and the first is the least cover
example_essential : essential_of corner (primes_of corner) ≡ []
example_essential = refl

example_exact : exact_of First corner ≡ record { symbols = Dash ∷ One ∷ []; outputs = true ∷ [] }
    ∷ []
example_exact = refl
