-- Which of two covers comes first, computed.
use Rattle.std.specs.Prelude.{◌≡◌, [], ◌∷◌, refl}
use Rattle.std.specs.Cmp.Lexicographic.{slice_cmp}
use Rattle.std.specs.Ordering.{nat_cmp}
use Rattle.std.specs.declared.cmp.Ordering.TheVariants.{Greater}
use mathlib.Core.Logic.{inr}
use Rattle.covering.specs.Cover.{Precedes}

-- two covers of one length that count alike: the first in list order, and not either
first_of_equals : Precedes (λ c. 0) (0 ∷ 3 ∷ []) (1 ∷ 2 ∷ [])
first_of_equals = inr (refl, inr (refl, refl))

not_the_later : slice_cmp nat_cmp (1 ∷ 2 ∷ []) (0 ∷ 3 ∷ []) ≡ Greater
not_the_later = refl
