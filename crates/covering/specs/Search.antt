-- What a search within a cutoff answers.
use Rattle.std.specs.Prelude.{◌≡◌, ℕ, ◌<◌, ◌≤◌, ◌+◌, ◌⊎◌, Bool, true, false, ◌==◌, List, length, map, filter, slice_index_or, Option, Some, None, Vec}
use Rattle.std.specs.Option.{option_map}
use Rattle.covering.specs.declared.bound.Cutoff.{Cutoff}
use Rattle.covering.specs.declared.choice.Choice.{Choice}
use Rattle.covering.specs.declared.choice.Choice.TheVariants.{Literals}
use Rattle.covering.specs.declared.in_order.Partial.{Partial}
use Rattle.covering.specs.declared.search.Outcome.{Outcome}
use Rattle.covering.specs.declared.search.Outcome.TheVariants.{Answer, Rest}
use Rattle.covering.specs.Table.{Table, has}
use Rattle.covering.specs.Cover.{IsCover, IsLeast, counted, sum_over}

-- more than so many columns, or columns that count more
abbrev pub IsBeyond : (ℕ → ℕ) → ℕ → ℕ → List ℕ → Type 0
IsBeyond count k w x = (k < length x) ⊎ (w < sum_over count x)

-- no cover has so few columns that count so little
abbrev pub NoneWithin : Choice → Table → ℕ → ℕ → Type 0
NoneWithin choice t k w = (x : List ℕ) → IsCover t x → IsBeyond (counted choice t.weights) k w x

-- every cover has at least k columns, and if it has k they count at least w
abbrev pub NoneBelow : Choice → Table → ℕ → ℕ → Type 0
NoneBelow choice t k w = (x : List ℕ) → IsCover t x → (k < length x)
    ⊎ ((length x ≡ k) × (w ≤ sum_over (counted choice t.weights) x))

-- a cover within the cutoff
pub record IsAnswer (choice : Choice) (t : Table) (k w : ℕ) (s : List ℕ) : Type 0 where
  pub cover : IsCover t s
  pub fits : length s ≤ k
  pub counts : sum_over (counted choice t.weights) s ≤ w

-- a cover within the cutoff, or none because there is none
abbrev pub Answers : Choice → Table → ℕ → ℕ → Option (List ℕ) → Type 0
Answers choice t k w None = NoneWithin choice t k w
Answers choice t k w (Some s) = IsAnswer choice t k w s

-- the same, of the list that a search within a cutoff gives
abbrev pub AnswersWithin : {Z : Type 0} → Choice → Table → Cutoff → Option (Vec ℕ Z) → Type 0
AnswersWithin choice t cutoff found =
    Answers choice t cutoff.columns cutoff.cost (option_map (λ v. v.items) found)

-- what is answered for the second table is right for the first
abbrev pub Leads : Choice → ℕ → ℕ → Table → Table → Type 0
Leads choice k w t u = (o : Option (List ℕ)) → Answers choice u k w o → Answers choice t k w o

-- every cover with the column is beyond the cutoff
abbrev pub IsOutside : Choice → Table → ℕ → ℕ → ℕ → Type 0
IsOutside choice t k w c = (x : List ℕ) → IsCover t x → has c x ≡ true
    → IsBeyond (counted choice t.weights) k w x

-- the table with no columns left but those that the test passes
abbrev pub keep_columns : (ℕ → Bool) → Table → Table
keep_columns test t = record {
  columns = t.columns;
  taken = t.taken;
  live = filter test t.live;
  rows = map (filter test) t.rows;
  weights = t.weights;
}

-- whether the row has no column
abbrev pub is_blank : List ℕ → Bool
is_blank row = length row == 0

-- whether the place has a mark
abbrev pub marked : List Bool → ℕ → Bool
marked marks c = slice_index_or marks c false

-- a table in which to search instead, with no more live columns
pub record IsPruned (choice : Choice) (k w : ℕ) (t u : Table) : Type 0 where
  pub leads : Leads choice k w t u
  pub live : length u.live ≤ length t.live

-- what a branch shows: an answer, or a table with fewer live columns, in which to search instead
abbrev pub IsOutcome : Choice → Table → Cutoff → Outcome → Type 0
IsOutcome choice t cutoff (Answer found) = AnswersWithin choice t cutoff found
IsOutcome choice t cutoff (Rest u) = IsPruned choice cutoff.columns cutoff.cost t u
    × (length u.live < length t.live)

-- no cover goes without the column
abbrev pub IsForced : Table → ℕ → Type 0
IsForced t c = (x : List ℕ) → IsCover t x → has c x ≡ true

-- every cover has more columns, or as many literals
abbrev pub IsFewest : Table → ℕ → ℕ → Type 0
IsFewest t k w = (x : List ℕ) → IsCover t x → (k < length x)
    ⊎ (w ≤ sum_over (counted Literals t.weights) x)

-- a cover of no more columns with fewer literals
pub record HasFewer (t : Table) (k w : ℕ) (s : List ℕ) : Type 0 where
  pub cover : IsCover t s
  pub fits : length s ≤ k
  pub fewer : sum_over (counted Literals t.weights) s < w

-- a cover of the least length that counts the least among those
pub record IsBest (choice : Choice) (t : Table) (s : List ℕ) : Type 0 where
  pub cover : IsCover t s
  pub none : NoneBelow choice t (length s) (sum_over (counted choice t.weights) s)

-- for each cover there is one without unmarked live columns which is no longer and counts no more
abbrev pub IsServed : Choice → Table → List Bool → Type 0
IsServed choice t keep = (x : List ℕ) → IsCover t x → (y : List ℕ) × IsCover t y
    × ((c : ℕ) → has c y ≡ true → has c t.live ≡ true → marked keep c ≡ true)
    × (length y ≤ length x) × (sum_over (counted choice t.weights) y
    ≤ sum_over (counted choice t.weights) x)

-- a table in which to search instead, whatever the cutoff, with no more live columns
pub record IsWeaklyReduced (choice : Choice) (t u : Table) : Type 0 where
  pub leads : (k w : ℕ) → Leads choice k w t u
  pub live : length u.live ≤ length t.live

-- such a table with fewer rows or live columns
pub record IsWeakStep (choice : Choice) (t u : Table) : Type 0 where
  pub is : IsWeaklyReduced choice t u
  pub smaller : length u.live + length u.rows < length t.live + length t.rows

-- a cover within a cutoff below which there is none
pub record IsPartial (choice : Choice) (k w : ℕ) (t : Table) (s : List ℕ) : Type 0 where
  pub none : NoneBelow choice t k w
  pub witness : IsAnswer choice t k w s

-- the same, of a partial solution and its witness
abbrev pub IsPartialWithin : Choice → Cutoff → Partial → Type 0
IsPartialWithin choice cutoff p =
    IsPartial choice cutoff.columns cutoff.cost p.table p.witness.items

-- what is least in the second table is least in the first, which has all its live columns
pub record Continues (choice : Choice) (t u : Table) : Type 0 where
  pub least : (x : List ℕ) → IsLeast choice u x → IsLeast choice t x
  pub live : (c : ℕ) → has c u.live ≡ true → has c t.live ≡ true
