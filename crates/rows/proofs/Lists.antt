-- Lists of references, and members that pass a test.
use Rattle.std.proofs.Common.{◌≡◌, ℕ, zero, suc, ◌+◌, ◌<◌, Bool, true, ◌||◌, List, [], ◌∷◌, ◌++◌, length, take, get_or, All, ap, sym, subst, ◌∙◌, arith, inl, inr, ◌⊎◌}
use Rattle.std.specs.List.{Contains, list_any}
use Rattle.std.specs.Borrow.{Bor}
use Rattle.std.proofs.lemmas.Bool.{cases_Bool, false≢true, or_left, or_right}
use Rattle.std.proofs.lemmas.List.{take_more, get_or_default, get_or-map, length-map, map-append}
use Rattle.std.proofs.lemmas.List.Elements.{Contains-append_cases}
use Rattle.cube.specs.Size.{Size}
use Rattle.cube.specs.Cube.{Cube, HasSize, SameSize, IsCube}
use Rattle.cube.proofs.Members.{Contains-here, Contains-there, Contains-nil, Contains-cases}
use Rattle.rows.specs.Cubes.{AreCubes}
use Rattle.rows.specs.Places.{behind}

module _ {X : Type 0} where
  pub list_any_from : (p : X → Bool) (xs : List X) (x : X) → Contains xs x → p x ≡ true → list_any p xs ≡ true
  list_any_from p [] x h t = absurd (Contains-nil x h)
  list_any_from p (y ∷ ys) x h t = elim (Contains-cases y ys x h) [
    | inl e ↦ or_left (p y) (list_any p ys) (ap p e ∙ t)
    | inr there ↦ or_right (p y) (list_any p ys) (list_any_from p ys x there t)
  ]

  pub list_any_witness : (p : X → Bool) (xs : List X) → list_any p xs ≡ true → (x : X) × Contains xs x × (p x ≡ true)
  list_any_witness p [] h = absurd (false≢true h)
  list_any_witness p (y ∷ ys) h = elim (cases_Bool (p y)) [
    | inl on ↦ (y, Contains-here y ys, on)
    | inr off ↦
        let r = list_any_witness p ys (ap (λ b. b || list_any p ys) (sym off) ∙ h) in
        (r.0, Contains-there y ys r.0 r.1, r.2)
  ]

  pub all_members : (P : X → Type 0) (xs : List X) → All P xs → (x : X) → Contains xs x → P x
  all_members P xs all x h = subst P h.2 (all h.0 x h.1)

  pub members_all : (P : X → Type 0) (xs : List X) → ((x : X) → Contains xs x → P x) → All P xs
  members_all P xs each k d lt = each (get_or xs k d) (k, lt, get_or_default xs k (get_or xs k d) d lt)

pub length-behind : (rows : List (Bor Cube)) → length (behind rows) ≡ length rows
length-behind rows = length-map rows (λ r. r.now)

pub behind_at : (rows : List (Bor Cube)) (i : ℕ) (row : Bor Cube) → i < length rows → row ≡ get_or rows i row
    → get_or (behind rows) i row.now ≡ row.now
behind_at rows i row lt at = get_or-map (λ r. r.now) rows i row row.now lt ∙ ap (λ r. r.now) (sym at)

pub behind_member : (rows : List (Bor Cube)) (i : ℕ) (row : Bor Cube) → i < length rows → row ≡ get_or rows i row
    → Contains (behind rows) row.now
behind_member rows i row lt at = (i, omega (arith, length-behind rows), behind_at rows i row lt at)

-- a fact of each reference is one of each cube
pub behind_all : (P : Cube → Type 0) (rows : List (Bor Cube)) → All (λ r. P r.now) rows → (d : Cube) → Contains (behind rows) d → P d
behind_all P [] all d h = absurd (Contains-nil d h)
behind_all P (r ∷ rs) all d h = elim (Contains-cases r.now (behind rs) d h) [
  | inl e ↦ subst P e (all 0 r (omega arith))
  | inr there ↦ behind_all P rs (λ k e lt. all (suc k) e (omega arith)) d there
]

pub all_behind : (P : Cube → Type 0) (rows : List (Bor Cube)) → ((d : Cube) → Contains (behind rows) d → P d) → All (λ r. P r.now) rows
all_behind P [] each k d lt = absurd (omega arith)
all_behind P (r ∷ rs) each zero d lt = each r.now (Contains-here r.now (behind rs))
all_behind P (r ∷ rs) each (suc k) d lt = all_behind P rs (λ e h. each e (Contains-there r.now (behind rs) e h)) k d (omega arith)

-- one more reference
pub behind-more : (rows : List (Bor Cube)) (i : ℕ) (row : Bor Cube) → i < length rows → row ≡ get_or rows i row
    → behind (take (i + 1) rows) ≡ behind (take i rows) ++ row.now ∷ []
behind-more rows i row lt at =
    ap behind (take_more rows i row lt)
    ∙ map-append (λ r. r.now) (take i rows) (get_or rows i row ∷ [])
    ∙ ap (λ r. behind (take i rows) ++ r.now ∷ []) (sym at)

pub behind-more_cases : (rows : List (Bor Cube)) (i : ℕ) (row : Bor Cube) → i < length rows → row ≡ get_or rows i row
    → (d : Cube) → Contains (behind (take (i + 1) rows)) d → Contains (behind (take i rows)) d ⊎ (row.now ≡ d)
behind-more_cases rows i row lt at d h =
    elim (Contains-append_cases (behind (take i rows)) (row.now ∷ []) d (subst (λ l. Contains l d) (behind-more rows i row lt at) h)) [
      | inl before ↦ inl before
      | inr last ↦ elim (Contains-cases row.now [] d last) [
        | inl e ↦ inr e
        | inr none' ↦ absurd (Contains-nil d none')
      ]
    ]

-- references to cubes of a size go with a cube of that size
pub sizes_of_cubes : (size : Size) (cubes : List Cube) → AreCubes size cubes → (references_to : List (Bor Cube)) → behind references_to ≡ cubes
    → (region : Cube) → HasSize region size → All (λ d. SameSize d.now region) references_to
sizes_of_cubes size cubes are references_to e region h =
    all_behind (λ d. SameSize d region) references_to (λ d member.
    let k = all_members (IsCube size) cubes are d (subst (λ l. Contains l d) e member) in
    (k.has_size.0 ∙ sym h.0, k.has_size.1 ∙ sym h.1))

pub lengths_of_cubes : (size : Size) (cubes : List Cube) → AreCubes size cubes → (references_to : List (Bor Cube)) → behind references_to ≡ cubes
    → (inputs : ℕ) → size.inputs ≡ inputs → All (λ d. length d.now.symbols ≡ inputs) references_to
lengths_of_cubes size cubes are references_to e inputs same =
    all_behind (λ d. length d.symbols ≡ inputs) references_to (λ d member.
    (all_members (IsCube size) cubes are d (subst (λ l. Contains l d) e member)).has_size.0 ∙ same)

-- references to cubes of a size have it
pub HasSize-references_to : (size : Size) (cubes : List Cube) → AreCubes size cubes → (references_to : List (Bor Cube)) → behind references_to ≡ cubes
    → All (λ d. HasSize d.now size) references_to
HasSize-references_to size cubes are references_to e =
    all_behind (λ d. HasSize d size) references_to (λ d member. (all_members (IsCube size) cubes are d (subst (λ l. Contains l d) e member)).has_size)
