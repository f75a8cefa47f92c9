-- A list without its contained cubes holds the places of the list.
use Rattle.std.proofs.Common.{◌≡◌, ◌⊎◌, true, not, ◌&&◌, cond, List, [], ◌∷◌, ◌++◌, inl, inr, sym, subst, ◌∙◌}
use Rattle.std.specs.Cmp.{both_ways as same_bool}
use Rattle.std.specs.List.{Contains, list_any}
use Rattle.std.proofs.lemmas.Bool.{cases_Bool, and_parts, or_cases, false≢true, not-true}
use Rattle.std.proofs.lemmas.List.Elements.{Contains-append_left, Contains-append_right, Contains-append_cases, Contains-push_cases}
use Rattle.cube.specs.Size.{Size}
use Rattle.cube.specs.Cube.{Cube, Place, holds, IsCube, IsSubset}
use Rattle.cube.proofs.Members.{Contains-here, Contains-there, Contains-cases, Contains-nil}
use Rattle.cube.proofs.SumLemmas.{IsSubset-from_test, is_subset-from_fact}
use Rattle.rows.specs.Contained.{is_within, is_contained, contained_after, contained}
use Rattle.rows.specs.Cubes.{AreCubes}
use Rattle.rows.specs.Places.{places}
use Rattle.rows.proofs.Lists.{all_members, list_any_from, list_any_witness}

module _ (size : Size) where
  -- a cube of the list contains the cube
  abbrev Over : List Cube → Cube → Type 0
  Over cubes c = (d : Cube) × Contains cubes d × IsSubset (holds c) (holds d)

  -- what is kept of the rest is of the rest
  kept_of : (earlier rest : List Cube) (c : Cube) → Contains (contained_after size earlier rest) c → Contains rest c
  kept_of earlier [] c h = h
  kept_of earlier (x ∷ later) c h = elim (cases_Bool (is_contained size earlier x later)) [
    | inl e ↦ Contains-there x later c (kept_of (earlier ++ x ∷ []) later c
        (subst (λ b. Contains (cond b (contained_after size (earlier ++ x ∷ []) later) (x ∷ contained_after size (earlier ++ x ∷ []) later)) c) e h))
    | inr e ↦ elim (Contains-cases x (contained_after size (earlier ++ x ∷ []) later) c
        (subst (λ b. Contains (cond b (contained_after size (earlier ++ x ∷ []) later) (x ∷ contained_after size (earlier ++ x ∷ []) later)) c) e h)) [
          | inl same ↦ subst (Contains (x ∷ later)) same (Contains-here x later)
          | inr k ↦ Contains-there x later c (kept_of (earlier ++ x ∷ []) later c k)
        ]
  ]

  over_within : (cubes : List Cube) (c x : Cube) → IsSubset (holds c) (holds x) → Over cubes x → Over cubes c
  over_within cubes c x sub over = (over.0, over.1, λ p held. over.2 p (sub p held))

  -- a cube over one of the rest is over it by the earlier ones, the first of the rest, or what is kept of the others
  module _ (earlier : List Cube) (x : Cube) (later : List Cube) (kept : List Cube) where
    without_first : (c : Cube) → Over ((earlier ++ x ∷ []) ++ kept) c → (IsSubset (holds c) (holds x)) ⊎ Over (earlier ++ kept) c
    without_first c over = elim (Contains-append_cases (earlier ++ x ∷ []) kept over.0 over.1) [
      | inl front ↦ elim (Contains-push_cases earlier x over.0 front) [
        | inl early ↦ inr (over.0, Contains-append_left earlier kept over.0 early, over.2)
        | inr is ↦ inl (subst (λ d. IsSubset (holds c) (holds d)) (sym is) over.2)
      ]
      | inr back ↦ inr (over.0, Contains-append_right earlier kept over.0 back, over.2)
    ]

    -- the first of the rest lies in an earlier one, or in a later one that is larger
    first_over : IsCube size x → ((d : Cube) → Contains later d → Over ((earlier ++ x ∷ []) ++ kept) d) → is_contained size earlier x later ≡ true → Over (earlier ++ kept) x
    first_over sized rest e = elim (or_cases (list_any (is_within size x) earlier) (list_any (λ d. is_within size x d && not (is_within size d x)) later) e) [
      | inl early ↦ let w = list_any_witness (is_within size x) earlier early in
          (w.0, Contains-append_left earlier kept w.0 w.1, IsSubset-from_test size x (holds w.0) sized.has_size w.2)
      | inr late ↦ let w = list_any_witness (λ d. is_within size x d && not (is_within size d x)) later late in
          let both = and_parts (is_within size x w.0) (not (is_within size w.0 x)) w.2 in
          elim (without_first w.0 (rest w.0 w.1)) [
            | inl back ↦ absurd (false≢true (sym (not-true (is_within size w.0 x) both.1) ∙ is_subset-from_fact size (holds w.0) (holds x) back))
            | inr over ↦ over_within (earlier ++ kept) x w.0 (IsSubset-from_test size x (holds w.0) sized.has_size both.0) over
          ]
    ]

    -- where the first is kept, or has one over it, so have the others
    others_over : (all : List Cube) → ((d : Cube) → Over (earlier ++ kept) d → Over all d) → Over all x → ((d : Cube) → Contains later d → Over ((earlier ++ x ∷ []) ++ kept) d)
        → (c : Cube) → Contains (x ∷ later) c → Over all c
    others_over all more first rest c h = elim (Contains-cases x later c h) [
      | inl same ↦ subst (Over all) same first
      | inr k ↦ elim (without_first c (rest c k)) [
        | inl sub ↦ over_within all c x sub first
        | inr over ↦ more c over
      ]
    ]

  kept_over : (earlier rest : List Cube) → ((d : Cube) → Contains rest d → IsCube size d) → (c : Cube) → Contains rest c → Over (earlier ++ contained_after size earlier rest) c
  kept_over earlier [] sized c h = absurd (Contains-nil c h)
  kept_over earlier (x ∷ later) sized c h =
      let kept = contained_after size (earlier ++ x ∷ []) later in
      let rest : (d : Cube) → Contains later d → Over ((earlier ++ x ∷ []) ++ kept) d = λ d k. kept_over (earlier ++ x ∷ []) later (λ e l. sized e (Contains-there x later e l)) d k in
      let first = first_over earlier x later kept (sized x (Contains-here x later)) rest in
      elim (cases_Bool (is_contained size earlier x later)) [
        | inl e ↦ subst (λ b. Over (earlier ++ cond b kept (x ∷ kept)) c) (sym e) (others_over earlier x later kept (earlier ++ kept) (λ d over. over) (first e) rest c h)
        | inr e ↦ subst (λ b. Over (earlier ++ cond b kept (x ∷ kept)) c) (sym e) (others_over earlier x later kept (earlier ++ x ∷ kept)
            (λ d over. elim (Contains-append_cases earlier kept over.0 over.1) [
              | inl early ↦ (over.0, Contains-append_left earlier (x ∷ kept) over.0 early, over.2)
              | inr late ↦ (over.0, Contains-append_right earlier (x ∷ kept) over.0 (Contains-there x kept over.0 late), over.2)
            ])
            (x, Contains-append_right earlier (x ∷ kept) x (Contains-here x kept), λ p held. held) rest c h)
      ]

  pub places-contained : (cubes : List Cube) → AreCubes size cubes → (p : Place) → places (contained size cubes) p ≡ places cubes p
  places-contained cubes are p =
      same_bool (places (contained size cubes) p) (places cubes p)
      (λ h. let w = list_any_witness (λ d. holds d p) (contained size cubes) h in list_any_from (λ d. holds d p) cubes w.0 (kept_of [] cubes w.0 w.1) w.2)
      (λ h.
      let w = list_any_witness (λ d. holds d p) cubes h in
      let over = kept_over [] cubes (λ d k. all_members (IsCube size) cubes are d k) w.0 w.1 in
      list_any_from (λ d. holds d p) (contained size cubes) over.0 over.1 (over.2 p w.2))
