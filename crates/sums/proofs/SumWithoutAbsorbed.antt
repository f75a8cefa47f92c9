-- A list without the cubes that lie in one of another list.
use Rattle.std.proofs.Common.{◌≡◌, ℕ, ◌+◌, ◌<◌, ◌≤◌, Bool, true, false, not, ◌&&◌, List, [], ◌∷◌, ◌++◌, length, take, get_or, refl, ap, sym, subst, ◌∙◌, inl, inr}
use Rattle.std.specs.List.{Contains}
use Rattle.std.proofs.lemmas.Bool.{cases_Bool, false≢true, or_parts, or_from}
use Rattle.std.proofs.lemmas.List.{take_more}
use Rattle.std.proofs.lemmas.List.Elements.{Contains-append_left, Contains-append_right, Contains-append_cases}
use Rattle.cube.specs.declared.symbol.Symbol.TheVariants.{Dash}
use Rattle.cube.specs.Size.{Size}
use Rattle.cube.specs.Cube.{Cube, Place, holds, IsCube, IsSubset, difference}
use Rattle.cube.specs.Sum.{complete_sum}
use Rattle.cube.proofs.Members.{Contains-nil, Contains-cases, list_any_none, list_any_false}
use Rattle.cube.proofs.SumLemmas.{complete_sum-same}
use Rattle.rows.specs.Cubes.{AreCubes}
use Rattle.rows.specs.Places.{places}
use Rattle.rows.specs.Marks.{is_symbol}
use Rattle.rows.specs.Parts.{has_literal, live}
use Rattle.rows.specs.Reduced.{IsWithoutAbsorbed}
use Rattle.rows.proofs.Lists.{all_members, members_all, list_any_from, list_any_witness}
use Rattle.rows.proofs.SumParts.{live-at_most}

pub IsWithoutAbsorbed-all : (cubes others : List Cube) → IsWithoutAbsorbed cubes others cubes
IsWithoutAbsorbed-all cubes others = record { within = λ c h. h; over = λ c h. inl h }

-- ---- the loop over the list

module _ (rows : List Cube) (i : ℕ) (row : Cube) (others kept : List Cube) (lt : i < length rows) (at : row ≡ get_or rows i row)
    (before : IsWithoutAbsorbed (take i rows) others kept) where
  more : take (i + 1) rows ≡ take i rows ++ row ∷ []
  more = take_more rows i row lt ∙ ap (λ c. take i rows ++ c ∷ []) (sym at)

  pub IsWithoutAbsorbed-kept : (new : List Cube) → new ≡ kept ++ row ∷ [] → IsWithoutAbsorbed (take (i + 1) rows) others new
  IsWithoutAbsorbed-kept new is =
      subst (IsWithoutAbsorbed (take (i + 1) rows) others) (sym is) (subst (λ l. IsWithoutAbsorbed l others (kept ++ row ∷ [])) (sym more) (record {
        within = λ c h. elim (Contains-append_cases kept (row ∷ []) c h) [
          | inl old ↦ Contains-append_left (take i rows) (row ∷ []) c (before.within c old)
          | inr new ↦ Contains-append_right (take i rows) (row ∷ []) c new
        ];
        over = λ c h. elim (Contains-append_cases (take i rows) (row ∷ []) c h) [
          | inl old ↦ elim (before.over c old) [
            | inl k ↦ inl (Contains-append_left kept (row ∷ []) c k)
            | inr d ↦ inr d
          ]
          | inr new ↦ inl (Contains-append_right kept (row ∷ []) c new)
        ];
      }))

  pub IsWithoutAbsorbed-left_out : (d : Cube) × Contains others d × IsSubset (holds row) (holds d) → IsWithoutAbsorbed (take (i + 1) rows) others kept
  IsWithoutAbsorbed-left_out cover =
      subst (λ l. IsWithoutAbsorbed l others kept) (sym more) (record {
        within = λ c h. Contains-append_left (take i rows) (row ∷ []) c (before.within c h);
        over = λ c h. elim (Contains-append_cases (take i rows) (row ∷ []) c h) [
          | inl old ↦ before.over c old
          | inr new ↦ elim (Contains-cases row [] c new) [
            | inl here ↦ inr (cover.0, cover.1, subst (λ z. IsSubset (holds z) (holds cover.0)) here cover.2)
            | inr there ↦ absurd (Contains-nil c there)
          ]
        ];
      })

-- ---- what is left

module _ (cubes others kept : List Cube) (left : IsWithoutAbsorbed cubes others kept) where
  pub has_literal-without_absorbed : (k : ℕ) → has_literal k cubes ≡ false → has_literal k kept ≡ false
  has_literal-without_absorbed k h =
      let test = λ (c : Cube). not (is_symbol Dash (get_or c.symbols k Dash)) in
      list_any_false test kept (λ c m t. list_any_none test cubes c h (left.within c m) t)

  pub live-without_absorbed : (n : ℕ) → live n kept others ≤ live n cubes others
  live-without_absorbed =
      live-at_most cubes others kept others
      (λ k h. let both = or_parts (has_literal k cubes) (has_literal k others) h in
      or_from (has_literal k kept) (has_literal k others) (has_literal-without_absorbed k both.0) both.1)

  places-without_absorbed : (p : Place) → difference (places kept) (places others) p ≡ difference (places cubes) (places others) p
  places-without_absorbed p = elim (cases_Bool (places others p)) [
    | inl on ↦ none (places kept p) (places others p) on ∙ sym (none (places cubes p) (places others p) on)
    | inr off ↦ ap (λ x. x && not (places others p)) (same (places kept p) (places cubes p) (to off) from)
  ]
    where
      none : (x y : Bool) → y ≡ true → (x && not y) ≡ false
      none true y e = ap not e
      none false y e = refl

      same : (x y : Bool) → (y ≡ true → x ≡ true) → (x ≡ true → y ≡ true) → x ≡ y
      same true y to from = sym (from refl)
      same false true to from = to refl
      same false false to from = refl

      from : places kept p ≡ true → places cubes p ≡ true
      from h = let r = list_any_witness (λ (c : Cube). holds c p) kept h in list_any_from (λ (c : Cube). holds c p) cubes r.0 (left.within r.0 r.1) r.2

      to : places others p ≡ false → places cubes p ≡ true → places kept p ≡ true
      to off h =
          let r = list_any_witness (λ (c : Cube). holds c p) cubes h in
          elim (left.over r.0 r.1) [
            | inl k ↦ list_any_from (λ (c : Cube). holds c p) kept r.0 k r.2
            | inr (d, member, sub) ↦ absurd (false≢true (sym off ∙ list_any_from (λ (c : Cube). holds c p) others d member (sub p r.2)))
          ]

module _ (size : Size) (cubes others kept : List Cube) (left : IsWithoutAbsorbed cubes others kept) where
  pub AreCubes-without_absorbed : AreCubes size cubes → AreCubes size kept
  AreCubes-without_absorbed are = members_all (IsCube size) kept (λ c h. all_members (IsCube size) cubes are c (left.within c h))

  pub complete_sum-without_absorbed : complete_sum size (difference (places kept) (places others)) ≡ complete_sum size (difference (places cubes) (places others))
  complete_sum-without_absorbed =
      complete_sum-same size (difference (places kept) (places others)) (difference (places cubes) (places others)) (places-without_absorbed cubes others kept left)
