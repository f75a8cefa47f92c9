-- Rows divided by the side of their inputs.
use Rattle.std.proofs.Common.{◌≡◌, ℕ, ◌+◌, ◌<◌, ◌≤◌, Bool, true, false, not, ◌||◌, List, [], ◌∷◌, ◌++◌, length, take, get_or, slice_get, Some, None, Option, is_some, IfSome, refl, ap, sym, subst, ◌∙◌, arith, inl, inr, ◌⊎◌}
use Rattle.std.specs.List.{Contains}
use Rattle.std.proofs.lemmas.Bool.{cases_Bool, false≢true, or_cases, or_left, or_right, or_parts, or_from}
use Rattle.std.proofs.lemmas.List.{take_more}
use Rattle.std.proofs.lemmas.List.Elements.{Contains-append_left, Contains-append_right, Contains-append_cases}
use Rattle.std.proofs.lemmas.Option.{slice_get_within, get_or_from_slice_get}
use Rattle.cube.specs.declared.symbol.Symbol.{Symbol}
use Rattle.cube.specs.declared.symbol.Symbol.TheVariants.{Dash, Zero, One}
use Rattle.cube.specs.Size.{Size}
use Rattle.cube.specs.Pattern.{is_literal}
use Rattle.cube.specs.Cube.{Cube, Place, holds, IsCube, IsNextLiteral}
use Rattle.cube.specs.Sum.{complete_sum}
use Rattle.cube.proofs.Members.{Contains-nil, Contains-cases, list_any_none, list_any_false}
use Rattle.cube.proofs.SumLemmas.{complete_sum-same}
use Rattle.rows.specs.Cubes.{AreCubes}
use Rattle.rows.specs.Places.{places}
use Rattle.rows.specs.Marks.{is_symbol}
use Rattle.rows.specs.Parts.{has_literal, live}
use Rattle.sums.specs.Apart.{IsOnSide, HasSomeLiteral, IsDivided, IsInParts}
use Rattle.rows.proofs.Lists.{all_members, members_all, list_any_from, list_any_witness}
use Rattle.rows.proofs.SumMeets.{places-append}
use Rattle.rows.proofs.SumParts.{has_literal-append, live-at_most, live-below}

same_bool : (x y : Bool) → (x ≡ true → y ≡ true) → (y ≡ true → x ≡ true) → x ≡ y
same_bool true y to from = sym (to refl)
same_bool false true to from = from refl
same_bool false false to from = refl

-- ---- one more row

module _ (sides : List Bool) (rows : List Cube) (i : ℕ) (row : Cube) (one other : List Cube) (lt : i < length rows) (at : row ≡ get_or rows i row)
    (before : IsDivided sides (take i rows) one other) where
  more : take (i + 1) rows ≡ take i rows ++ row ∷ []
  more = take_more rows i row lt ∙ ap (λ c. take i rows ++ c ∷ []) (sym at)

  pub IsDivided-one : (new : List Cube) → new ≡ one ++ row ∷ [] → IsOnSide sides true row → IsDivided sides (take (i + 1) rows) new other
  IsDivided-one new is side =
      subst (λ n. IsDivided sides (take (i + 1) rows) n other) (sym is) (subst (λ l. IsDivided sides l (one ++ row ∷ []) other) (sym more) (record {
        all = λ c h. elim (Contains-append_cases (take i rows) (row ∷ []) c h) [
          | inl old ↦ elim (before.all c old) [
            | inl x ↦ inl (Contains-append_left one (row ∷ []) c x)
            | inr y ↦ inr y
          ]
          | inr new ↦ inl (Contains-append_right one (row ∷ []) c new)
        ];
        one_within = λ c h. elim (Contains-append_cases one (row ∷ []) c h) [
          | inl old ↦ Contains-append_left (take i rows) (row ∷ []) c (before.one_within c old)
          | inr new ↦ Contains-append_right (take i rows) (row ∷ []) c new
        ];
        other_within = λ c h. Contains-append_left (take i rows) (row ∷ []) c (before.other_within c h);
        one_side = λ c h. elim (Contains-append_cases one (row ∷ []) c h) [
          | inl old ↦ before.one_side c old
          | inr new ↦ elim (Contains-cases row [] c new) [
            | inl here ↦ subst (IsOnSide sides true) here side
            | inr there ↦ absurd (Contains-nil c there)
          ]
        ];
        other_side = before.other_side;
      }))

  pub IsDivided-other : (new : List Cube) → new ≡ other ++ row ∷ [] → IsOnSide sides false row → IsDivided sides (take (i + 1) rows) one new
  IsDivided-other new is side =
      subst (λ n. IsDivided sides (take (i + 1) rows) one n) (sym is) (subst (λ l. IsDivided sides l one (other ++ row ∷ [])) (sym more) (record {
        all = λ c h. elim (Contains-append_cases (take i rows) (row ∷ []) c h) [
          | inl old ↦ elim (before.all c old) [
            | inl x ↦ inl x
            | inr y ↦ inr (Contains-append_left other (row ∷ []) c y)
          ]
          | inr new ↦ inr (Contains-append_right other (row ∷ []) c new)
        ];
        one_within = λ c h. Contains-append_left (take i rows) (row ∷ []) c (before.one_within c h);
        other_within = λ c h. elim (Contains-append_cases other (row ∷ []) c h) [
          | inl old ↦ Contains-append_left (take i rows) (row ∷ []) c (before.other_within c old)
          | inr new ↦ Contains-append_right (take i rows) (row ∷ []) c new
        ];
        one_side = before.one_side;
        other_side = λ c h. elim (Contains-append_cases other (row ∷ []) c h) [
          | inl old ↦ before.other_side c old
          | inr new ↦ elim (Contains-cases row [] c new) [
            | inl here ↦ subst (IsOnSide sides false) here side
            | inr there ↦ absurd (Contains-nil c there)
          ]
        ];
      }))

-- ---- a literal of a row

some_of : (P : ℕ → Type 0) (o : Option ℕ) → is_some o ≡ true → IfSome o P → (i : ℕ) × P i
some_of P (Some i) t h = (i, h)
some_of P None t h = absurd (false≢true t)

literal_symbol : (s : Symbol) → is_literal s ≡ true → not (is_symbol Dash s) ≡ true
literal_symbol Dash h = h
literal_symbol Zero h = refl
literal_symbol One h = refl

pub literal_shown : (size : Size) (rows : List Cube) (row : Cube) (o : Option ℕ) → AreCubes size rows → Some row ≡ slice_get rows 0 → is_some o ≡ true
    → IfSome o (λ i. IsNextLiteral row 0 i) → HasSomeLiteral size rows
literal_shown size rows row o are first some h =
    let r = some_of (λ i. IsNextLiteral row 0 i) o some h in
    let lt : 0 < length rows = slice_get_within rows 0 row (sym first) in
    let member : Contains rows row = (0, lt, get_or_from_slice_get rows 0 row row (sym first)) in
    let long = (all_members (IsCube size) rows are row member).has_size.0 in
    (r.0, omega (arith, long, r.1.within), list_any_from (λ (c : Cube). not (is_symbol Dash (get_or c.symbols r.0 Dash))) rows row member (literal_symbol (get_or row.symbols r.0 Dash) r.1.literal))

-- ---- the parts

symbol_side : (s : Symbol) (side bit : Bool) → not (is_symbol Dash s) ≡ true → (s ≡ Dash) ⊎ (side ≡ bit) → side ≡ bit
symbol_side s side bit on (inl e) = absurd (false≢true (sym (ap (λ t. not (is_symbol Dash t)) e) ∙ on))
symbol_side s side bit on (inr e) = e

module _ (size : Size) (sides : List Bool) (rows one other : List Cube) (d : IsDivided sides rows one other) where
  abbrev test : ℕ → Cube → Bool
  test k c = not (is_symbol Dash (get_or c.symbols k Dash))

  apart : (k : ℕ) → (has_literal k one ≡ false) ⊎ (has_literal k other ≡ false)
  apart k = elim (cases_Bool (has_literal k one)) [
    | inr off ↦ inl off
    | inl on ↦
        let w = list_any_witness (test k) one on in
        let here = symbol_side (get_or w.0.symbols k Dash) (get_or sides k false) true w.2 (d.one_side w.0 w.1 k) in
        inr (list_any_false (test k) other (λ c member literal.
        false≢true (sym (symbol_side (get_or c.symbols k Dash) (get_or sides k false) false literal (d.other_side c member k)) ∙ here)))
  ]

  none_in_one : (k : ℕ) → has_literal k rows ≡ false → has_literal k one ≡ false
  none_in_one k e = list_any_false (test k) one (λ c m t. list_any_none (test k) rows c e (d.one_within c m) t)

  none_in_other : (k : ℕ) → has_literal k rows ≡ false → has_literal k other ≡ false
  none_in_other k e = list_any_false (test k) other (λ c m t. list_any_none (test k) rows c e (d.other_within c m) t)

  places-divided : (p : Place) → places rows p ≡ (places one p || places other p)
  places-divided p = same_bool (places rows p) (places one p || places other p)
      (λ h. let w = list_any_witness (λ (c : Cube). holds c p) rows h in
      elim (d.all w.0 w.1) [
        | inl x ↦ or_left (places one p) (places other p) (list_any_from (λ (c : Cube). holds c p) one w.0 x w.2)
        | inr y ↦ or_right (places one p) (places other p) (list_any_from (λ (c : Cube). holds c p) other w.0 y w.2)
      ])
      (λ h. elim (or_cases (places one p) (places other p) h) [
        | inl x ↦ let w = list_any_witness (λ (c : Cube). holds c p) one x in list_any_from (λ (c : Cube). holds c p) rows w.0 (d.one_within w.0 w.1) w.2
        | inr y ↦ let w = list_any_witness (λ (c : Cube). holds c p) other y in list_any_from (λ (c : Cube). holds c p) rows w.0 (d.other_within w.0 w.1) w.2
      ])

  pub AreCubes-one : AreCubes size rows → AreCubes size one
  AreCubes-one are = members_all (IsCube size) one (λ c h. all_members (IsCube size) rows are c (d.one_within c h))

  pub AreCubes-other : AreCubes size rows → AreCubes size other
  AreCubes-other are = members_all (IsCube size) other (λ c h. all_members (IsCube size) rows are c (d.other_within c h))

  pub IsInParts-divided : AreCubes size rows → ((b c : Cube) → Contains rows b → Contains rows c → b.outputs ≡ c.outputs)
      → HasSomeLiteral size one → HasSomeLiteral size other → IsInParts size rows one other
  IsInParts-divided are same left right = record {
    one_cubes = AreCubes-one are;
    other_cubes = AreCubes-other are;
    places = places-divided;
    apart = apart;
    same_outputs = λ b c x y. same b c (d.one_within b x) (d.other_within c y);
    no_more = λ k e. or_from (has_literal k one) (has_literal k other) (none_in_one k e) (none_in_other k e);
    one_literal = left;
    other_literal = right;
  }

-- ---- the parts as a list of their own

module _ (size : Size) (rows one other : List Cube) (h : IsInParts size rows one other) where
  places-parts : (p : Place) → places (one ++ other) p ≡ places rows p
  places-parts p = places-append one other p ∙ sym (h.places p)

  pub IsInParts-appended : IsInParts size (one ++ other) one other
  IsInParts-appended = record {
    one_cubes = h.one_cubes;
    other_cubes = h.other_cubes;
    places = λ p. places-append one other p;
    apart = h.apart;
    same_outputs = h.same_outputs;
    no_more = λ k e. sym (has_literal-append k one other) ∙ e;
    one_literal = h.one_literal;
    other_literal = h.other_literal;
  }

  pub complete_sum-appended : complete_sum size (places (one ++ other)) ≡ complete_sum size (places rows)
  complete_sum-appended = complete_sum-same size (places (one ++ other)) (places rows) places-parts

  -- the measure does not grow, and falls in each part
  pub live-parts : (others : List Cube) (n : ℕ) → live n one other ≤ live n rows others
  live-parts others n = live-at_most rows others one other (λ k e. h.no_more k (or_parts (has_literal k rows) (has_literal k others) e).0) n

  pub live-one : live size.inputs one [] < live size.inputs one other
  live-one =
      let i = h.other_literal in
      live-below i.0 one other one [] (λ k e. or_from (has_literal k one) false (or_parts (has_literal k one) (has_literal k other) e).0 refl)
      (elim (h.apart i.0) [
        | inl x ↦ or_from (has_literal i.0 one) false x refl
        | inr y ↦ absurd (false≢true (sym y ∙ i.2))
      ])
      size.inputs i.1 (or_right (has_literal i.0 one) (has_literal i.0 other) i.2)

  pub live-other : live size.inputs other [] < live size.inputs one other
  live-other =
      let i = h.one_literal in
      live-below i.0 one other other [] (λ k e. or_from (has_literal k other) false (or_parts (has_literal k one) (has_literal k other) e).1 refl)
      (elim (h.apart i.0) [
        | inl x ↦ absurd (false≢true (sym x ∙ i.2))
        | inr y ↦ or_from (has_literal i.0 other) false y refl
      ])
      size.inputs i.1 (or_left (has_literal i.0 one) (has_literal i.0 other) i.2)
