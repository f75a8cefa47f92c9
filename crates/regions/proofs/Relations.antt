-- Lists that are related, by their rows' symbols at an input.
use Rattle.std.proofs.Common.{◌≡◌, ℕ, ◌<◌, Bool, true, false, cond, List, [], ◌∷◌, get_or, All, filter, refl, ap, sym, subst, ◌∙◌, arith, inl, inr, ◌↔◌, IsTrue}
use Rattle.std.specs.List.{Contains}
use Rattle.std.specs.Borrow.{Bor}
use Rattle.std.proofs.lemmas.Bool.{cases_Bool, false≢true, and_parts}
use Rattle.cube.specs.declared.symbol.Symbol.{Symbol}
use Rattle.cube.specs.declared.symbol.Symbol.TheVariants.{Dash, Zero, One}
use Rattle.cube.specs.Size.{Size}
use Rattle.cube.specs.Pattern.{agrees, matches}
use Rattle.cube.specs.Cube.{Cube, Place, holds, HasSize}
use Rattle.cube.proofs.HoldsLemmas.{agrees_at-matches}
use Rattle.cube.proofs.Members.{Contains-filter, Contains-filter_cases}
use Rattle.rows.specs.Places.{places, behind}
use Rattle.rows.specs.Marks.{is_symbol, is_compatible}
use Rattle.regions.specs.Relation.{Relates, AreRelated}
use Rattle.regions.specs.declared.pairwise.Relation.{Relation}
use Rattle.rows.proofs.Lists.{list_any_from, list_any_witness, behind_all}
use Rattle.rows.proofs.ContainmentLemmas.{is_symbol-same}

-- the cubes behind the references that pass a test
pub behind-filter : (q : Cube → Bool) (rows : List (Bor Cube)) → behind (filter (λ r. q r.now) rows) ≡ filter q (behind rows)
behind-filter q [] = refl
behind-filter q (r ∷ rs) = one (q r.now) refl (behind-filter q rs)
  where
    one : (b : Bool) → q r.now ≡ b → behind (filter (λ x. q x.now) rs) ≡ filter q (behind rs)
        → behind (cond (q r.now) (r ∷ filter (λ x. q x.now) rs) (filter (λ x. q x.now) rs)) ≡ cond (q r.now) (r.now ∷ filter q (behind rs)) (filter q (behind rs))
    one true e h =
        ap (λ b. behind (cond b (r ∷ filter (λ x. q x.now) rs) (filter (λ x. q x.now) rs))) e
        ∙ ap (λ l. r.now ∷ l) h
        ∙ ap (λ b. cond b (r.now ∷ filter q (behind rs)) (filter q (behind rs))) (sym e)
    one false e h =
        ap (λ b. behind (cond b (r ∷ filter (λ x. q x.now) rs) (filter (λ x. q x.now) rs))) e
        ∙ h
        ∙ ap (λ b. cond b (r.now ∷ filter q (behind rs)) (filter q (behind rs))) (sym e)

-- what passes keeps its places, where each cube of the place passes
places-filter : (q : Cube → Bool) (cubes : List Cube) (p : Place) → ((d : Cube) → Contains cubes d → holds d p ≡ true → q d ≡ true)
    → places (filter q cubes) p ≡ places cubes p
places-filter q cubes p pass = elim (cases_Bool (places cubes p)) [
  | inl on ↦
      let w = list_any_witness (λ d. holds d p) cubes on in
      list_any_from (λ d. holds d p) (filter q cubes) w.0 (Contains-filter q cubes w.0 w.1 (pass w.0 w.1 w.2)) w.2 ∙ sym on
  | inr off ↦ elim (cases_Bool (places (filter q cubes) p)) [
    | inl on ↦
        let w = list_any_witness (λ d. holds d p) (filter q cubes) on in
        absurd (false≢true (sym off ∙ list_any_from (λ d. holds d p) cubes w.0 (Contains-filter_cases q cubes w.0 w.1).0 w.2))
    | inr out ↦ out ∙ sym off
  ]
]

-- symbols that agree with one bit are compatible
both_agree : (s t : Symbol) (bit : Bool) → agrees s bit ≡ true → agrees t bit ≡ true → is_compatible s t ≡ true
both_agree Dash t bit a b = refl
both_agree Zero Dash bit a b = refl
both_agree One Dash bit a b = refl
both_agree Zero Zero bit a b = refl
both_agree One One bit a b = refl
both_agree Zero One true a b = absurd (false≢true a)
both_agree Zero One false a b = absurd (false≢true b)
both_agree One Zero true a b = absurd (false≢true b)
both_agree One Zero false a b = absurd (false≢true a)

-- a cube with this symbol at input i, and one that is compatible with it there
abbrev pub at_symbol : ℕ → Symbol → Cube → Bool
at_symbol i s d = is_symbol s (get_or d.symbols i Dash)

abbrev pub open_to : ℕ → Symbol → Cube → Bool
open_to i s d = is_compatible s (get_or d.symbols i Dash)

own_symbol : (s : Symbol) → is_symbol s s ≡ true
own_symbol Dash = refl
own_symbol Zero = refl
own_symbol One = refl

module _ (size : Size) (i : ℕ) (lt : i < size.inputs) where
  -- at a place of a cube with the symbol, the cubes that are compatible decide
  places-open : (s : Symbol) (rows others : List Cube) → ((d : Cube) → Contains rows d → HasSize d size) → ((d : Cube) → Contains others d → HasSize d size)
      → (p : Place) → places (filter (at_symbol i s) rows) p ≡ true → places (filter (open_to i s) others) p ≡ places others p
  places-open s rows others in_rows in_others p h =
      let w = list_any_witness (λ d. holds d p) (filter (at_symbol i s) rows) h in
      let m = Contains-filter_cases (at_symbol i s) rows w.0 w.1 in
      let c = w.0 in
      let own : agrees (get_or c.symbols i Dash) (get_or p.point i false) ≡ true =
      agrees_at-matches c.symbols p.point i (and_parts (matches c.symbols p.point) (get_or c.outputs p.output false) w.2).0 (omega (arith, (in_rows c m.0).0)) in
      let has : agrees s (get_or p.point i false) ≡ true = ap (λ t. agrees t (get_or p.point i false)) (is_symbol-same s (get_or c.symbols i Dash) m.1) ∙ own in
      places-filter (open_to i s) others p (λ d member on.
      both_agree s (get_or d.symbols i Dash) (get_or p.point i false) has
      (agrees_at-matches d.symbols p.point i (and_parts (matches d.symbols p.point) (get_or d.outputs p.output false) on).0 (omega (arith, (in_others d member).0))))

  -- so they decide how those with the symbol are related
  pub AreRelated-open : (relation : Relation) (s : Symbol) (rows others near far : List (Bor Cube))
      → All (λ d. HasSize d.now size) rows → All (λ d. HasSize d.now size) others
      → near ≡ filter (λ d. is_symbol s (get_or d.now.symbols i Dash)) rows → far ≡ filter (λ d. is_compatible s (get_or d.now.symbols i Dash)) others
      → (r : Bool) → IsTrue r ↔ AreRelated relation (behind near) (behind far)
      → IsTrue r ↔ AreRelated relation (behind (filter (λ d. is_symbol s (get_or d.now.symbols i Dash)) rows)) (behind others)
  AreRelated-open relation s rows others near far in_rows in_others e_near e_far r answer =
      let near_is : behind near ≡ filter (at_symbol i s) (behind rows) = ap behind e_near ∙ behind-filter (at_symbol i s) rows in
      let far_is : behind far ≡ filter (open_to i s) (behind others) = ap behind e_far ∙ behind-filter (open_to i s) others in
      let same : (p : Place) → places (behind near) p ≡ true → places (behind far) p ≡ places (behind others) p =
      λ p h. ap (λ l. places l p) far_is ∙ places-open s (behind rows) (behind others) (behind_all (λ d. HasSize d size) rows in_rows)
      (behind_all (λ d. HasSize d size) others in_others) p (ap (λ l. places l p) (sym near_is) ∙ h) in (
        λ on p h.
            let k = ap (λ l. places (behind l) p) e_near ∙ h in
            subst (Relates relation) (same p k) (answer.0 on p k),
        λ h. answer.1 (λ p k. subst (Relates relation) (sym (same p k)) (h p (ap (λ l. places (behind l) p) (sym e_near) ∙ k))),
      )

-- rows are related where those of each symbol are
module _ (i : ℕ) (relation : Relation) (rows : List (Bor Cube)) (others : List Cube) where
  abbrev pub PartRelated : Symbol → Type 0
  PartRelated s = AreRelated relation (behind (filter (λ d. is_symbol s (get_or d.now.symbols i Dash)) rows)) others

  pub AreRelated-part : (s : Symbol) → AreRelated relation (behind rows) others → PartRelated s
  AreRelated-part s h p on =
      let w = list_any_witness (λ d. holds d p) (filter (at_symbol i s) (behind rows)) (ap (λ l. places l p) (sym (behind-filter (at_symbol i s) rows)) ∙ on) in
      h p (list_any_from (λ d. holds d p) (behind rows) w.0 (Contains-filter_cases (at_symbol i s) (behind rows) w.0 w.1).0 w.2)

  pub AreRelated-parts : PartRelated Zero → PartRelated One → PartRelated Dash → AreRelated relation (behind rows) others
  AreRelated-parts low high free p on =
      let w = list_any_witness (λ d. holds d p) (behind rows) on in
      one (get_or w.0.symbols i Dash) (λ s e. ap (λ l. places l p) (behind-filter (at_symbol i s) rows)
      ∙ list_any_from (λ d. holds d p) (filter (at_symbol i s) (behind rows)) w.0
      (Contains-filter (at_symbol i s) (behind rows) w.0 w.1 (ap (is_symbol s) e ∙ own_symbol s)) w.2)
    where
      one : (t : Symbol) → ((s : Symbol) → t ≡ s → places (behind (filter (λ d. is_symbol s (get_or d.now.symbols i Dash)) rows)) p ≡ true) → Relates relation (places others p)
      one Dash part = free p (part Dash refl)
      one Zero part = low p (part Zero refl)
      one One part = high p (part One refl)

  pub AreRelated-failed : (s : Symbol) (r : Bool) → r ≡ false → IsTrue r ↔ PartRelated s → IsTrue false ↔ AreRelated relation (behind rows) others
  AreRelated-failed s r off answer = (
    λ on. absurd (false≢true on),
    λ h. absurd (false≢true (sym off ∙ answer.1 (AreRelated-part s h))),
  )

  pub AreRelated-last : (low high : Bool) → low ≡ true → high ≡ true → IsTrue low ↔ PartRelated Zero → IsTrue high ↔ PartRelated One
      → (r : Bool) → IsTrue r ↔ PartRelated Dash → IsTrue r ↔ AreRelated relation (behind rows) others
  AreRelated-last low high e f is_low is_high r answer = (
    λ on. AreRelated-parts (is_low.0 e) (is_high.0 f) (answer.0 on),
    λ h. answer.1 (AreRelated-part Dash h),
  )
