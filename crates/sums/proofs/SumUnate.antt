-- A list with one literal at each input, and equal outputs, is complete.
use Rattle.std.proofs.Common.{◌≡◌, ℕ, zero, suc, ◌<◌, ◌≤◌, Bool, true, false, not, List, [], ◌∷◌, length, get_or, refl, ap, sym, subst, ◌∙◌, arith, inl, inr, ◌⊎◌}
use Rattle.std.specs.List.{Contains}
use Rattle.std.specs.Ordering.{ordering_then, bool_cmp}
use Rattle.std.specs.Cmp.Lexicographic.{slice_cmp}
use Rattle.std.specs.declared.cmp.Ordering.TheVariants.{Less, Equal}
use Rattle.std.proofs.lemmas.Bool.{and_parts, and_from, cases_lt, false≢true}
use Rattle.std.proofs.lemmas.List.{get_or_past}
use Rattle.cube.specs.declared.symbol.Symbol.{Symbol}
use Rattle.cube.specs.declared.symbol.Symbol.TheVariants.{Dash, Zero, One}
use Rattle.cube.specs.Size.{Size}
use Rattle.cube.specs.Pattern.{agrees, matches}
use Rattle.cube.specs.Cube.{Cube, holds, IsCube, IsSubset}
use Rattle.cube.specs.Order.{symbol_cmp, row_cmp}
use Rattle.cube.specs.Sum.{complete_sum}
use Rattle.cube.proofs.HoldsLemmas.{agrees_at-matches, IsSubset-from_Covers, Covers-from_IsSubset}
use Rattle.cube.proofs.SharpLemmas.{some_true}
use Rattle.cube.proofs.SumLemmas.{complete_sum-from_members}
use Rattle.rows.specs.Cubes.{AreCubes}
use Rattle.rows.specs.Places.{places}
use Rattle.rows.specs.Marks.{is_symbol}
use Rattle.rows.specs.Parts.{has_symbol}
use Rattle.rows.specs.Reduced.{IsAbsorbed, IsUnate}
use Rattle.rows.proofs.Lists.{all_members, list_any_from, list_any_witness}
use Rattle.rows.proofs.SumSplit.{same_size, same_cube}

-- ---- a point of a cube that lies against the literals of the list

against : Symbol → Bool → Bool
against Dash u = not u
against Zero u = false
against One u = true

worst : List Symbol → (ℕ → Bool) → List Bool
worst [] u = []
worst (s ∷ ss) u = against s (u 0) ∷ worst ss (λ k. u (suc k))

agrees-against : (s : Symbol) (u : Bool) → agrees s (against s u) ≡ true
unfolding against
agrees-against Dash u = refl
agrees-against Zero u = refl
agrees-against One u = refl

matches-worst : (ss : List Symbol) (u : ℕ → Bool) → matches ss (worst ss u) ≡ true
unfolding worst
matches-worst [] u = refl
matches-worst (s ∷ ss) u = and_from (agrees s (against s (u 0))) (matches ss (worst ss (λ k. u (suc k)))) (agrees-against s (u 0)) (matches-worst ss (λ k. u (suc k)))

get_or-worst : (ss : List Symbol) (u : ℕ → Bool) (k : ℕ) → k < length ss → get_or (worst ss u) k false ≡ against (get_or ss k Dash) (u k)
unfolding worst
get_or-worst [] u k lt = absurd (omega arith)
get_or-worst (s ∷ ss) u zero lt = refl
get_or-worst (s ∷ ss) u (suc k) lt = get_or-worst ss (λ k. u (suc k)) k (omega arith)

-- a symbol that agrees with that bit, where no literal but its own is at the input
one_side : (s t : Symbol) (u : Bool) → (t ≡ Zero → u ≡ false) → (t ≡ One → u ≡ true) → agrees t (against s u) ≡ true
    → (bit : Bool) → agrees s bit ≡ true → agrees t bit ≡ true
unfolding against
one_side s Dash u z o h bit a = refl
one_side Dash Zero u z o h bit a = absurd (false≢true (sym (ap (λ x. not (not x)) (z refl)) ∙ h))
one_side Zero Zero u z o h bit a = a
one_side One Zero u z o h bit a = absurd (false≢true h)
one_side Dash One u z o h bit a = absurd (false≢true (sym (ap not (o refl)) ∙ h))
one_side Zero One u z o h bit a = absurd (false≢true h)
one_side One One u z o h bit a = a

-- ---- row order and containment

symbol_later : (s t : Symbol) → ((bit : Bool) → agrees s bit ≡ true → agrees t bit ≡ true) → (symbol_cmp t s ≡ Less) ⊎ (s ≡ t)
symbol_later Dash Dash h = inr refl
symbol_later Zero Dash h = inl refl
symbol_later One Dash h = inl refl
symbol_later Dash Zero h = absurd (false≢true (h true refl))
symbol_later Zero Zero h = inr refl
symbol_later One Zero h = absurd (false≢true (h true refl))
symbol_later Dash One h = absurd (false≢true (h false refl))
symbol_later Zero One h = absurd (false≢true (h false refl))
symbol_later One One h = inr refl

self_cmp : (s : Symbol) → symbol_cmp s s ≡ Equal
self_cmp Dash = refl
self_cmp Zero = refl
self_cmp One = refl

symbols_later : (ss ts : List Symbol) → length ss ≡ length ts → ((k : ℕ) (bit : Bool) → agrees (get_or ss k Dash) bit ≡ true → agrees (get_or ts k Dash) bit ≡ true)
    → (slice_cmp symbol_cmp ts ss ≡ Less) ⊎ (ss ≡ ts)
symbols_later [] [] l h = inr refl
symbols_later [] (t ∷ ts) l h = absurd (omega arith)
symbols_later (s ∷ ss) [] l h = absurd (omega arith)
symbols_later (s ∷ ss) (t ∷ ts) l h = elim (symbol_later s t (h 0)) [
  | inl less ↦ inl (ap (λ o. ordering_then o (slice_cmp symbol_cmp ts ss)) less)
  | inr same ↦ elim (symbols_later ss ts (omega arith) (λ k. h (suc k))) [
    | inl less ↦ inl (ap (λ z. ordering_then (symbol_cmp t z) (slice_cmp symbol_cmp ts ss)) same ∙ ap (λ o. ordering_then o (slice_cmp symbol_cmp ts ss)) (self_cmp t) ∙ less)
    | inr rest ↦ inr (ap (λ z. z ∷ ss) same ∙ ap (λ z. t ∷ z) rest)
  ]
]

abbrev row : List Symbol → List Bool → Cube
row ss os = record { symbols = ss; outputs = os }

-- of two cubes with equal outputs the larger comes first
pub larger_first : (size : Size) (c d : Cube) → IsCube size c → IsCube size d → c.outputs ≡ d.outputs → IsSubset (holds c) (holds d) → (row_cmp d c ≡ Less) ⊎ (c ≡ d)
larger_first size c d cube_c cube_d same sub =
    let on = some_true c.outputs cube_c.some_output in
    let covers = Covers-from_IsSubset d c (same_size size d c cube_d cube_c) on.0 on.1 sub in
    elim (symbols_later c.symbols d.symbols (same_size size c d cube_c cube_d).0 covers.inputs) [
      | inl less ↦ inl (ap (λ o. ordering_then o (slice_cmp bool_cmp d.outputs c.outputs)) less)
      | inr e ↦ inr (ap (λ s. row s c.outputs) e ∙ ap (λ o. row d.symbols o) same)
    ]

-- ---- the list

module _ (size : Size) (rows kept : List Cube) (cubes : AreCubes size rows) (unate : IsUnate size rows) (absorbed : IsAbsorbed rows kept) where
  side : ℕ → Bool
  side k = has_symbol k One rows

  no_zero : (d : Cube) (k : ℕ) → k < size.inputs → Contains rows d → get_or d.symbols k Dash ≡ Zero → has_symbol k One rows ≡ false
  no_zero d k lt member e = elim (unate.one_literal k lt) [
    | inl no_zeros ↦ absurd (false≢true (sym no_zeros ∙ list_any_from (λ (c : Cube). is_symbol Zero (get_or c.symbols k Dash)) rows d member (ap (is_symbol Zero) e)))
    | inr no_ones ↦ no_ones
  ]

  has_one : (d : Cube) (k : ℕ) → Contains rows d → get_or d.symbols k Dash ≡ One → has_symbol k One rows ≡ true
  has_one d k member e = list_any_from (λ (c : Cube). is_symbol One (get_or c.symbols k Dash)) rows d member (ap (is_symbol One) e)

  -- each cube within the list lies in one of it
  pub over_unate : (c : Cube) → IsCube size c → IsSubset (holds c) (places rows) → (d : Cube) × Contains rows d × IsSubset (holds c) (holds d)
  unfolding side
  over_unate c cube sub =
      let q = worst c.symbols side in
      let inside = matches-worst c.symbols side in
      let on = some_true c.outputs cube.some_output in
      let at = λ (j : ℕ). λ (h : get_or c.outputs j false ≡ true).
      list_any_witness (λ (d : Cube). holds d (record { point = q; output = j })) rows
      (sub (record { point = q; output = j }) (and_from (matches c.symbols q) (get_or c.outputs j false) inside h)) in
      let r = at on.0 on.1 in
      let d = r.0 in
      let cube_d = all_members (IsCube size) rows cubes d r.1 in
      let own = and_parts (matches d.symbols q) (get_or d.outputs on.0 false) r.2 in (
        d,
        r.1,
        IsSubset-from_Covers d c (same_size size d c cube_d cube) (record {
          inputs = λ k bit a. elim (cases_lt k size.inputs) [
            | inl lt ↦
                let in_c : k < length c.symbols = omega (arith, cube.has_size.0) in
                let in_d : k < length d.symbols = omega (arith, cube_d.has_size.0) in
                one_side (get_or c.symbols k Dash) (get_or d.symbols k Dash) (side k)
                (λ e. no_zero d k lt r.1 e) (λ e. has_one d k r.1 e)
                (ap (λ x. agrees (get_or d.symbols k Dash) x) (sym (get_or-worst c.symbols side k in_c)) ∙ agrees_at-matches d.symbols q k own.0 in_d) bit a
            | inr past ↦
                let out : length d.symbols ≤ k = omega (arith, cube_d.has_size.0) in
                ap (λ s. agrees s bit) (get_or_past d.symbols k Dash out)
          ];
          outputs = λ j h.
              let e = at j h in
              let also = and_parts (matches e.0.symbols q) (get_or e.0.outputs j false) e.2 in
              ap (λ o. get_or o j false) (unate.same_outputs d e.0 r.1 e.1) ∙ also.1;
        }),
      )

  -- of two kept cubes none lies in the other
  kept_apart : (c d : Cube) → Contains kept c → Contains kept d → IsSubset (holds c) (holds d) → c ≡ d
  kept_apart c d hc hd sub =
      let in_c = absorbed.within c hc in
      let in_d = absorbed.within d hd in
      elim (larger_first size c d (all_members (IsCube size) rows cubes c in_c) (all_members (IsCube size) rows cubes d in_d) (unate.same_outputs c d in_c in_d) sub) [
        | inl less ↦ absurd (absorbed.apart d c hd hc less sub)
        | inr e ↦ e
      ]

  over_kept : (c : Cube) → IsCube size c → IsSubset (holds c) (places rows) → (d : Cube) × Contains kept d × IsSubset (holds c) (holds d)
  over_kept c cube sub =
      let r = over_unate c cube sub in
      let s = absorbed.over r.0 r.1 in
      (s.0, s.1, λ p h. s.2 p (r.2 p h))

  kept_within : (c : Cube) → Contains kept c → IsSubset (holds c) (places rows)
  kept_within c h p held = list_any_from (λ (d : Cube). holds d p) rows c (absorbed.within c h) held

  kept_cube : (c : Cube) → Contains kept c → IsCube size c
  kept_cube c h = all_members (IsCube size) rows cubes c (absorbed.within c h)

  pub complete_sum-unate : kept ≡ complete_sum size (places rows)
  complete_sum-unate =
      complete_sum-from_members size (places rows) kept absorbed.rising
      (λ c h. record {
        is_cube = kept_cube c h;
        within = kept_within c h;
        largest = λ d cube within above.
            let r = over_kept d cube within in
            subst (λ z. IsSubset (holds d) (holds z)) (sym (kept_apart c r.0 h r.1 (λ p k. r.2 p (above p k)))) r.2;
      })
      (λ c h.
      let r = over_kept c h.is_cube h.within in
      let below = h.largest r.0 (kept_cube r.0 r.1) (kept_within r.0 r.1) r.2 in
      subst (Contains kept) (sym (same_cube size c r.0 h.is_cube (kept_cube r.0 r.1) r.2 below)) r.1)
