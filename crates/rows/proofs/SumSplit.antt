-- The maximal cubes of a set of places, by their symbol at an input.
use Rattle.std.proofs.Common.{◌≡◌, ℕ, ◌<◌, Bool, true, false, ◌&&◌, List, length, get_or, set, refl, ap, sym, subst, ◌∙◌, arith, inl, inr, ◌⊎◌}
use Rattle.std.proofs.lemmas.Bool.{and_parts, and_from, cases_Bool, false≢true}
use Rattle.std.proofs.lemmas.List.{set-set, set-get_or, length-set, get_or-set_same}
use Rattle.cube.specs.declared.symbol.Symbol.{Symbol}
use Rattle.cube.specs.declared.symbol.Symbol.TheVariants.{Dash, Zero, One}
use Rattle.cube.specs.Size.{Size}
use Rattle.cube.specs.Pattern.{agrees, matches}
use Rattle.cube.specs.Cube.{Cube, Place, holds, SameSize, IsCube, IsSubset, with_symbol}
use Rattle.cube.specs.Sum.{IsMaximal}
use Rattle.cube.proofs.HoldsLemmas.{Covers-from_IsSubset}
use Rattle.cube.proofs.SharpLemmas.{Covers-antisym, some_true}
use Rattle.rows.specs.Complete.{literal, put, cofactor_at, consensus_at}
use Rattle.rows.proofs.Inputs.{matches-set_symbol, matches-set_bit, matches-own}

-- ---- one cube

and_assoc : (a b c : Bool) → ((a && b) && c) ≡ (a && (b && c))
and_assoc true b c = refl
and_assoc false b c = refl

abbrev pub free : Cube → ℕ → Cube
free c i = with_symbol c i Dash

pub holds-put : (c : Cube) (i : ℕ) (b : Bool) (p : Place) → i < length c.symbols
    → holds c (put i b p) ≡ (agrees (get_or c.symbols i Dash) b && holds (free c i) p)
holds-put c i b p lt =
    ap (λ x. x && get_or c.outputs p.output false) (matches-set_bit c.symbols p.point i b lt)
    ∙ and_assoc (agrees (get_or c.symbols i Dash) b) (matches (set c.symbols i Dash) p.point) (get_or c.outputs p.output false)

pub holds-with_symbol : (c : Cube) (i : ℕ) (t : Symbol) (p : Place) → i < length c.symbols
    → holds (with_symbol c i t) p ≡ (agrees t (get_or p.point i false) && holds (free c i) p)
holds-with_symbol c i t p lt =
    ap (λ x. x && get_or c.outputs p.output false) (matches-set_symbol c.symbols p.point i t lt)
    ∙ and_assoc (agrees t (get_or p.point i false)) (matches (set c.symbols i Dash) p.point) (get_or c.outputs p.output false)

pub holds-own : (c : Cube) (i : ℕ) (p : Place) → i < length c.symbols
    → holds c p ≡ (agrees (get_or c.symbols i Dash) (get_or p.point i false) && holds (free c i) p)
holds-own c i p lt =
    ap (λ x. x && get_or c.outputs p.output false) (matches-own c.symbols p.point i lt)
    ∙ and_assoc (agrees (get_or c.symbols i Dash) (get_or p.point i false)) (matches (set c.symbols i Dash) p.point) (get_or c.outputs p.output false)

abbrev row : List Symbol → List Bool → Cube
row ss os = record { symbols = ss; outputs = os }

-- a symbol put twice, and one put where it stands
pub with_symbol-twice : (c : Cube) (i : ℕ) (s t : Symbol) → with_symbol (with_symbol c i s) i t ≡ with_symbol c i t
with_symbol-twice c i s t = ap (λ x. row x c.outputs) (set-set c.symbols i s t)

pub with_symbol-own : (c : Cube) (i : ℕ) (t : Symbol) → get_or c.symbols i Dash ≡ t → with_symbol c i t ≡ c
with_symbol-own c i t e = ap (λ x. row (set c.symbols i x) c.outputs) (sym e) ∙ ap (λ x. row x c.outputs) (set-get_or c.symbols i Dash)

pub IsCube-with_symbol : (size : Size) (c : Cube) (i : ℕ) (t : Symbol) → IsCube size c → IsCube size (with_symbol c i t)
IsCube-with_symbol size c i t cube = record {
  has_size = (length-set c.symbols i t ∙ cube.has_size.0, cube.has_size.1);
  some_output = cube.some_output;
}

pub same_size : (size : Size) (c d : Cube) → IsCube size c → IsCube size d → SameSize c d
same_size size c d cc dd = (cc.has_size.0 ∙ sym dd.has_size.0, cc.has_size.1 ∙ sym dd.has_size.1)

-- cubes that lie within each other are one
pub same_cube : (size : Size) (c d : Cube) → IsCube size c → IsCube size d → IsSubset (holds c) (holds d) → IsSubset (holds d) (holds c) → c ≡ d
same_cube size c d cube_c cube_d to from =
    let on_c = some_true c.outputs cube_c.some_output in
    let on_d = some_true d.outputs cube_d.some_output in
    Covers-antisym c d (same_size size c d cube_c cube_d)
    (Covers-from_IsSubset c d (same_size size c d cube_c cube_d) on_d.0 on_d.1 from)
    (Covers-from_IsSubset d c (same_size size d c cube_d cube_c) on_c.0 on_c.1 to)

agreeing_bit : (s : Symbol) → (b : Bool) × (agrees s b ≡ true)
agreeing_bit Dash = (false, refl)
agreeing_bit Zero = (false, refl)
agreeing_bit One = (true, refl)

agrees-literal : (b : Bool) → agrees (literal b) b ≡ true
agrees-literal true = refl
agrees-literal false = refl

literal_bit : (b x : Bool) → agrees (literal b) x ≡ true → x ≡ b
literal_bit true x e = e
literal_bit false true e = absurd (false≢true e)
literal_bit false false e = refl

dash_from : (s : Symbol) → ((b : Bool) → agrees s b ≡ true) → s ≡ Dash
dash_from Dash h = refl
dash_from Zero h = absurd (false≢true (h true))
dash_from One h = absurd (false≢true (h false))

literal≢dash : (b : Bool) → literal b ≡ Dash → ⊥
literal≢dash true e = cc
literal≢dash false e = cc

-- ---- cubes within a set, at an input

module _ (size : Size) (i : ℕ) (lt : i < size.inputs) where
  inside : (c : Cube) → IsCube size c → i < length c.symbols
  inside c cube = omega (arith, cube.has_size.0)

  pub IsSubset-free : (c : Cube) → IsCube size c → IsSubset (holds c) (holds (free c i))
  IsSubset-free c cube p h =
      (and_parts (agrees (get_or c.symbols i Dash) (get_or p.point i false)) (holds (free c i) p) (sym (holds-own c i p (inside c cube)) ∙ h)).1

  -- a place of the freed cube, moved into the cube
  moved : (c : Cube) (b : Bool) (p : Place) → IsCube size c → agrees (get_or c.symbols i Dash) b ≡ true → holds (free c i) p ≡ true → holds c (put i b p) ≡ true
  moved c b p cube a h = holds-put c i b p (inside c cube) ∙ and_from (agrees (get_or c.symbols i Dash) b) (holds (free c i) p) a h

  -- where a cube lies in another, so do they freed
  pub IsSubset-frees : (c d : Cube) → IsCube size c → IsCube size d → IsSubset (holds c) (holds d) → IsSubset (holds (free c i)) (holds (free d i))
  IsSubset-frees c d cube_c cube_d sub p h =
      let b = agreeing_bit (get_or c.symbols i Dash) in
      (and_parts (agrees (get_or d.symbols i Dash) b.0) (holds (free d i) p)
      (sym (holds-put d i b.0 p (inside d cube_d)) ∙ sub (put i b.0 p) (moved c b.0 p cube_c b.1 h))).1

  pub symbol-with_symbol : (c : Cube) (t : Symbol) → IsCube size c → get_or (with_symbol c i t).symbols i Dash ≡ t
  symbol-with_symbol c t cube = get_or-set_same c.symbols i t Dash (inside c cube)

  at_own : (s : Place → Bool) (p : Place) (b : Bool) → get_or p.point i false ≡ b → cofactor_at i b s p ≡ s p
  at_own s p b e =
      let at = λ (x : List Bool). s (record { point = x; output = p.output }) in
      ap (λ x. at (set p.point i x)) (sym e) ∙ ap at (set-get_or p.point i false)

  pub put-put : (s : Place → Bool) (a b : Bool) (p : Place) → cofactor_at i a s (put i b p) ≡ cofactor_at i a s p
  put-put s a b p = ap (λ (x : List Bool). s (record { point = x; output = p.output })) (set-set p.point i b a)

  module _ (s : Place → Bool) where
    from_both : (p : Place) → consensus_at i s p ≡ true → s p ≡ true
    from_both p h =
        let two = and_parts (cofactor_at i false s p) (cofactor_at i true s p) h in
        elim (cases_Bool (get_or p.point i false)) [
          | inl on ↦ sym (at_own s p true on) ∙ two.1
          | inr off ↦ sym (at_own s p false off) ∙ two.0
        ]

    from_both_at : (b : Bool) (p : Place) → consensus_at i s p ≡ true → cofactor_at i b s p ≡ true
    from_both_at true p h = (and_parts (cofactor_at i false s p) (cofactor_at i true s p) h).1
    from_both_at false p h = (and_parts (cofactor_at i false s p) (cofactor_at i true s p) h).0

    -- a cube without a literal at i
    within_both : (c : Cube) → IsCube size c → get_or c.symbols i Dash ≡ Dash → IsSubset (holds c) s → IsSubset (holds c) (consensus_at i s)
    within_both c cube dash sub p h =
        let freed : holds (free c i) p ≡ true = subst (λ d. holds d p ≡ true) (sym (with_symbol-own c i Dash dash)) h in
        let at = λ (b : Bool). sub (put i b p) (moved c b p cube (ap (λ t. agrees t b) dash) freed) in
        and_from (cofactor_at i false s p) (cofactor_at i true s p) (at false) (at true)

    -- a cube with a literal at i
    freed_within : (c : Cube) (b : Bool) → IsCube size c → get_or c.symbols i Dash ≡ literal b → IsSubset (holds c) s → IsSubset (holds (free c i)) (cofactor_at i b s)
    freed_within c b cube e sub p h = sub (put i b p) (moved c b p cube (ap (λ t. agrees t b) e ∙ agrees-literal b) h)

    within_from_freed : (c : Cube) (b : Bool) → IsCube size c → get_or c.symbols i Dash ≡ literal b → IsSubset (holds (free c i)) (cofactor_at i b s) → IsSubset (holds c) s
    within_from_freed c b cube e sub p h =
        let own = and_parts (agrees (get_or c.symbols i Dash) (get_or p.point i false)) (holds (free c i) p) (sym (holds-own c i p (inside c cube)) ∙ h) in
        sym (at_own s p b (literal_bit b (get_or p.point i false) (ap (λ t. agrees t (get_or p.point i false)) (sym e) ∙ own.0))) ∙ sub p own.1

    -- a cube with `-` at i within s at one value, put at that value
    placed_within : (c : Cube) (b : Bool) → IsCube size c → IsSubset (holds (free c i)) (cofactor_at i b s) → IsSubset (holds (with_symbol c i (literal b))) s
    placed_within c b cube sub =
        within_from_freed (with_symbol c i (literal b)) b (IsCube-with_symbol size c i (literal b) cube) (symbol-with_symbol c (literal b) cube)
        (subst (λ d. IsSubset (holds d) (cofactor_at i b s)) (sym (with_symbol-twice c i (literal b) Dash)) sub)

  -- the maximal cubes of a set that does not look at input i have `-` there
  pub maximal_dash : (t : Place → Bool) → ((p : Place) (b : Bool) → t (put i b p) ≡ t p) → (c : Cube) → IsMaximal size t c → get_or c.symbols i Dash ≡ Dash
  maximal_dash t same c h =
      let cube = h.is_cube in
      let f = IsCube-with_symbol size c i Dash cube in
      let wide : IsSubset (holds (free c i)) t = λ p k.
      let b = agreeing_bit (get_or c.symbols i Dash) in
      sym (same p b.0) ∙ h.within (put i b.0 p) (moved c b.0 p cube b.1 k) in
      let below = h.largest (free c i) f wide (IsSubset-free c cube) in
      let on = some_true c.outputs cube.some_output in
      let covers = Covers-from_IsSubset c (free c i) (same_size size c (free c i) cube f) on.0 on.1 below in
      dash_from (get_or c.symbols i Dash) (λ b. covers.inputs i b (ap (λ x. agrees x b) (symbol-with_symbol c Dash cube)))

  module _ (s : Place → Bool) (c : Cube) where
    -- a cube over one without a literal at i has none either
    dash_above : (d : Cube) → IsCube size c → IsCube size d → get_or c.symbols i Dash ≡ Dash → IsSubset (holds c) (holds d) → get_or d.symbols i Dash ≡ Dash
    dash_above d cube_c cube_d dash sub =
        let on = some_true c.outputs cube_c.some_output in
        let covers = Covers-from_IsSubset d c (same_size size d c cube_d cube_c) on.0 on.1 sub in
        dash_from (get_or d.symbols i Dash) (λ b. covers.inputs i b (ap (λ x. agrees x b) dash))

    pub maximal_at_both : get_or c.symbols i Dash ≡ Dash → IsMaximal size s c → IsMaximal size (consensus_at i s) c
    maximal_at_both dash h = record {
      is_cube = h.is_cube;
      within = within_both s c h.is_cube dash h.within;
      largest = λ d cube within above. h.largest d cube (λ p k. from_both s p (within p k)) above;
    }

    pub maximal_from_both : IsMaximal size (consensus_at i s) c → IsMaximal size s c
    maximal_from_both h =
        let dash = maximal_dash (consensus_at i s) (λ p b.
        ap (λ x. x && cofactor_at i true s (put i b p)) (put-put s false b p) ∙ ap (λ x. cofactor_at i false s p && x) (put-put s true b p)) c h in
        record {
          is_cube = h.is_cube;
          within = λ p k. from_both s p (h.within p k);
          largest = λ d cube within above.
              h.largest d cube (within_both s d cube (dash_above d h.is_cube cube dash above) within) above;
        }

    module _ (b : Bool) where
      other_symbol : (t : Symbol) → agrees t b ≡ true → (t ≡ Dash) ⊎ (t ≡ literal b)
      other_symbol t a = elim t as (λ x. agrees x b ≡ true → (x ≡ Dash) ⊎ (x ≡ literal b)) [
        | Dash ↦ λ _. inl refl
        | Zero ↦ λ h. inr (ap literal (elim b as (λ x. agrees Zero x ≡ true → false ≡ x) [ true ↦ λ k. absurd (false≢true k) | false ↦ λ _. refl ] h))
        | One ↦ λ h. inr (ap literal (sym h))
      ] a

      pub maximal_freed : get_or c.symbols i Dash ≡ literal b → IsMaximal size s c → IsMaximal size (cofactor_at i b s) (free c i)
      maximal_freed e h =
          let cube = h.is_cube in
          record {
            is_cube = IsCube-with_symbol size c i Dash cube;
            within = freed_within s c b cube e h.within;
            largest = λ d cube_d within above.
                let without_equal_rows = with_symbol d i (literal b) in
                let cube_p = IsCube-with_symbol size d i (literal b) cube_d in
                let wide : IsSubset (holds (free d i)) (cofactor_at i b s) = λ p k.
                let x = agreeing_bit (get_or d.symbols i Dash) in
                sym (put-put s b x.0 p) ∙ within (put i x.0 p) (moved d x.0 p cube_d x.1 k) in
                let over : IsSubset (holds c) (holds without_equal_rows) = λ p k.
                let own = and_parts (agrees (get_or c.symbols i Dash) (get_or p.point i false)) (holds (free c i) p) (sym (holds-own c i p (inside c cube)) ∙ k) in
                holds-with_symbol d i (literal b) p (inside d cube_d)
                ∙ and_from (agrees (literal b) (get_or p.point i false)) (holds (free d i) p)
                (ap (λ x. agrees x (get_or p.point i false)) (sym e) ∙ own.0) (IsSubset-free d cube_d p (above p own.1)) in
                let below = h.largest without_equal_rows cube_p (placed_within s d b cube_d wide) over in
                λ p k.
                subst (λ x. IsSubset (holds x) (holds (free c i))) (with_symbol-twice d i (literal b) Dash) (IsSubset-frees without_equal_rows c cube_p cube below)
                p (IsSubset-free d cube_d p k);
          }

      pub maximal_not_both : get_or c.symbols i Dash ≡ literal b → IsMaximal size s c → IsMaximal size (consensus_at i s) (free c i) → ⊥
      maximal_not_both e h both =
          let cube = h.is_cube in
          let f = IsCube-with_symbol size c i Dash cube in
          let same = same_cube size c (free c i) cube f (IsSubset-free c cube)
          (h.largest (free c i) f (λ p k. from_both s p (both.within p k)) (IsSubset-free c cube)) in
          literal≢dash b (sym e ∙ ap (λ x. get_or x.symbols i Dash) same ∙ symbol-with_symbol c Dash cube)

      pub maximal_from_freed : IsCube size c → get_or c.symbols i Dash ≡ literal b → IsMaximal size (cofactor_at i b s) (free c i)
          → (IsMaximal size (consensus_at i s) (free c i) → ⊥) → IsMaximal size s c
      maximal_from_freed cube e h out = record {
        is_cube = cube;
        within = within_from_freed s c b cube e h.within;
        largest = λ d cube_d within above.
            let f = IsCube-with_symbol size c i Dash cube in
            let on = some_true c.outputs cube.some_output in
            let covers = Covers-from_IsSubset d c (same_size size d c cube_d cube) on.0 on.1 above in
            let free_above = IsSubset-frees c d cube cube_d above in
            elim (other_symbol (get_or d.symbols i Dash) (covers.inputs i b (ap (λ x. agrees x b) e ∙ agrees-literal b))) [
              | inl dash ↦
                  let own = with_symbol-own d i Dash dash in
                  let over : IsSubset (holds (free c i)) (holds d) = subst (λ x. IsSubset (holds (free c i)) (holds x)) own free_above in
                  let both = within_both s d cube_d dash within in
                  let at_b : IsSubset (holds d) (cofactor_at i b s) = λ p k. from_both_at s b p (both p k) in
                  absurd (out (record {
                    is_cube = f;
                    within = λ p k. both p (over p k);
                    largest = λ x cube_x in_both x_above.
                        h.largest x cube_x (λ p k. from_both_at s b p (in_both p k)) x_above;
                  }))
              | inr lit ↦
                  let below = h.largest (free d i) (IsCube-with_symbol size d i Dash cube_d) (freed_within s d b cube_d lit within) free_above in
                  λ p k.
                  let own = and_parts (agrees (get_or d.symbols i Dash) (get_or p.point i false)) (holds (free d i) p) (sym (holds-own d i p (inside d cube_d)) ∙ k) in
                  holds-own c i p (inside c cube)
                  ∙ and_from (agrees (get_or c.symbols i Dash) (get_or p.point i false)) (holds (free c i) p)
                  (ap (λ x. agrees x (get_or p.point i false)) (e ∙ sym lit) ∙ own.0) (below p own.1)
            ];
      }
