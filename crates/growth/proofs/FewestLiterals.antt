-- The implicants between a narrow cube and a wide one: none is better than the best.
use Rattle.std.proofs.Common.{◌≡◌, ◌≢◌, ℕ, zero, suc, ◌+◌, ◌<◌, ◌≤◌, ◌⊎◌, inl, inr, Bool, true, false, List, [], ◌∷◌, length, replicate, get_or, count_by, cond, refl, ap, sym, subst, ◌∙◌, arith}
use Rattle.std.specs.Cmp.Lexicographic.{slice_cmp}
use Rattle.std.specs.Ordering.{ordering_then, bool_cmp}
use Rattle.std.specs.declared.cmp.Ordering.{Ordering}
use Rattle.std.specs.declared.cmp.Ordering.TheVariants.{Less, Equal, Greater}
use Rattle.std.proofs.lemmas.List.Recursion.{is_count_by}
use Rattle.std.proofs.lemmas.Bool.{cases_Bool, cases_eq, cases_lt, false≢true}
use Rattle.std.proofs.lemmas.List.{get_or-set_same, get_or-set_other, get_or_past, get_or-replicate, length-replicate}
use Rattle.cube.specs.declared.symbol.Symbol.{Symbol}
use Rattle.cube.specs.declared.symbol.Symbol.TheVariants.{Dash, Zero, One}
use Rattle.cube.specs.Pattern.{agrees, is_literal}
use Rattle.cube.specs.Cube.{Cube, holds, literals, with_symbol, IsCube, IsSubset}
use Rattle.cube.specs.Order.{symbol_cmp, row_cmp}
use Rattle.cube.proofs.HoldsLemmas.{IsSubset-from_Covers}
use Rattle.cover.specs.Cubes.{Cubes}
use Rattle.cover.proofs.SumSplit.{IsCube-with_symbol}
use Rattle.covering.specs.declared.choice.Choice.TheVariants.{Literals}
use Rattle.growth.specs.declared.prime.Side.TheVariants.{Outside}
use Rattle.growth.specs.Growth.{on_side, IsSettledInput}
use Rattle.growth.specs.Dominating.{IsUpTo, IsAsGood, IsBestFreed, IsImplicantOver, HasLiteralsOf, IsBetween, HasNoLiteral, IsNoWorse, AreNoBetter}
use Rattle.growth.proofs.GrowthSteps.{same_sizes, covering}

-- ---- how many pass a test

abbrev count : {X : Type 0} → (X → Bool) → List X → ℕ
count p [] = 0
count p (x ∷ xs) = cond (p x) (1 + count p xs) (count p xs)

count_is : {X : Type 0} (p : X → Bool) (xs : List X) → count p xs ≡ count_by p xs
count_is p xs = is_count_by (count p) p refl (λ y ys. refl) xs

count_step : {X : Type 0} (p : X → Bool) (x : X) (xs : List X) → count_by p (x ∷ xs) ≡ cond (p x) (1 + count_by p xs) (count_by p xs)
count_step p x xs = sym (count_is p (x ∷ xs)) ∙ ap (λ n. cond (p x) (1 + n) n) (count_is p xs)

count_next : {X : Type 0} (p : X → Bool) (x : X) (xs : List X) → ((p x ≡ true) × (count_by p (x ∷ xs) ≡ 1 + count_by p xs)) ⊎ ((p x ≡ false) × (count_by p (x ∷ xs) ≡ count_by p xs))
count_next p x xs = elim (cases_Bool (p x)) [
  | inl e ↦ inl (e, count_step p x xs ∙ ap (λ b. cond b (1 + count_by p xs) (count_by p xs)) e)
  | inr e ↦ inr (e, count_step p x xs ∙ ap (λ b. cond b (1 + count_by p xs) (count_by p xs)) e)
]

-- an element that passes if another does adds as much
count_ahead : {X : Type 0} (p : X → Bool) (x y : X) (xs ys : List X) → (p x ≡ true → p y ≡ true) → count_by p (x ∷ xs) + count_by p ys ≤ count_by p (y ∷ ys) + count_by p xs
count_ahead p x y xs ys h = elim (count_next p x xs) [
  | inl one ↦ elim (count_next p y ys) [
    | inl two ↦ (let a = one.1 in let b = two.1 in omega (arith, a, b))
    | inr two ↦ absurd (false≢true (sym two.0 ∙ h one.0))
  ]
  | inr one ↦ elim (count_next p y ys) [
    | inl two ↦ (let a = one.1 in let b = two.1 in omega (arith, a, b))
    | inr two ↦ (let a = one.1 in let b = two.1 in omega (arith, a, b))
  ]
]

-- where each that passes in one list passes in another, as many do, and more if one passes there alone
pub count_all : {X : Type 0} (p : X → Bool) (d : X) (xs ys : List X) → length ys ≡ length xs → ((k : ℕ) → p (get_or xs k d) ≡ true → p (get_or ys k d) ≡ true) → count_by p xs ≤ count_by p ys
count_all p d [] ys e h = omega arith
count_all p d (x ∷ xs) [] e h = absurd (omega (arith, e))
count_all p d (x ∷ xs) (y ∷ ys) e h =
    let more = count_all p d xs ys (omega (arith, e)) (λ k. h (suc k)) in
    let step = count_ahead p x y xs ys (h 0) in
    omega (arith, more, step)

pub count_alone : {X : Type 0} (p : X → Bool) (d : X) (xs ys : List X) (k : ℕ) → length ys ≡ length xs → k < length xs → ((j : ℕ) → p (get_or xs j d) ≡ true → p (get_or ys j d) ≡ true) → p (get_or xs k d) ≡ false → p (get_or ys k d) ≡ true
    → count_by p xs < count_by p ys
count_alone p d [] ys k e lt h off on = absurd (omega (arith, lt))
count_alone p d (x ∷ xs) [] k e lt h off on = absurd (omega (arith, e))
count_alone p d (x ∷ xs) (y ∷ ys) zero e lt h off on =
    let more = count_all p d xs ys (omega (arith, e)) (λ k. h (suc k)) in
    elim (count_next p x xs) [
      | inl one ↦ absurd (false≢true (sym off ∙ one.0))
      | inr one ↦ elim (count_next p y ys) [
        | inl two ↦ (let a = one.1 in let b = two.1 in omega (arith, a, b, more))
        | inr two ↦ absurd (false≢true (sym two.0 ∙ on))
      ]
    ]
count_alone p d (x ∷ xs) (y ∷ ys) (suc k) e lt h off on =
    let more = count_alone p d xs ys k (omega (arith, e)) (omega (arith, lt)) (λ j. h (suc j)) off on in
    let step = count_ahead p x y xs ys (h 0) in
    omega (arith, more, step)

-- ---- symbols

dash_or : (s : Symbol) → (s ≡ Dash) ⊎ ((is_literal s ≡ true) × (s ≢ Dash))
dash_or Dash = inl refl
dash_or Zero = inr (refl, λ e. false≢true (sym (ap is_literal e)))
dash_or One = inr (refl, λ e. false≢true (sym (ap is_literal e)))

no_dash : (s : Symbol) → is_literal s ≡ true → s ≢ Dash
no_dash s h e = false≢true (sym (ap is_literal e) ∙ h)

-- of symbols that contain each other the greater one is a dash, or they are equal
wider : (s t : Symbol) → ((bit : Bool) → agrees s bit ≡ true → agrees t bit ≡ true) → (t ≡ Dash) ⊎ (t ≡ s)
wider s Dash f = inl refl
wider Zero Zero f = inr refl
wider One One f = inr refl
wider Dash Zero f = absurd (false≢true (f true refl))
wider Dash One f = absurd (false≢true (f false refl))
wider Zero One f = absurd (false≢true (f false refl))
wider One Zero f = absurd (false≢true (f true refl))

dash_step : (b c : Symbol) (bs ws cs : List Symbol) → slice_cmp symbol_cmp (b ∷ bs) (Dash ∷ ws) ≢ Greater → (slice_cmp symbol_cmp bs ws ≢ Greater → slice_cmp symbol_cmp bs cs ≢ Greater) → slice_cmp symbol_cmp (b ∷ bs) (c ∷ cs) ≢ Greater
dash_step Dash Dash bs ws cs h more = more h
dash_step Dash Zero bs ws cs h more = λ after. cc
dash_step Dash One bs ws cs h more = λ after. cc
dash_step Zero c bs ws cs h more = absurd (h refl)
dash_step One c bs ws cs h more = absurd (h refl)

same_step : (b w : Symbol) (bs ws cs : List Symbol) → slice_cmp symbol_cmp (b ∷ bs) (w ∷ ws) ≢ Greater → (slice_cmp symbol_cmp bs ws ≢ Greater → slice_cmp symbol_cmp bs cs ≢ Greater) → slice_cmp symbol_cmp (b ∷ bs) (w ∷ cs) ≢ Greater
same_step Dash Dash bs ws cs h more = more h
same_step Dash Zero bs ws cs h more = λ after. cc
same_step Dash One bs ws cs h more = λ after. cc
same_step Zero Dash bs ws cs h more = absurd (h refl)
same_step Zero Zero bs ws cs h more = more h
same_step Zero One bs ws cs h more = λ after. cc
same_step One Dash bs ws cs h more = absurd (h refl)
same_step One Zero bs ws cs h more = absurd (h refl)
same_step One One bs ws cs h more = more h

-- literals beside those of a cube come no earlier
pub up_to_more : (bs ws cs : List Symbol) → length cs ≡ length ws → slice_cmp symbol_cmp bs ws ≢ Greater → ((k : ℕ) → get_or ws k Dash ≢ Dash → get_or cs k Dash ≡ get_or ws k Dash) → slice_cmp symbol_cmp bs cs ≢ Greater
up_to_more bs [] [] e h same = h
up_to_more bs [] (c ∷ cs) e h same = absurd (omega (arith, e))
up_to_more bs (w ∷ ws) [] e h same = absurd (omega (arith, e))
up_to_more [] (w ∷ ws) (c ∷ cs) e h same = λ after. cc
up_to_more (b ∷ bs) (w ∷ ws) (c ∷ cs) e h same =
    let more : slice_cmp symbol_cmp bs ws ≢ Greater → slice_cmp symbol_cmp bs cs ≢ Greater = λ k. up_to_more bs ws cs (omega (arith, e)) k (λ j. same (suc j)) in
    elim (dash_or w) [
      | inl dash ↦ dash_step b c bs ws cs (subst (λ z. slice_cmp symbol_cmp (b ∷ bs) (z ∷ ws) ≢ Greater) dash h) more
      | inr literal ↦ subst (λ z. slice_cmp symbol_cmp (b ∷ bs) (z ∷ cs) ≢ Greater) (sym (same 0 literal.1)) (same_step b w bs ws cs h more)
    ]

-- ---- a wide cube that has too many literals, or comes no earlier

up_to_by_rows : (wide best : Cube) → row_cmp best wide ≢ Greater → IsUpTo wide best
up_to_by_rows wide best h e = h (ap (λ o. ordering_then o (slice_cmp bool_cmp best.outputs wide.outputs)) e)

pub up_to_if_less : (wide best : Cube) (o : Ordering) → o ≡ row_cmp best wide → o ≡ Less → IsUpTo wide best
up_to_if_less wide best o is less = up_to_by_rows wide best (λ after. (let same : Less ≡ Greater = sym less ∙ (is ∙ after) in cc))

pub up_to_if_equal : (wide best : Cube) (o : Ordering) → o ≡ row_cmp best wide → o ≡ Equal → IsUpTo wide best
up_to_if_equal wide best o is equal = up_to_by_rows wide best (λ after. (let same : Equal ≡ Greater = sym equal ∙ (is ∙ after) in cc))

pub as_many : (wide c : Cube) → HasLiteralsOf wide c → length c.symbols ≡ length wide.symbols → literals wide ≤ literals c
as_many wide c has e = count_all is_literal Dash wide.symbols c.symbols e (λ k h. ap is_literal (has k (no_dash (get_or wide.symbols k Dash) h)) ∙ h)

pub late_by_number : (wide best : Cube) → literals best < literals wide → IsNoWorse wide best
late_by_number wide best more c has e = inl (let most = as_many wide c has e in omega (arith, most, more))

pub late_by_order : (wide best : Cube) → literals wide ≡ literals best → IsUpTo wide best → IsNoWorse wide best
late_by_order wide best same up c has e =
    let most = as_many wide c has e in
    elim (cases_lt (literals best) (literals c)) [
      | inl less ↦ inl less
      | inr no_less ↦ inr (omega (arith, most, same, no_less), up_to_more best.symbols wide.symbols c.symbols e up has)
    ]

-- ---- those that keep a literal, and the others

module _ (off : Cubes) (narrow wide best kept freed : Cube) (i : ℕ) (narrow_cube : IsCube off.size narrow) (wide_cube : IsCube off.size wide) (lt : i < off.size.inputs) (kept_is : kept ≡ with_symbol wide i (get_or narrow.symbols i Dash)) (freed_is : freed ≡ with_symbol narrow i Dash) where
  keeps : (c : Cube) → IsBetween off narrow wide c → get_or c.symbols i Dash ≡ get_or narrow.symbols i Dash → IsBetween off narrow kept c
  keeps c between same = record {
    implicant = between.implicant;
    literals = λ k literal. elim (cases_eq k i) [
      | inl e ↦ ap (λ j. get_or c.symbols j Dash) e ∙ same
          ∙ sym (ap (λ j. get_or kept.symbols j Dash) e ∙ ap (λ z. get_or z.symbols i Dash) kept_is ∙ get_or-set_same wide.symbols i (get_or narrow.symbols i Dash) Dash (let long = wide_cube.has_size.0 in omega (arith, long, lt)))
      | inr ne ↦ (
          let own : get_or kept.symbols k Dash ≡ get_or wide.symbols k Dash = ap (λ z. get_or z.symbols k Dash) kept_is ∙ get_or-set_other wide.symbols i k (get_or narrow.symbols i Dash) Dash ne in
          between.literals k (λ dash. literal (own ∙ dash)) ∙ sym own)
    ];
  }

  freed_cube : IsCube off.size freed
  freed_cube = subst (IsCube off.size) (sym freed_is) (IsCube-with_symbol off.size narrow i Dash narrow_cube)

  frees : (c : Cube) → IsBetween off narrow wide c → get_or c.symbols i Dash ≡ Dash → IsBetween off freed wide c
  frees c between dash =
      let implicant = between.implicant in
      let over = covering off.size narrow c narrow_cube implicant.is_cube implicant.over in
      record {
        implicant = record {
          is_cube = implicant.is_cube;
          within = implicant.within;
          over = IsSubset-from_Covers c freed (same_sizes off.size freed c freed_cube implicant.is_cube) (record {
            inputs = λ k bit ok. elim (cases_eq k i) [
              | inl e ↦ ap (λ j. agrees (get_or c.symbols j Dash) bit) e ∙ ap (λ t. agrees t bit) dash
              | inr ne ↦ over.inputs k bit (ap (λ t. agrees t bit) (sym (ap (λ z. get_or z.symbols k Dash) freed_is ∙ get_or-set_other narrow.symbols i k Dash Dash ne)) ∙ ok)
            ];
            outputs = λ k on. over.outputs k (ap (λ z. get_or z.outputs k false) (sym freed_is) ∙ on);
          });
        };
        literals = between.literals;
      }

  pub no_better : AreNoBetter off narrow kept best → AreNoBetter off freed wide best → AreNoBetter off narrow wide best
  no_better one other c between =
      let implicant = between.implicant in
      let over = covering off.size narrow c narrow_cube implicant.is_cube implicant.over in
      elim (wider (get_or narrow.symbols i Dash) (get_or c.symbols i Dash) (over.inputs i)) [
        | inl dash ↦ other c (frees c between dash)
        | inr same ↦ one c (keeps c between same)
      ]

-- ---- a cube as good as each implicant

-- a literal of a cube that contains another is one of both
literal_of_both : (s t : Symbol) → ((bit : Bool) → agrees s bit ≡ true → agrees t bit ≡ true) → is_literal t ≡ true → is_literal s ≡ true
literal_of_both s t f h = elim (wider s t f) [
  | inl dash ↦ absurd (no_dash t h dash)
  | inr same ↦ ap is_literal (sym same) ∙ h
]

-- an implicant that contains the best one has no literal less
no_literal_less : (off : Cubes) (cube freed : Cube) → IsCube off.size freed → IsSubset (holds cube) (holds freed) → ((c : Cube) → IsImplicantOver off cube c → IsAsGood Literals c freed) → (k : ℕ) → k < off.size.inputs → IsSettledInput off.size (on_side Outside off.cubes) freed k
no_literal_less off cube freed freed_cube over good k lt d d_cube above within dash = elim (dash_or (get_or freed.symbols k Dash)) [
  | inl e ↦ e
  | inr literal ↦ (
      let covers = covering off.size freed d freed_cube d_cube above in
      let fewer : literals d < literals freed = count_alone is_literal Dash d.symbols freed.symbols k (freed_cube.has_size.0 ∙ sym d_cube.has_size.0) (let long = d_cube.has_size.0 in omega (arith, long, lt))
      (λ j. literal_of_both (get_or freed.symbols j Dash) (get_or d.symbols j Dash) (covers.inputs j)) (ap is_literal dash) literal.0 in
      elim (good d (record { is_cube = d_cube; within = within; over = λ p h. above p (over p h) })) [
        | inl less ↦ absurd (omega (arith, fewer, less))
        | inr same ↦ absurd (let e = same.0 in omega (arith, fewer, e))
      ])
]

pub fewest_freed : (off : Cubes) (cube wide freed : Cube) → IsCube off.size freed → IsSubset (holds cube) (holds freed) → HasNoLiteral wide → AreNoBetter off cube wide freed → IsBestFreed Literals off cube freed
fewest_freed off cube wide freed freed_cube over none best =
    let good : (c : Cube) → IsImplicantOver off cube c → IsAsGood Literals c freed = λ c implicant. best c (record { implicant = implicant; literals = λ k literal. absurd (literal (none k)) }) in
    record {
      settled = record {
        is_cube = freed_cube;
        over = over;
        inputs = no_literal_less off cube freed freed_cube over good;
        outputs = λ k lt. absurd (omega (arith, lt));
      };
      good = λ c is_cube within above. good c (record { is_cube = is_cube; within = within; over = above });
    }

-- ---- a cube with no literal

pub all_dashes : (symbols : List Symbol) (n : ℕ) → symbols ≡ replicate n Dash → (k : ℕ) → get_or symbols k Dash ≡ Dash
all_dashes symbols n e k = ap (λ l. get_or l k Dash) e ∙ elim (cases_lt k n) [
  | inl lt ↦ get_or-replicate n k Dash Dash lt
  | inr past ↦ get_or_past (replicate n Dash) k Dash (let long = length-replicate n Dash in omega (arith, long, past))
]
