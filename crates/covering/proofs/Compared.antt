-- Rising lists of numbers compared by their parts, and lists of numbers of two kinds.
use Rattle.std.proofs.Common.{◌≡◌, ℕ, suc, ◌+◌, ◌<◌, ◌≤◌, ◌⊎◌, inl, inr, Bool, true, false, cond, not, eqb, ltb, List, [], ◌∷◌, length, refl, sym, ap, ap₂, subst, ◌∙◌, arith}
use Rattle.std.specs.Prelude.{filter}
use Rattle.std.specs.Cmp.{nat_cmp_is, both_ways as same_bool}
use Rattle.std.specs.Cmp.Lexicographic.{slice_cmp}
use Rattle.std.specs.Ordering.{nat_cmp, ordering_then}
use Rattle.std.specs.declared.cmp.Ordering.{Ordering}
use Rattle.std.specs.declared.cmp.Ordering.TheVariants.{Less, Equal, Greater}
use Rattle.std.proofs.lemmas.Bool.{cases_Bool, cases_lt, cases_order, both_ways, or_parts, true≢false, ltb-false, eqb-false}
use Rattle.covering.specs.Table.{has, RisesFrom}
use Rattle.covering.specs.Cover.{sum_over, Precedes}
use Rattle.covering.specs.Steps.{put}
use Rattle.covering.proofs.Sets.{has_here, has_later, has_cases, lacks_below, filter_parts, filter_keeps, filter_rises, put_only, put_rises, put_keeps, put_length, sum_put, first_by_sets}
use Rattle.covering.proofs.Subsets.{same_list, minus, minus_keeps, minus_length}

-- ---- a rising list within another

empty : (xs : List ℕ) → length xs ≡ 0 → xs ≡ []
empty [] e = refl
empty (x ∷ xs) e = absurd (omega (arith, e))

pub same_or_shorter : (xs ys : List ℕ) → RisesFrom 0 xs → RisesFrom 0 ys → ((n : ℕ) → has n xs ≡ true → has n ys ≡ true) → (xs ≡ ys) ⊎ (length xs < length ys)
same_or_shorter xs ys r q within = elim (cases_lt (length xs) (length ys)) [
  | inl lt ↦ inr lt
  | inr past ↦ (
      let long = minus_length 0 ys xs q r within in
      let none' = empty (minus ys xs) (omega (arith, long, past)) in
      inl (same_list 0 xs ys r q within (λ n h. elim (cases_Bool (has n xs)) [
        | inl e ↦ e
        | inr e ↦ absurd (true≢false (sym (minus_keeps n ys xs h e) ∙ ap (has n) none'))
      ])))
]

-- ---- lists whose numbers that pass a test are the same

split_length : (test : ℕ → Bool) (xs : List ℕ) → length xs ≡ length (filter test xs) + length (filter (λ n. not (test n)) xs)
split_length test [] = refl
split_length test (x ∷ xs) = go (test x) (split_length test xs)
  where
    go : (b : Bool) → length xs ≡ length (filter test xs) + length (filter (λ n. not (test n)) xs)
        → suc (length xs) ≡ length (cond b (x ∷ filter test xs) (filter test xs)) + length (cond (not b) (x ∷ filter (λ n. not (test n)) xs) (filter (λ n. not (test n)) xs))
    go true e = omega arith
    go false e = omega arith

split_sum : (count : ℕ → ℕ) (test : ℕ → Bool) (xs : List ℕ) → sum_over count xs ≡ sum_over count (filter test xs) + sum_over count (filter (λ n. not (test n)) xs)
split_sum count test [] = refl
split_sum count test (x ∷ xs) = go (test x) (split_sum count test xs)
  where
    go : (b : Bool) → sum_over count xs ≡ sum_over count (filter test xs) + sum_over count (filter (λ n. not (test n)) xs)
        → count x + sum_over count xs ≡ sum_over count (cond b (x ∷ filter test xs) (filter test xs)) + sum_over count (cond (not b) (x ∷ filter (λ n. not (test n)) xs) (filter (λ n. not (test n)) xs))
    go true e = omega arith
    go false e = omega arith

-- what two numbers and the rest of two lists say of their order
head_order : (x y : ℕ) (o : Ordering) → ordering_then (nat_cmp x y) o ≡ Less → (x < y) ⊎ ((x ≡ y) × (o ≡ Less))
head_order x y o h = go (nat_cmp x y) refl h
  where
    go : (r : Ordering) → nat_cmp x y ≡ r → ordering_then r o ≡ Less → (x < y) ⊎ ((x ≡ y) × (o ≡ Less))
    go Less e k = elim (cases_order x y) [ inl f ↦ absurd (let z = sym e ∙ sym (nat_cmp_is x y Equal f) in cc) | inr (inl f) ↦ inl f | inr (inr f) ↦ absurd (let z = sym e ∙ sym (nat_cmp_is x y Greater f) in cc) ]
    go Equal e k = elim (cases_order x y) [ inl f ↦ inr (f, k) | inr (inl f) ↦ inl f | inr (inr f) ↦ absurd (let z = sym e ∙ sym (nat_cmp_is x y Greater f) in cc) ]
    go Greater e k = cc

less_first : (x y : ℕ) (o : Ordering) → x < y → ordering_then (nat_cmp x y) o ≡ Less
less_first x y o lt = ap (λ r. ordering_then r o) (sym (nat_cmp_is x y Less lt))

equal_first : (x y : ℕ) (o : Ordering) → x ≡ y → ordering_then (nat_cmp x y) o ≡ o
equal_first x y o e = ap (λ r. ordering_then r o) (sym (nat_cmp_is x y Equal e))

-- the first number in which two rising lists differ
pub record IsFirstDifference (s x : List ℕ) : Type 0 where
  pub number : ℕ
  pub there : has number s ≡ true
  pub lacks : has number x ≡ false
  pub before : (m : ℕ) → m < number → has m s ≡ has m x

first_difference : (l : ℕ) (s x : List ℕ) → RisesFrom l s → RisesFrom l x → length s ≡ length x → slice_cmp nat_cmp s x ≡ Less → IsFirstDifference s x
first_difference l [] [] r q e h = cc
first_difference l [] (b ∷ x) r q e h = absurd (omega (arith, e))
first_difference l (a ∷ s) [] r q e h = absurd (omega (arith, e))
first_difference l (a ∷ s) (b ∷ x) r q e h = elim (head_order a b (slice_cmp nat_cmp s x) h) [
  | inl lt ↦ record {
    number = a;
    there = has_here a a s refl;
    lacks = lacks_below a (suc a) (b ∷ x) (omega (arith, lt), q.1) (omega arith);
    before = λ m below. lacks_below m a (a ∷ s) (omega arith, r.1) below ∙ sym (lacks_below m a (b ∷ x) (omega (arith, lt), q.1) below);
  }
  | inr same ↦ (
      let rest = first_difference (suc a) s x r.1 (subst (λ n. RisesFrom (suc n) x) (sym same.0) q.1) (omega (arith, e)) same.1 in
      record {
        number = rest.number;
        there = has_later rest.number a s rest.there;
        lacks = elim (cases_Bool (has rest.number (b ∷ x))) [
          | inr f ↦ f
          | inl f ↦ absurd (elim (has_cases rest.number b x f) [
            | inl g ↦ both_ways _ (lacks_below rest.number (suc a) s r.1 (omega (arith, g, same.0))) rest.there
            | inr g ↦ both_ways _ rest.lacks g
          ])
        ];
        before = λ m below. same_bool (has m (a ∷ s)) (has m (b ∷ x))
            (λ f. elim (has_cases m a s f) [ inl g ↦ has_here m b x (g ∙ same.0) | inr g ↦ has_later m b x (sym (rest.before m below) ∙ g) ])
            (λ f. elim (has_cases m b x f) [ inl g ↦ has_here m a s (g ∙ sym same.0) | inr g ↦ has_later m a s (rest.before m below ∙ g) ]);
      })
]

module _ (count : ℕ → ℕ) (test : ℕ → Bool) (s x : List ℕ) (s_rises : RisesFrom 0 s) (x_rises : RisesFrom 0 x) (same : filter test s ≡ filter test x) where
  abbrev rest : List ℕ → List ℕ
  rest xs = filter (λ n. not (test n)) xs

  part : (n : ℕ) (xs : List ℕ) → has n xs ≡ true → (has n (filter test xs) ≡ true) ⊎ ((has n (rest xs) ≡ true) × (test n ≡ false))
  part n xs h = elim (cases_Bool (test n)) [
    | inl e ↦ inl (filter_keeps test n xs h e)
    | inr e ↦ inr (filter_keeps (λ m. not (test m)) n xs h (ap not e), e)
  ]

  whole : (n : ℕ) (xs : List ℕ) → has n (rest xs) ≡ true → has n xs ≡ true
  whole n xs h = (filter_parts (λ m. not (test m)) n xs h).0

  long_s : length s ≡ length (filter test x) + length (rest s)
  long_s = split_length test s ∙ ap (λ l. length l + length (rest s)) same

  sum_s : sum_over count s ≡ sum_over count (filter test x) + sum_over count (rest s)
  sum_s = split_sum count test s ∙ ap (λ l. sum_over count l + sum_over count (rest s)) same

  carried : (a b : List ℕ) (n : ℕ) → filter test a ≡ filter test b → (has n (rest a) ≡ true → has n b ≡ true) → has n a ≡ true → has n b ≡ true
  carried a b n e other h = elim (part n a h) [
    | inl f ↦ (filter_parts test n b (subst (λ l. has n l ≡ true) e f)).0
    | inr f ↦ other f.0
  ]

  both_same : rest s ≡ rest x → s ≡ x
  both_same e = same_list 0 s x s_rises x_rises
      (λ n. carried s x n same (λ f. whole n x (subst (λ l. has n l ≡ true) e f)))
      (λ n. carried x s n (sym same) (λ f. whole n s (subst (λ l. has n l ≡ true) (sym e) f)))

  both_first : length (rest s) ≡ length (rest x) → slice_cmp nat_cmp (rest s) (rest x) ≡ Less → slice_cmp nat_cmp s x ≡ Less
  both_first long less =
      let d = first_difference 0 (rest s) (rest x) (filter_rises (λ n. not (test n)) 0 s s_rises) (filter_rises (λ n. not (test n)) 0 x x_rises) long less in
      let out : test d.number ≡ false = passed (test d.number) (filter_parts (λ n. not (test n)) d.number s d.there).1 in
      first_by_sets d.number 0 s x s_rises x_rises (let a = long_s in let b = split_length test x in omega (arith, long)) (whole d.number s d.there)
      (elim (cases_Bool (has d.number x)) [
        | inr f ↦ f
        | inl f ↦ absurd (both_ways _ d.lacks (filter_keeps (λ n. not (test n)) d.number x f (ap not out)))
      ])
      (λ m below. same_bool (has m s) (has m x)
      (carried s x m same (λ f. whole m x (sym (d.before m below) ∙ f)))
      (carried x s m (sym same) (λ f. whole m s (d.before m below ∙ f))))
    where
      passed : (b : Bool) → not b ≡ true → b ≡ false
      passed true e = absurd (true≢false (sym e))
      passed false e = refl

  -- the rests decide the order
  pub by_rests : (rest s ≡ rest x) ⊎ Precedes count (rest s) (rest x) → (s ≡ x) ⊎ Precedes count s x
  by_rests (inl e) = inl (both_same e)
  by_rests (inr (inl shorter)) = inr (inl (let a = long_s in let b = split_length test x in omega arith))
  by_rests (inr (inr (long, inl less))) = inr (inr ((let a = long_s in let b = split_length test x in omega (arith, long)), inl (let a = sum_s in let b = split_sum count test x in omega arith)))
  by_rests (inr (inr (long, inr (tied, first)))) = inr (inr (
    (let a = long_s in let b = split_length test x in omega (arith, long)),
    inr ((let a = sum_s in let b = split_sum count test x in omega (arith, tied)), both_first long first),
  ))

-- ---- numbers of one kind beside numbers of another

-- lists of one length whose numbers are related one by one
abbrev pub ArePaired : (ℕ → ℕ → Type 0) → List ℕ → List ℕ → Type 0
ArePaired R [] [] = Unit {0}
ArePaired R [] (x ∷ xs) = ⊥
ArePaired R (y ∷ ys) [] = ⊥
ArePaired R (y ∷ ys) (x ∷ xs) = R y x × ArePaired R ys xs

-- the first list is shorter, or as long and counts less, or as much and its numbers are no later
abbrev pub IsNotAfter : (ℕ → ℕ → Type 0) → (ℕ → ℕ) → (ℕ → ℕ) → List ℕ → List ℕ → Type 0
IsNotAfter R one two ys xs = (length ys < length xs)
    ⊎ ((length ys ≡ length xs) × ((sum_over one ys < sum_over two xs) ⊎ ((sum_over one ys ≡ sum_over two xs) × ArePaired R ys xs)))

pub not_longer : (R : ℕ → ℕ → Type 0) (one two : ℕ → ℕ) (ys xs : List ℕ) → IsNotAfter R one two ys xs → length ys ≤ length xs
not_longer R one two ys xs (inl h) = omega arith
not_longer R one two ys xs (inr h) = omega (arith, h.0)

put_there : (b : ℕ) (ys : List ℕ) → RisesFrom 0 ys → has b ys ≡ true → put b ys ≡ ys
put_there b ys r h = same_list 0 (put b ys) ys (put_rises b 0 ys (omega arith) r) r
    (λ n f. elim (put_only n b ys f) [ inl g ↦ subst (λ m. has m ys ≡ true) (sym g) h | inr g ↦ g ])
    (λ n f. put_keeps n b ys f)

-- R says that the first number is no later than the second
module _ (R : ℕ → ℕ → Type 0) (down : (a b x : ℕ) → a < b → R b x → R a x) (up : (b x y : ℕ) → x < y → R b x → R b y) where
  put_no_later : (b x : ℕ) (ys xs : List ℕ) → RisesFrom (suc x) xs → has b ys ≡ false → R b x → ArePaired R ys xs → ArePaired R (put b ys) (x ∷ xs)
  put_no_later b x [] [] r lacks now h = (now, tt)
  put_no_later b x [] (z ∷ xs) r lacks now h = absurd h
  put_no_later b x (y ∷ ys) [] r lacks now h = absurd h
  put_no_later b x (y ∷ ys) (z ∷ xs) r lacks now h =
      go (ltb b y) (eqb b y) refl refl (λ later. put_no_later b z ys xs r.1 (or_parts _ _ lacks).1 later h.1)
    where
      go : (p q : Bool) → ltb b y ≡ p → eqb b y ≡ q → (R b z → ArePaired R (put b ys) (z ∷ xs)) → ArePaired R (cond p (b ∷ y ∷ ys) (cond q (y ∷ ys) (y ∷ put b ys))) (x ∷ z ∷ xs)
      go true q e f more = (now, h)
      go false true e f more = absurd (both_ways _ (or_parts _ _ lacks).0 f)
      go false false e f more =
          let l = ltb-false b y e in
          let d = eqb-false b y f in
          (down y b x (omega arith) now, more (up b x z r.0 now))

  -- a number that is as good as the next one is put
  pub not_after_put : (one two : ℕ → ℕ) (b x : ℕ) (ys xs : List ℕ) → RisesFrom 0 ys → RisesFrom (suc x) xs → (one b < two x) ⊎ ((one b ≡ two x) × R b x) → IsNotAfter R one two ys xs → IsNotAfter R one two (put b ys) (x ∷ xs)
  not_after_put one two b x ys xs q r good h = elim (cases_Bool (has b ys)) [
    | inl e ↦ inl (let l = not_longer R one two ys xs h in let f = ap length (put_there b ys q e) in omega (arith, l, f))
    | inr e ↦ go e (put_length b ys e) (sum_put one b ys e) good h
  ]
    where
      go : has b ys ≡ false → length (put b ys) ≡ suc (length ys) → sum_over one (put b ys) ≡ one b + sum_over one ys → (one b < two x) ⊎ ((one b ≡ two x) × R b x) → IsNotAfter R one two ys xs
          → IsNotAfter R one two (put b ys) (x ∷ xs)
      go e long sum good (inl shorter) = inl (omega arith)
      go e long sum (inl g) (inr (same, inl less)) = inr (omega (arith, same), inl (omega arith))
      go e long sum (inl g) (inr (same, inr (tied, later))) = inr (omega (arith, same), inl (omega (arith, tied)))
      go e long sum (inr g) (inr (same, inl less)) = inr (omega (arith, same), inl (omega (arith, g.0)))
      go e long sum (inr g) (inr (same, inr (tied, later))) = inr (omega (arith, same), inr (omega (arith, g.0, tied), put_no_later b x ys xs r e g.1 later))

abbrev list_head : List ℕ → ℕ
list_head [] = 0
list_head (x ∷ xs) = x

abbrev list_tail : List ℕ → List ℕ
list_tail [] = []
list_tail (x ∷ xs) = xs

-- P says that two numbers stand for the same
module _ (R : ℕ → ℕ → Type 0) (one two : ℕ → ℕ) (P : ℕ → ℕ → Type 0) (less : (s n y x : ℕ) → P s n → s < y → R y x → n < x) (no_more : (s n x : ℕ) → P s n → R s x → n ≤ x)
    (counts : (s n : ℕ) → P s n → one s ≡ two n) where
  same_length : (ss ns : List ℕ) → ArePaired P ss ns → length ss ≡ length ns
  same_length [] [] h = refl
  same_length [] (n ∷ ns) h = absurd h
  same_length (s ∷ ss) [] h = absurd h
  same_length (s ∷ ss) (n ∷ ns) h = ap suc (same_length ss ns h.1)

  same_sum : (ss ns : List ℕ) → ArePaired P ss ns → sum_over one ss ≡ sum_over two ns
  same_sum [] [] h = refl
  same_sum [] (n ∷ ns) h = absurd h
  same_sum (s ∷ ss) [] h = absurd h
  same_sum (s ∷ ss) (n ∷ ns) h = ap₂ (λ a b. a + b) (counts s n h.0) (same_sum ss ns h.1)

  heads : (s y : ℕ) (ss ys : List ℕ) → (s ∷ ss ≡ y ∷ ys) ⊎ (slice_cmp nat_cmp (s ∷ ss) (y ∷ ys) ≡ Less) → (s < y) ⊎ ((s ≡ y) × ((ss ≡ ys) ⊎ (slice_cmp nat_cmp ss ys ≡ Less)))
  heads s y ss ys (inl f) = inr (ap list_head f, inl (ap list_tail f))
  heads s y ss ys (inr f) = elim (head_order s y (slice_cmp nat_cmp ss ys) f) [ inl lt ↦ inl lt | inr same ↦ inr (same.0, inr same.1) ]

  in_order : (ss ns ys xs : List ℕ) → ArePaired P ss ns → length ss ≡ length ys → (ss ≡ ys) ⊎ (slice_cmp nat_cmp ss ys ≡ Less) → ArePaired R ys xs → (ns ≡ xs) ⊎ (slice_cmp nat_cmp ns xs ≡ Less)
  in_order [] [] [] [] p e o h = inl refl
  in_order [] [] [] (x ∷ xs) p e o h = absurd h
  in_order [] ns (y ∷ ys) xs p e o h = absurd (omega (arith, e))
  in_order (s ∷ ss) ns [] xs p e o h = absurd (omega (arith, e))
  in_order [] (n ∷ ns) [] xs p e o h = absurd p
  in_order (s ∷ ss) [] (y ∷ ys) xs p e o h = absurd p
  in_order (s ∷ ss) (n ∷ ns) (y ∷ ys) [] p e o h = absurd h
  in_order (s ∷ ss) (n ∷ ns) (y ∷ ys) (x ∷ xs) p e o h = go (heads s y ss ys o) (λ more. in_order ss ns ys xs p.1 (omega (arith, e)) more h.1)
    where
      next : n ≤ x → (n < x) ⊎ (n ≡ x)
      next le = elim (cases_lt n x) [ inl lt ↦ inl lt | inr past ↦ inr (omega arith) ]

      go : (s < y) ⊎ ((s ≡ y) × ((ss ≡ ys) ⊎ (slice_cmp nat_cmp ss ys ≡ Less))) → ((ss ≡ ys) ⊎ (slice_cmp nat_cmp ss ys ≡ Less) → (ns ≡ xs) ⊎ (slice_cmp nat_cmp ns xs ≡ Less))
          → (n ∷ ns ≡ x ∷ xs) ⊎ (slice_cmp nat_cmp (n ∷ ns) (x ∷ xs) ≡ Less)
      go (inl lt) more = inr (less_first n x (slice_cmp nat_cmp ns xs) (less s n y x p.0 lt h.0))
      go (inr same) more = elim (next (no_more s n x p.0 (subst (λ m. R m x) (sym same.0) h.0))) [
        | inl lt ↦ inr (less_first n x (slice_cmp nat_cmp ns xs) lt)
        | inr tied ↦ elim (more same.1) [
          | inl f ↦ inl (ap₂ (λ z zs. z ∷ zs) tied f)
          | inr f ↦ inr (equal_first n x (slice_cmp nat_cmp ns xs) tied ∙ f)
        ]
      ]

  -- no longer, and as long only if no dearer, and as dear only if no later
  by_turns : (ss ys : List ℕ) → (ss ≡ ys) ⊎ Precedes one ss ys
      → (length ss < length ys) ⊎ ((length ss ≡ length ys) × ((sum_over one ss < sum_over one ys) ⊎ ((sum_over one ss ≡ sum_over one ys) × ((ss ≡ ys) ⊎ (slice_cmp nat_cmp ss ys ≡ Less)))))
  by_turns ss ys (inl e) = inr (ap length e, inr (ap (sum_over one) e, inl e))
  by_turns ss ys (inr (inl shorter)) = inl shorter
  by_turns ss ys (inr (inr (long, inl cheaper))) = inr (long, inl cheaper)
  by_turns ss ys (inr (inr (long, inr (tied, first)))) = inr (long, inr (tied, inr first))

  -- what is not after a list that is not after another is not after that one
  pub precedes_other : (ss ns ys xs : List ℕ) → ArePaired P ss ns → (ss ≡ ys) ⊎ Precedes one ss ys → IsNotAfter R one two ys xs → (ns ≡ xs) ⊎ Precedes two ns xs
  precedes_other ss ns ys xs p o h = go (same_length ss ns p) (same_sum ss ns p) (by_turns ss ys o) h
    where
      go : length ss ≡ length ns → sum_over one ss ≡ sum_over two ns
          → (length ss < length ys) ⊎ ((length ss ≡ length ys) × ((sum_over one ss < sum_over one ys) ⊎ ((sum_over one ss ≡ sum_over one ys) × ((ss ≡ ys) ⊎ (slice_cmp nat_cmp ss ys ≡ Less)))))
          → IsNotAfter R one two ys xs → (ns ≡ xs) ⊎ Precedes two ns xs
      go l c (inl shorter) k = inr (inl (let m = not_longer R one two ys xs k in omega arith))
      go l c (inr (long, rest)) (inl shorter) = inr (inl (omega (arith, long)))
      go l c (inr (long, inl cheaper)) (inr (same, inl other)) = inr (inr (omega (arith, long, same), inl (omega arith)))
      go l c (inr (long, inl cheaper)) (inr (same, inr (tied, later))) = inr (inr (omega (arith, long, same), inl (omega (arith, tied))))
      go l c (inr (long, inr (tied, first))) (inr (same, inl other)) = inr (inr (omega (arith, long, same), inl (omega (arith, tied))))
      go l c (inr (long, inr (tied, first))) (inr (same, inr (tied_too, later))) = elim (in_order ss ns ys xs p long first later) [
        | inl e ↦ inl e
        | inr e ↦ inr (inr (omega (arith, long, same), inr (omega (arith, tied, tied_too), e)))
      ]
