-- Members of lists that are made of others, and lists that rise strictly.
use Rattle.std.proofs.Common.{◌≡◌, zero, suc, Bool, true, false, ◌||◌, cond, List, [], ◌∷◌, ◌++◌, map, refl, ap, sym, subst, ◌∙◌, arith, inl, inr, ◌⊎◌}
use Rattle.std.specs.List.{Contains, filter, flat_map, list_any, list_all, AllByRecursion}
use Rattle.std.specs.List.Sorted.{IsStrictlySortedBy}
use Rattle.std.specs.declared.cmp.Ordering.{Ordering}
use Rattle.std.specs.declared.cmp.Ordering.TheVariants.{Less}
use Rattle.std.proofs.lemmas.Bool.{cases_Bool, false≢true, and_parts, and_from}
use Rattle.std.proofs.lemmas.List.Elements.{Contains-append_left, Contains-append_right, Contains-append_cases}

pub Contains-here : {X : Type 0} (x : X) (xs : List X) → Contains (x ∷ xs) x
Contains-here x xs = (0, omega arith, refl)

pub Contains-there : {X : Type 0} (x : X) (xs : List X) (y : X) → Contains xs y → Contains (x ∷ xs) y
Contains-there x xs y h = (suc h.0, omega (arith, h.1), h.2)

pub Contains-nil : {X : Type 0} (y : X) → Contains [] y → ⊥
Contains-nil y h = omega (arith, h.1)

pub Contains-cases : {X : Type 0} (x : X) (xs : List X) (y : X) → Contains (x ∷ xs) y → (x ≡ y) ⊎ Contains xs y
Contains-cases x xs y (zero, lt, e) = inl e
Contains-cases x xs y (suc k, lt, e) = inr (k, omega arith, e)

pub Contains-map : {X Y : Type 0} (f : X → Y) (xs : List X) (x : X) → Contains xs x → Contains (map f xs) (f x)
Contains-map f [] x h = absurd (Contains-nil x h)
Contains-map f (y ∷ ys) x h = elim (Contains-cases y ys x h) [
  | inl e ↦ (0, omega arith, ap f e)
  | inr there ↦ Contains-there (f y) (map f ys) (f x) (Contains-map f ys x there)
]

pub Contains-map_cases : {X Y : Type 0} (f : X → Y) (xs : List X) (y : Y) → Contains (map f xs) y
    → (x : X) × Contains xs x × (f x ≡ y)
Contains-map_cases f [] y h = absurd (Contains-nil y h)
Contains-map_cases f (x ∷ xs) y h = elim (Contains-cases (f x) (map f xs) y h) [
  | inl e ↦ (x, Contains-here x xs, e)
  | inr there ↦ let r = Contains-map_cases f xs y there in (r.0, Contains-there x xs r.0 r.1, r.2)
]

pub Contains-flat_map : {X Y : Type 0} (f : X → List Y) (xs : List X) (x : X) (y : Y) → Contains xs x → Contains (f x) y
    → Contains (flat_map f xs) y
Contains-flat_map f [] x y h k = absurd (Contains-nil x h)
Contains-flat_map {Y = Y} f (z ∷ zs) x y h k = elim (Contains-cases z zs x h) [
  | inl e ↦ Contains-append_left (f z) (flat_map f zs) y (subst (λ l. Contains l y) (ap f (sym e)) k)
  | inr there ↦ Contains-append_right (f z) (flat_map f zs) y (Contains-flat_map f zs x y there k)
]

pub Contains-flat_map_cases : {X Y : Type 0} (f : X → List Y) (xs : List X) (y : Y) → Contains (flat_map f xs) y
    → (x : X) × Contains xs x × Contains (f x) y
Contains-flat_map_cases f [] y h = absurd (Contains-nil y h)
Contains-flat_map_cases f (x ∷ xs) y h = elim (Contains-append_cases (f x) (flat_map f xs) y h) [
  | inl here ↦ (x, Contains-here x xs, here)
  | inr there ↦ let r = Contains-flat_map_cases f xs y there in (r.0, Contains-there x xs r.0 r.1, r.2)
]

pub Contains-filter : {X : Type 0} (p : X → Bool) (xs : List X) (x : X) → Contains xs x → p x ≡ true → Contains (filter p xs) x
Contains-filter p [] x h t = absurd (Contains-nil x h)
Contains-filter p (y ∷ ys) x h t = elim (Contains-cases y ys x h) [
  | inl e ↦ rw (ap p e ∙ t) (0, omega arith, e)
  | inr there ↦ kept (p y) (Contains-filter p ys x there t)
]
  where
    kept : (b : Bool) → Contains (filter p ys) x → Contains (cond b (y ∷ filter p ys) (filter p ys)) x
    kept true k = Contains-there y (filter p ys) x k
    kept false k = k

filtered : {X : Type 0} (p : X → Bool) (y : X) (ys : List X) (x : X)
    → (Contains (filter p ys) x → Contains ys x × (p x ≡ true)) → (b : Bool) → p y ≡ b
    → Contains (cond b (y ∷ filter p ys) (filter p ys)) x → Contains (y ∷ ys) x × (p x ≡ true)
filtered p y ys x rest true e h = elim (Contains-cases y (filter p ys) x h) [
  | inl here ↦ ((0, omega arith, here), ap p (sym here) ∙ e)
  | inr there ↦ let r = rest there in (Contains-there y ys x r.0, r.1)
]
filtered p y ys x rest false e h = let r = rest h in (Contains-there y ys x r.0, r.1)

pub Contains-filter_cases : {X : Type 0} (p : X → Bool) (xs : List X) (x : X) → Contains (filter p xs) x → Contains xs x × (p x ≡ true)
Contains-filter_cases p [] x h = absurd (Contains-nil x h)
Contains-filter_cases p (y ∷ ys) x h = filtered p y ys x (Contains-filter_cases p ys x) (p y) refl h

pub list_all_at : {X : Type 0} (p : X → Bool) (xs : List X) (x : X) → list_all p xs ≡ true → Contains xs x → p x ≡ true
list_all_at p [] x h k = absurd (Contains-nil x k)
list_all_at p (y ∷ ys) x h k =
    let parts = and_parts (p y) (list_all p ys) h in
    elim (Contains-cases y ys x k) [
      | inl e ↦ ap p (sym e) ∙ parts.0
      | inr there ↦ list_all_at p ys x parts.1 there
    ]

pub list_all_from : {X : Type 0} (p : X → Bool) (xs : List X) → ((x : X) → Contains xs x → p x ≡ true) → list_all p xs ≡ true
list_all_from p [] h = refl
list_all_from p (x ∷ xs) h =
    and_from (p x) (list_all p xs) (h x (Contains-here x xs)) (list_all_from p xs (λ y k. h y (Contains-there x xs y k)))

pub list_any_none : {X : Type 0} (p : X → Bool) (xs : List X) (x : X) → list_any p xs ≡ false → Contains xs x → p x ≡ true → ⊥
list_any_none p [] x h k t = Contains-nil x k
list_any_none p (y ∷ ys) x h k t = elim (cases_Bool (p y)) [
  | inl on ↦ false≢true (sym h ∙ ap (λ b. b || list_any p ys) on)
  | inr off ↦ elim (Contains-cases y ys x k) [
    | inl e ↦ false≢true (sym off ∙ ap p e ∙ t)
    | inr there ↦ list_any_none p ys x (ap (λ b. b || list_any p ys) (sym off) ∙ h) there t
  ]
]

pub list_any_false : {X : Type 0} (p : X → Bool) (xs : List X) → ((x : X) → Contains xs x → p x ≡ true → ⊥) → list_any p xs ≡ false
list_any_false p [] h = refl
list_any_false p (x ∷ xs) h = elim (cases_Bool (p x)) [
  | inl on ↦ absurd (h x (Contains-here x xs) on)
  | inr off ↦ ap (λ b. b || list_any p xs) off ∙ list_any_false p xs (λ y k. h y (Contains-there x xs y k))
]

pub all_from : {X : Type 0} (P : X → Type 0) (xs : List X) → ((x : X) → Contains xs x → P x) → AllByRecursion P xs
all_from P [] h = tt
all_from P (x ∷ xs) h = (h x (Contains-here x xs), all_from P xs (λ y k. h y (Contains-there x xs y k)))

pub all_at : {X : Type 0} (P : X → Type 0) (xs : List X) (x : X) → AllByRecursion P xs → Contains xs x → P x
all_at P [] x h k = absurd (Contains-nil x k)
all_at P (y ∷ ys) x h k = elim (Contains-cases y ys x k) [
  | inl e ↦ subst P e h.0
  | inr there ↦ all_at P ys x h.1 there
]

pub sorted_append : {X : Type 0} (R : X → X → Ordering) (xs ys : List X) → IsStrictlySortedBy R xs → IsStrictlySortedBy R ys
    → ((x y : X) → Contains xs x → Contains ys y → R x y ≡ Less) → IsStrictlySortedBy R (xs ++ ys)
unfolding IsStrictlySortedBy
sorted_append R [] ys s t h = t
sorted_append R (x ∷ xs) ys s t h = (
  all_from (λ y. R x y ≡ Less) (xs ++ ys) (λ y k. elim (Contains-append_cases xs ys y k) [
    | inl in_xs ↦ all_at (λ y. R x y ≡ Less) xs y s.0 in_xs
    | inr in_ys ↦ h x y (Contains-here x xs) in_ys
  ]),
  sorted_append R xs ys s.1 t (λ a b k l. h a b (Contains-there x xs a k) l),
)

pub sorted_map : {X Y : Type 0} (R : X → X → Ordering) (S : Y → Y → Ordering) (f : X → Y)
    → ((x y : X) → R x y ≡ Less → S (f x) (f y) ≡ Less) → (xs : List X) → IsStrictlySortedBy R xs → IsStrictlySortedBy S (map f xs)
unfolding IsStrictlySortedBy
sorted_map R S f keeps [] s = tt
sorted_map R S f keeps (x ∷ xs) s = (
  all_from (λ y. S (f x) y ≡ Less) (map f xs) (λ y k.
      let r = Contains-map_cases f xs y k in
      ap (λ z. S (f x) z) (sym r.2) ∙ keeps x r.0 (all_at (λ y. R x y ≡ Less) xs r.0 s.0 r.1)),
  sorted_map R S f keeps xs s.1,
)

pub sorted_flat_map : {X Y : Type 0} (R : X → X → Ordering) (S : Y → Y → Ordering) (f : X → List Y)
    → ((x : X) → IsStrictlySortedBy S (f x))
    → ((x y : X) (u v : Y) → R x y ≡ Less → Contains (f x) u → Contains (f y) v → S u v ≡ Less)
    → (xs : List X) → IsStrictlySortedBy R xs → IsStrictlySortedBy S (flat_map f xs)
unfolding IsStrictlySortedBy
sorted_flat_map R S f each apart [] s = tt
sorted_flat_map R S f each apart (x ∷ xs) s =
    sorted_append S (f x) (flat_map f xs) (each x) (sorted_flat_map R S f each apart xs s.1)
    (λ u v k l.
    let r = Contains-flat_map_cases f xs v l in
    apart x r.0 u v (all_at (λ y. R x y ≡ Less) xs r.0 s.0 r.1) k r.2)

-- two lists that rise strictly and have the same members are one
module _ {X : Type 0} (R : X → X → Ordering) (asym : (x y : X) → R x y ≡ Less → R y x ≡ Less → ⊥) where
  same_heads : (x : X) (xs : List X) (y : X) (ys : List X) → IsStrictlySortedBy R (x ∷ xs) → IsStrictlySortedBy R (y ∷ ys)
      → Contains (y ∷ ys) x → Contains (x ∷ xs) y → x ≡ y
  unfolding IsStrictlySortedBy
  same_heads x xs y ys s t to from = elim (Contains-cases y ys x to) [
    | inl e ↦ sym e
    | inr later ↦ elim (Contains-cases x xs y from) [
      | inl e ↦ e
      | inr late ↦ absurd (asym y x (all_at (λ z. R y z ≡ Less) ys x t.0 later) (all_at (λ z. R x z ≡ Less) xs y s.0 late))
    ]
  ]

  tail_member : (x : X) (xs : List X) (y : X) (ys : List X) (c : X) → IsStrictlySortedBy R (x ∷ xs) → x ≡ y
      → Contains xs c → Contains (y ∷ ys) c → Contains ys c
  unfolding IsStrictlySortedBy
  tail_member x xs y ys c s e k there = elim (Contains-cases y ys c there) [
    | inl here ↦
        let less : R x x ≡ Less = ap (λ z. R x z) (e ∙ here) ∙ all_at (λ z. R x z ≡ Less) xs c s.0 k in
        absurd (asym x x less less)
    | inr later ↦ later
  ]

  pub same_from_members : (xs ys : List X) → IsStrictlySortedBy R xs → IsStrictlySortedBy R ys
      → ((c : X) → Contains xs c → Contains ys c) → ((c : X) → Contains ys c → Contains xs c) → xs ≡ ys
  unfolding IsStrictlySortedBy
  same_from_members [] [] s t to from = refl
  same_from_members [] (y ∷ ys) s t to from = absurd (Contains-nil y (from y (Contains-here y ys)))
  same_from_members (x ∷ xs) [] s t to from = absurd (Contains-nil x (to x (Contains-here x xs)))
  same_from_members (x ∷ xs) (y ∷ ys) s t to from =
      let heads = same_heads x xs y ys s t (to x (Contains-here x xs)) (from y (Contains-here y ys)) in
      ap (λ z. z ∷ xs) heads
      ∙ ap (λ zs. y ∷ zs) (same_from_members xs ys s.1 t.1
      (λ c k. tail_member x xs y ys c s heads k (to c (Contains-there x xs c k)))
      (λ c k. tail_member y ys x xs c t (sym heads) k (from c (Contains-there y ys c k))))
